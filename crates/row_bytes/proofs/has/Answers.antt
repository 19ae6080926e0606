use Rattle.row_order.proofs.Comparing.{masked}
use Rattle.row_bytes.proofs.has.Goals as goal

pub returns : goal.returns
returns c = masked c.args.set c.args.c
