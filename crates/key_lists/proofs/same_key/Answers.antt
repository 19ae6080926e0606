use Rattle.key_lists.specs.Packing.{same_key}
use Rattle.key_lists.proofs.same_key.Goals as goal

pub returns : goal.returns
returns c = same_key c.args.a c.args.b
