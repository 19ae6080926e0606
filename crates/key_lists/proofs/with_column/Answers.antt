use Rattle.key_lists.specs.Packing.{with_column_lem}
use Rattle.key_lists.proofs.with_column.Goals as goal

pub returns : goal.returns
returns c = with_column_lem c.args.key c.args.c c.ranges.key.fits c.requires
