use mathlib.Core.Path.{ap}
use lib.Bits.{bit_or}
use Rattle.column_sets.specs.Bits.{one_shifted}
use Rattle.key_list_algebra.proofs.joined.Goals as goal

pub returns : goal.returns
returns c = ap (bit_or c.args.set) (one_shifted c.args.c c.requires)
