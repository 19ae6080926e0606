use mathlib.Core.Path.{ap, ◌∙◌}
use lib.Bits.{bit_or}
use Rattle.row_order.specs.Packed.{bit}
use Rattle.column_sets.specs.Bits.{one_shifted, bit_with}
use Rattle.column_sets.proofs.with.Goals as goal

pub returns : goal.returns
returns c = λ d. ap (λ n. bit (bit_or c.args.set n) d) (one_shifted c.args.c c.requires) ∙ bit_with c.args.set c.args.c d
