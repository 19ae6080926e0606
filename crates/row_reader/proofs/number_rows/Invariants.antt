use mathlib.Core.Path.{◌≡◌}
use lib.ListN.{length, take}
use Rattle.row_order.specs.Lists.{tab}
use Rattle.row_reader.proofs.number_rows.Given as goal

abbrev pub invariant-loop-i : goal.invariant-loop-i
invariant-loop-i l = (length l.order ≡ length l.initial.order) × (take l.i l.order ≡ tab l.i (λ k. k))
