use mathlib.Core.Path.{◌≡◌}
use mathlib.Core.Bool.{true}
use lib.Dec.{eqb}
use lib.ListN.{get_or}
use Rattle.scan.specs.Bytes.{all_below}
use Rattle.plan_reader.proofs.same_widths.Given as goal

abbrev pub invariant-loop-w : goal.invariant-loop-w
invariant-loop-w l = all_below (λ i. eqb (get_or l.ws i 0) (get_or l.ws 0 0)) l.w-index ≡ true
