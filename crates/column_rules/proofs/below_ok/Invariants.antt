use mathlib.Core.Path.{◌≡◌}
use mathlib.Core.Bool.{true}
use lib.Dec.{ltb}
use lib.ListN.{get_or}
use Rattle.scan.specs.Bytes.{all_below}
use Rattle.column_rules.proofs.below_ok.Given as goal

abbrev pub invariant-loop-x : goal.invariant-loop-x
invariant-loop-x l = all_below (λ i'. ltb (get_or l.l i' 0) l.limit) l.x-index ≡ true
