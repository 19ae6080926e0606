use mathlib.Core.Path.{◌≡◌}
use mathlib.Core.Bool.{true, not}
use lib.Dec.{eqb}
use lib.ListN.{get_or}
use Rattle.scan.specs.Bytes.{all_below}
use Rattle.column_rules.proofs.fresh_ok.Given as goal

abbrev pub invariant-loop-j : goal.invariant-loop-j
invariant-loop-j l = all_below (λ j'. not (eqb (get_or l.l j' 0) (get_or l.l l.i 0))) l.j ≡ true
