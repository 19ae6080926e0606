use mathlib.Core.Path.{◌≡◌}
use mathlib.Core.Bool.{true}
use Rattle.plan_format.specs.LastPass.{column_ok}
use Rattle.scan.specs.Bytes.{all_below}
use Rattle.column_rules.proofs.columns_ok.Given as goal

abbrev pub invariant-loop-i : goal.invariant-loop-i
invariant-loop-i l = all_below (column_ok l.l l.limit) l.i ≡ true
