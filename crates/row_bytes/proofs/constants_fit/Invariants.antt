use mathlib.Core.Path.{◌≡◌}
use mathlib.Core.Bool.{true}
use Rattle.scan.specs.Bytes.{all_below}
use Rattle.row_bytes.specs.Constants.{constant_ok}
use Rattle.row_bytes.proofs.constants_fit.Given as goal

abbrev pub invariant-loop-c : goal.invariant-loop-c
invariant-loop-c l = all_below (constant_ok l.set l.s l.at l.w l.k) l.c ≡ true
