use mathlib.Core.Path.{◌≡◌}
use mathlib.Core.Bool.{true}
use Rattle.scan.specs.Bytes.{all_below}
use Rattle.row_bytes.specs.Rows.{column_ok}
use Rattle.row_bytes.proofs.row_fits.Given as goal

abbrev pub invariant-loop-c : goal.invariant-loop-c
invariant-loop-c l = all_below (column_ok l.s l.at l.nulls) l.c ≡ true
