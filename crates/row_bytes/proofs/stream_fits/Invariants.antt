use mathlib.Core.Path.{◌≡◌}
use mathlib.Core.Bool.{true}
use Rattle.scan.specs.Bytes.{all_below}
use Rattle.row_bytes.specs.Rows.{rows_ok}
use Rattle.row_bytes.proofs.stream_fits.Given as goal

abbrev pub invariant-loop-i : goal.invariant-loop-i
invariant-loop-i l = all_below (rows_ok l.s l.at l.w) l.i ≡ true
