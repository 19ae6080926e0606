use mathlib.Core.Path.{◌≡◌}
use mathlib.Core.Bool.{true}
use Rattle.scan.specs.Bytes.{all_below}
use Rattle.row_bytes.specs.Constants.{row_agrees}
use Rattle.row_bytes.proofs.stream_agrees.Given as goal

abbrev pub invariant-loop-i : goal.invariant-loop-i
invariant-loop-i l = all_below (row_agrees l.s l.first l.at l.w l.c) l.i ≡ true
