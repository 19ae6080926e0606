use Prim.Native.Nat.{◌≤◌}
use lib.ListN.{length}
use Rattle.row_bytes.specs.Rows.{Counted}
use Rattle.row_bytes.proofs.rows_in_all.Given as goal

abbrev pub invariant-loop-j : goal.invariant-loop-j
invariant-loop-j l = (l.at ≤ length l.s) × Counted l.s l.widths l.at l.j l.rows
