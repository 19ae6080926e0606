use Rattle.std.specs.Prelude.{◌≡◌, length, take}
use Rattle.byte_rows.specs.Rows.{low_bytes}
use Rattle.byte_rows.proofs.write_row.Given as goal

abbrev pub invariant-loop-i : goal.invariant-loop-i
invariant-loop-i l = (length l.d ≡ length l.s) × (take (l.i) l.d ≡ take (l.i) (low_bytes l.s))
