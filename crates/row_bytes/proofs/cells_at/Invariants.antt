use mathlib.Core.Path.{◌≡◌}
use lib.ListN.{length, take}
use Rattle.stepping.specs.RowBytes.{numbers_at}
use Rattle.row_bytes.proofs.cells_at.Given as goal

abbrev pub invariant-loop-c : goal.invariant-loop-c
invariant-loop-c l = (length l.cells ≡ 32) × (take l.c l.cells ≡ numbers_at l.s l.at l.c)
