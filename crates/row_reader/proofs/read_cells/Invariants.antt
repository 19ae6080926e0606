use Prim.Native.Nat.{◌+◌}
use mathlib.Core.Path.{◌≡◌}
use mathlib.Core.List.{◌++◌}
use lib.ListN.{length, take}
use Rattle.stepping.specs.RowBytes.{numbers_at}
use Rattle.row_reader.proofs.read_cells.Given as goal

abbrev pub invariant-loop-c : goal.invariant-loop-c
invariant-loop-c l = (length l.cells ≡ length l.initial.cells) × (take (l.b + l.c) l.cells ≡ take l.b l.initial.cells ++ numbers_at l.rows l.at l.c)
