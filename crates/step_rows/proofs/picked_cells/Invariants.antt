use mathlib.Core.Path.{◌≡◌}
use lib.ListN.{length}
use Rattle.step_rows.specs.Projecting.{Picks}
use Rattle.step_rows.proofs.picked_cells.Given as goal

abbrev pub invariant-loop-j : goal.invariant-loop-j
invariant-loop-j l = (length l.picked ≡ 32) × Picks l.cells l.a l.cols l.j l.picked
