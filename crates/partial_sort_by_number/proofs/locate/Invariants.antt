use mathlib.Core.Path.{◌≡◌}
use lib.ListN.{length}
use Rattle.arena.specs.Arena.{index, slot}
use Rattle.partial_sort_by_number.specs.AtNumber.{Passing}
use Rattle.partial_sort_by_number.proofs.locate.Given as goal

abbrev pub invariant-loop-j : goal.invariant-loop-j
invariant-loop-j l = (l.c ≡ length (slot l.m (index l.h)).kids) × Passing l.m l.h l.n l.j l.left
