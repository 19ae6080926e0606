use mathlib.Core.Path.{◌≡◌}
use lib.ListN.{length}
use Rattle.arena.specs.Arena.{index, slot}
use Rattle.partial_sort_by_number.specs.ByNumber.{Copying}
use Rattle.partial_sort_by_number.proofs.with_child.Given as goal

abbrev pub invariant-loop-l : goal.invariant-loop-l
invariant-loop-l l = (l.c ≡ length (slot l.m (index l.h)).kids) × Copying (slot l.m (index l.h)).kids l.l l.out
