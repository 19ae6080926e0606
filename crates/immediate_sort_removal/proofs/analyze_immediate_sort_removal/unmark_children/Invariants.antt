use mathlib.Core.Path.{◌≡◌}
use Prim.Native.Nat.{◌-◌}
use lib.ListN.{length}
use Rattle.arena.specs.Arena.{index, slot}
use Rattle.immediate_sort_removal.specs.Immediate.{Unmarking}
use Rattle.immediate_sort_removal.proofs.analyze_immediate_sort_removal.unmark_children.Given as goal

abbrev pub invariant-loop-j : goal.invariant-loop-j
invariant-loop-j l = (l.n ≡ length (slot l.m (index l.h)).kids) × Unmarking l.m l.u (slot l.m (index l.h)).kids l.j l.kids
