use Rattle.walks.specs.Marks.{size_t}
use Rattle.plan_context.specs.View.{tree_of}
use mathlib.Core.Path.{◌≡◌}
use Prim.Native.Nat.{◌-◌}
use lib.ListN.{length}
use Rattle.arena.specs.Arena.{index, slot}
use Rattle.sort_removal.specs.Recursion.{Going}
use Rattle.sort_removal.proofs.remove_corresponding_sort_from_sub_plan.+remove_corresponding_sort_from_sub_plan.Given as goal

abbrev pub invariant-loop-j : goal.invariant-loop-j
invariant-loop-j l = (l.n ≡ length (slot l.initial.m (index l.h)).kids) × Going l.initial.m l.u l.h l.j l.w l.kids l.m

abbrev pub decreases-remove_corresponding_sort_from_sub_plan : goal.decreases-remove_corresponding_sort_from_sub_plan
decreases-remove_corresponding_sort_from_sub_plan l = size_t (tree_of l.m.now l.h)
