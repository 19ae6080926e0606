use Rattle.walks.specs.Marks.{size_t}
use Rattle.plan_context.specs.View.{tree_of}
use mathlib.Core.Path.{◌≡◌}
use Prim.Native.Nat.{◌-◌}
use lib.ListN.{length}
use Rattle.arena.specs.Arena.{index, slot}
use Rattle.bottleneck_removal.specs.Removing.{Going}
use Rattle.bottleneck_removal.proofs.bottlenecks.+remove_bottleneck_in_subplan_impl.Given as goal

abbrev pub invariant-loop-j : goal.invariant-loop-j
invariant-loop-j l = (l.n ≡ length (slot l.initial.m (index l.h)).kids) × Going l.initial.m l.u l.h l.j l.w l.kids l.m

abbrev pub decreases-remove_bottleneck_in_subplan_impl : goal.decreases-remove_bottleneck_in_subplan_impl
decreases-remove_bottleneck_in_subplan_impl l = size_t (tree_of l.m.now l.h)
