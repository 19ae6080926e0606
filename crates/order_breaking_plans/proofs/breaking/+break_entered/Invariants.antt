use Rattle.walks.specs.Marks.{size_t}
use Rattle.plan_context.specs.View.{tree_of}
use mathlib.Core.Path.{◌≡◌}
use Prim.Native.Nat.{◌-◌, ◌/◌}
use lib.ListN.{length}
use Rattle.arena.specs.Arena.{slot}
use Rattle.order_preservation_marks.specs.Entering.{Going}
use Rattle.order_breaking_plans.specs.Breaking.{each_of}
use Rattle.order_breaking_plans.proofs.breaking.+break_entered.Given as goal

abbrev pub invariant-loop-j : goal.invariant-loop-j
invariant-loop-j l = (l.n ≡ length (slot l.initial.m (l.h / 2)).kids) × Going (each_of l.initial.m l.h) l.initial.m l.u l.h l.j l.w l.kids l.m

abbrev pub decreases-break_entered : goal.decreases-break_entered
decreases-break_entered l = size_t (tree_of l.m.now l.h)
