use mathlib.Core.Path.{◌≡◌}
use Prim.Native.Nat.{◌-◌}
use lib.ListN.{length}
use Rattle.plan_codec.specs.Decode.{decode}
use Rattle.walks.specs.Marks.{known}
use Rattle.walks.specs.OrderPreserving.{inspect_child}
use Rattle.arena.specs.Arena.{slot}
use Rattle.plan_context.specs.View.{forest}
use Rattle.order_preservation_marks.specs.Marking.{Cutting}
use Rattle.order_preservation_marks.proofs.marking.inspected.Given as goal

abbrev pub invariant-loop-j : goal.invariant-loop-j
invariant-loop-j l = (l.n ≡ length (slot l.m l.i).kids) × Cutting l.m l.i (inspect_child (decode (slot l.m l.i).rec) (known (forest l.m (slot l.m l.i).kids))) l.j
    l.kids
