use Prim.Native.Nat.{◌-◌}
use Rattle.order_preservation_marks.specs.Marking.{Going}
use Rattle.order_preservation_marks.proofs.marking.update_order_preservation_ctx_children_data.Given as goal

abbrev pub invariant-loop-j : goal.invariant-loop-j
invariant-loop-j l = Going l.initial.m l.u l.ks l.j l.w l.kids l.m
