use native.Mathlib.Omega.{arith}
use Prim.Native.Nat.{◌*◌}
use Rattle.arena.specs.Laws.{below_at}
use Rattle.plan_context.specs.Nodes.{proper}
use Rattle.plan_updates.specs.Putting.{put_over}
use Rattle.order_preservation_marks.specs.Replacing.{slot_arena, some_kid, one_child}
use Rattle.order_preserving_plans.specs.Preserving.{repartition_kept, repartition_puts, repartition-marked}
use Rattle.order_preserving_plans.proofs.preserving.preserve_repartition.Goals as goal

pub maintains_input_order-requires : goal.maintains_input_order-requires
maintains_input_order-requires c = let m = c.args.m.now in let w = c.args.w in let i = c.args.i in
    let r = c.args.r.now in let ks = c.args.ks.now in let p = c.requires.0 in let h = c.requires.1 in let er = c.requires.2 in let e = c.requires.3 in
    (slot_arena m w i r ks p h, some_kid m w i r ks p h er e)

pub with_mark-x-requires : goal.with_mark-x-requires
with_mark-x-requires c = let m = c.args.m.now in let w = c.args.w in
    let r = c.args.r.now in let ks = c.args.ks.now in let p = c.requires.0 in (proper m r ks (put_over m w r ks p)).long

pub bounds-ks-0 : goal.bounds-ks-0
bounds-ks-0 c = let m = c.args.m.now in let w = c.args.w in
    let i = c.args.i in let r = c.args.r.now in let ks = c.args.ks.now in let p = c.requires.0 in let h = c.requires.1 in let er = c.requires.2 in
    let e = c.requires.3 in let n = one_child m w i r ks p h er e in omega arith

pub set_mark-requires : goal.set_mark-requires
set_mark-requires c = let m = c.args.m.now in let w = c.args.w in
    let i = c.args.i in let r = c.args.r.now in let ks = c.args.ks.now in let p = c.requires.0 in let h = c.requires.1 in let er = c.requires.2 in
    let e = c.requires.3 in let n = one_child m w i r ks p h er e in let l = below_at (2 * w) ks 0 p.below (omega arith) in let z = p.small in omega arith

pub update_plan_from_children-requires : goal.update_plan_from_children-requires
update_plan_from_children-requires c = let m = c.args.m.now in let w = c.args.w in let i = c.args.i in let r = c.args.r.now in let ks = c.args.ks.now in let p = c.requires.0 in
    let h = c.requires.1 in let er = c.requires.2 in let e = c.requires.3 in (
      repartition_puts m w i r ks p h er e c.args.spr _ c.maintains_input_order.ensures _
          c.with_mark-x.ensures _ c.set_mark.ensures,
      h,
    )

pub returns-then-maintains_input_order-spr : goal.returns-then-maintains_input_order-spr
returns-then-maintains_input_order-spr c = let m = c.args.m.now in let w = c.args.w in let i = c.args.i in let r = c.args.r.now in let ks = c.args.ks.now in let p = c.requires.0 in
    let h = c.requires.1 in let er = c.requires.2 in let e = c.requires.3 in
    repartition-marked m w i r ks p h er e c.args.spr _
    c.maintains_input_order.ensures _
    c.with_mark-x.ensures _
    c.set_mark.ensures
    c.if-maintains_input_order-spr.true _ c.update_plan_from_children.result
    c.update_plan_from_children.ensures

pub returns : goal.returns
returns c = let m = c.args.m.now in let w = c.args.w in
    let i = c.args.i in let r = c.args.r.now in let ks = c.args.ks.now in let p = c.requires.0 in let h = c.requires.1 in let er = c.requires.2 in
    let e = c.requires.3 in repartition_kept m w i r ks p h er e c.args.spr _ c.maintains_input_order.ensures
    c.if-maintains_input_order-spr.false _ c.update_plan_from_children-2.result
    c.update_plan_from_children-2.ensures
