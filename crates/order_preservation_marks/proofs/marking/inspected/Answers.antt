use native.Mathlib.Omega.{arith}
use mathlib.Core.Path.{refl, ap₂, ◌∙◌}
use mathlib.Core.Bool.{◌&&◌}
use Prim.Native.Nat.{◌-◌}
use lib.ListN.{replicate}
use Rattle.plan_codec.specs.Decode.{decode}
use Rattle.walks.specs.Marks.{known}
use Rattle.walks.specs.OrderPreserving.{inspect_child}
use Rattle.arena.specs.Arena.{slot}
use Rattle.plan_context.specs.View.{forest}
use Rattle.order_preservation_marks.specs.Nodes.{shown, child_asks, kid_below}
use Rattle.order_preservation_marks.specs.Marking.{cutting_none, cutting_room, cutting_more, cutting_all}
use Rattle.order_preservation_marks.proofs.marking.inspected.Goals as goal

pub child_count-n-requires : goal.child_count-n-requires
child_count-n-requires c = c.requires.slots

pub loop-j-init : goal.loop-j-init
loop-j-init c = let m = c.args.m.now in let i = c.args.i in let a = c.requires in
    let p = inspect_child (decode (slot m i).rec) (known (forest m (slot m i).kids)) in
    (c.child_count-n.ensures ∙ (shown m i a).count, cutting_none m i p a (replicate 8 0) refl)

pub child-k-requires : goal.child-k-requires
child-k-requires c = let m = c.args.m.now in let i = c.args.i in let a = c.requires in
    let l = c.loop-j in let e = l.invariant.0 in let q = l.invariant.1 in child_asks m i a l.j (let x = c.loop-j-test.true in omega arith)

pub inspect_child-requires : goal.inspect_child-requires
inspect_child-requires c = let a = c.requires in let l = c.loop-j in
    let e = l.invariant.0 in let q = l.invariant.1 in (a, (let x = c.loop-j-test.true in omega arith))

pub set_mark-requires : goal.set_mark-requires
set_mark-requires c = let m = c.args.m.now in let i = c.args.i in
    let a = c.requires in let l = c.loop-j in let e = l.invariant.0 in let q = l.invariant.1 in
    let y = kid_below m i a l.j (let x = c.loop-j-test.true in omega arith) _ c.child-k.ensures in
    let z = a.small in omega arith

pub offset_bounds-kids-j : goal.offset_bounds-kids-j
offset_bounds-kids-j c = let m = c.args.m.now in let i = c.args.i in let a = c.requires in
    let l = c.loop-j in let e = l.invariant.0 in let q = l.invariant.1 in
    let p = inspect_child (decode (slot m i).rec) (known (forest m (slot m i).kids)) in
    let y = cutting_room m i p a l.j l.kids q (let x = c.loop-j-test.true in omega arith) in omega arith

pub bounds-kids-j : goal.bounds-kids-j
bounds-kids-j c = let m = c.args.m.now in let i = c.args.i in
    let a = c.requires in let l = c.loop-j in let e = l.invariant.0 in let q = l.invariant.1 in
    let p = inspect_child (decode (slot m i).rec) (known (forest m (slot m i).kids)) in
    let y = cutting_room m i p a l.j l.kids q (let x = c.loop-j-test.true in omega arith) in let z = q.made.wide in
    omega arith

pub loop-j-preserved : goal.loop-j-preserved
loop-j-preserved c = let m = c.args.m.now in let i = c.args.i in
    let a = c.requires in let l = c.loop-j in let e = l.invariant.0 in let q = l.invariant.1 in
    let p = inspect_child (decode (slot m i).rec) (known (forest m (slot m i).kids)) in (
      e,
      cutting_more m i p a l.j l.kids q (let x = c.loop-j-test.true in
          omega arith) _ c.child-k.ensures _ (ap₂ ◌&&◌ c.is_marked.ensures c.inspect_child.ensures) _
          c.set_mark.ensures,
    )

pub returns : goal.returns
returns c = let m = c.args.m.now in let i = c.args.i in let a = c.requires in let l = c.loop-j in
    let e = l.invariant.0 in let q = l.invariant.1 in let p = inspect_child (decode (slot m i).rec) (known (forest m (slot m i).kids)) in
    cutting_all m i p a l.j l.kids q (let x = c.loop-j-test.false in omega arith)
