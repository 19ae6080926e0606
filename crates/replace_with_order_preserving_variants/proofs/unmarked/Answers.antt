use native.Mathlib.Omega.{arith}
use mathlib.Core.Path.{refl, sym, ◌∙◌}
use mathlib.Core.Bool.{false}
use Prim.Native.Nat.{◌-◌}
use lib.ListN.{replicate}
use Rattle.arena.specs.Arena.{marked}
use Rattle.order_preservation_marks.specs.Nodes.{shown, child_asks, kid_below}
use Rattle.order_preservation_marks.specs.Marking.{nothing_left, cutting_none, cutting_room, cutting_more, cutting_all}
use Rattle.replace_with_order_preserving_variants.proofs.unmarked.Goals as goal

pub child_count-n-requires : goal.child_count-n-requires
child_count-n-requires c = c.requires.slots

pub loop-j-init : goal.loop-j-init
loop-j-init c = let m = c.args.m.now in let i = c.args.i in let a = c.requires in
    (c.child_count-n.ensures ∙ (shown m i a).count, cutting_none m i (λ k. false) a (replicate 8 0) refl)

pub child-k-requires : goal.child-k-requires
child-k-requires c = let m = c.args.m.now in let i = c.args.i in let a = c.requires in
    let l = c.loop-j in let e = l.invariant.0 in let q = l.invariant.1 in child_asks m i a l.j (let x = c.loop-j-test.true in omega arith)

pub set_mark-requires : goal.set_mark-requires
set_mark-requires c = let m = c.args.m.now in let i = c.args.i in let a = c.requires in
    let l = c.loop-j in let e = l.invariant.0 in let q = l.invariant.1 in
    let y = kid_below m i a l.j (let x = c.loop-j-test.true in omega arith) _ c.child-k.ensures in let z = a.small in omega arith

pub offset_bounds-kids-j : goal.offset_bounds-kids-j
offset_bounds-kids-j c = let m = c.args.m.now in let i = c.args.i in let a = c.requires in
    let l = c.loop-j in let e = l.invariant.0 in let q = l.invariant.1 in
    let y = cutting_room m i (λ k. false) a l.j l.kids q (let x = c.loop-j-test.true in omega arith) in omega arith

pub bounds-kids-j : goal.bounds-kids-j
bounds-kids-j c = let m = c.args.m.now in let i = c.args.i in let a = c.requires in
    let l = c.loop-j in let e = l.invariant.0 in let q = l.invariant.1 in
    let y = cutting_room m i (λ k. false) a l.j l.kids q (let x = c.loop-j-test.true in omega arith) in let z = q.made.wide in
    omega arith

pub loop-j-preserved : goal.loop-j-preserved
loop-j-preserved c = let m = c.args.m.now in let i = c.args.i in let a = c.requires in
    let l = c.loop-j in let e = l.invariant.0 in let q = l.invariant.1 in (
      e,
      cutting_more m i (λ k. false) a l.j l.kids q (let x = c.loop-j-test.true in omega arith) _ c.child-k.ensures false
          (sym (nothing_left (marked c.child-k.result))) _ c.set_mark.ensures,
    )

pub returns : goal.returns
returns c = let m = c.args.m.now in let i = c.args.i in let a = c.requires in let l = c.loop-j in
    let e = l.invariant.0 in let q = l.invariant.1 in cutting_all m i (λ k. false) a l.j l.kids q (let x = c.loop-j-test.false in omega arith)
