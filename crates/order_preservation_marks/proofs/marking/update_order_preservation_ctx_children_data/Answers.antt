use native.Mathlib.Omega.{arith}
use mathlib.Core.Path.{refl}
use Prim.Native.Nat.{◌-◌}
use lib.ListN.{replicate}
use Rattle.order_preservation_marks.specs.Marking.{going-none, going_asks, going_more, going_all}
use Rattle.order_preservation_marks.proofs.marking.update_order_preservation_ctx_children_data.Goals as goal

pub loop-j-init : goal.loop-j-init
loop-j-init c = let m = c.args.m.now in let u = c.args.u in let ks = c.args.ks.now in let p = c.requires in
    going-none m u ks p (replicate 8 0) refl

pub bounds-ks-j : goal.bounds-ks-j
bounds-ks-j c = c.loop-j-test.true

pub carry-r-requires : goal.carry-r-requires
carry-r-requires c = let m = c.args.m.now in let u = c.args.u in
    let ks = c.args.ks.now in let p = c.requires in let l = c.loop-j in
    going_asks m u ks p l.j l.w l.kids l.m l.invariant c.loop-j-test.true

pub offset_bounds-kids-j : goal.offset_bounds-kids-j
offset_bounds-kids-j c = let p = c.requires in
    let l = c.loop-j in let x = c.loop-j-test.true in
    let f = p.few in omega arith

pub bounds-kids-j : goal.bounds-kids-j
bounds-kids-j c = let p = c.requires in
    let l = c.loop-j in let x = c.loop-j-test.true in
    let f = p.few in let y = l.invariant.made.wide in omega arith

pub loop-j-preserved : goal.loop-j-preserved
loop-j-preserved c = let m = c.args.m.now in let u = c.args.u in
    let ks = c.args.ks.now in let p = c.requires in let l = c.loop-j in
    going_more m u ks p l.j l.w l.kids l.m l.invariant c.loop-j-test.true _
    c.carry-r.auto.m c.carry-r.result c.carry-r.ensures

pub shape_of-m : goal.shape_of-m
shape_of-m c = c.loop-j.invariant.made.long

pub returns : goal.returns
returns c = let m = c.args.m.now in let u = c.args.u in let ks = c.args.ks.now in let p = c.requires in
    let l = c.loop-j in going_all m u ks p l.j l.w l.kids l.m l.invariant (let x = c.loop-j-test.false in omega arith)
