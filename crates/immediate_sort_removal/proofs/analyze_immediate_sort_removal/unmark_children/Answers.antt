use native.Mathlib.Omega.{arith}
use mathlib.Core.Path.{refl, sym, ap, ◌∙◌}
use Prim.Native.Nat.{◌-◌}
use lib.ListN.{length, replicate}
use lib.Seq.{length-take-le}
use Rattle.sort_connection.specs.Standing.{slot_room, kid_asks, kid_small}
use Rattle.immediate_sort_removal.specs.Immediate.{unmarking_none, unmark-standing, view, unmark_more, unmark_puts, unmark_grown}
use Rattle.immediate_sort_removal.proofs.analyze_immediate_sort_removal.unmark_children.Goals as goal

pub record_at-requires : goal.record_at-requires
record_at-requires c = slot_room c.args.m.now c.args.u c.args.h (unmark-standing c.args.m.now c.args.u c.args.h c.requires)

pub read64-r-requires : goal.read64-r-requires
read64-r-requires c = ap length c.record_at.ensures ∙ (view c.args.m.now c.args.u c.args.h c.requires).long

pub child_count-n-requires : goal.child_count-n-requires
child_count-n-requires c = slot_room c.args.m.now c.args.u c.args.h (unmark-standing c.args.m.now c.args.u c.args.h c.requires)

pub loop-j-init : goal.loop-j-init
loop-j-init c = (
  c.child_count-n.ensures ∙ (view c.args.m.now c.args.u c.args.h c.requires).count,
  unmarking_none c.args.m.now
      c.args.u _ (replicate 8 0) refl,
)

pub child-requires : goal.child-requires
child-requires c = let l = c.loop-j in
    let i₀ = l.invariant.0 in let x = c.loop-j-test.true in
    let f = (view c.args.m.now c.args.u c.args.h c.requires).few in let wd = l.invariant.1.wide in
    kid_asks c.args.m.now c.args.u c.args.h (unmark-standing c.args.m.now c.args.u c.args.h c.requires) l.j (omega arith)

pub set_mark-requires : goal.set_mark-requires
set_mark-requires c = let l = c.loop-j in let i₀ = l.invariant.0 in let x = c.loop-j-test.true in
    let f = (view c.args.m.now c.args.u c.args.h c.requires).few in let wd = l.invariant.1.wide in
    kid_small c.args.m.now c.args.u c.args.h (unmark-standing c.args.m.now c.args.u c.args.h c.requires) l.j (omega arith) _
    c.child.ensures

pub offset_bounds-kids-j : goal.offset_bounds-kids-j
offset_bounds-kids-j c = let l = c.loop-j in let i₀ = l.invariant.0 in let x = c.loop-j-test.true in
    let f = (view c.args.m.now c.args.u c.args.h c.requires).few in let wd = l.invariant.1.wide in omega arith

pub bounds-kids-j : goal.bounds-kids-j
bounds-kids-j c = let l = c.loop-j in let i₀ = l.invariant.0 in let x = c.loop-j-test.true in
    let f = (view c.args.m.now c.args.u c.args.h c.requires).few in let wd = l.invariant.1.wide in omega arith

pub loop-j-preserved : goal.loop-j-preserved
loop-j-preserved c = let l = c.loop-j in let i₀ = l.invariant.0 in let x = c.loop-j-test.true in
    let f = (view c.args.m.now c.args.u c.args.h c.requires).few in let wd = l.invariant.1.wide in (
      i₀,
      unmark_more c.args.m.now c.args.u c.args.h c.requires l.j l.kids l.invariant.1 (omega arith) _
          c.child.ensures _ c.set_mark.ensures,
    )

pub slice_bounds-kids-end : goal.slice_bounds-kids-end
slice_bounds-kids-end c = let l = c.loop-j in let i₀ = l.invariant.0 in let x = c.loop-j-test.false in
    let f = (view c.args.m.now c.args.u c.args.h c.requires).few in let wd = l.invariant.1.wide in omega arith

pub slice_bounds-put_again-end-2 : goal.slice_bounds-put_again-end-2
slice_bounds-put_again-end-2 c = let l = c.loop-j in let i₀ = l.invariant.0 in let x = c.loop-j-test.false in
    let f = (view c.args.m.now c.args.u c.args.h c.requires).few in let wd = l.invariant.1.wide in sym (length-take-le _ l.kids (omega arith))

pub put_again-requires : goal.put_again-requires
put_again-requires c = let l = c.loop-j in let i₀ = l.invariant.0 in let x = c.loop-j-test.false in
    let f = (view c.args.m.now c.args.u c.args.h c.requires).few in let wd = l.invariant.1.wide in
    unmark_puts c.args.m.now c.args.u c.args.h c.requires l.j _ l.kids l.invariant.1 (omega arith) i₀ _
    (c.read64-r.ensures
    ∙ c.record_at.ensures)

pub shape_of-m : goal.shape_of-m
shape_of-m c = c.put_again.auto.m

pub returns : goal.returns
returns c = let l = c.loop-j in let i₀ = l.invariant.0 in let x = c.loop-j-test.false in let f = (view c.args.m.now c.args.u c.args.h c.requires).few in
    let wd = l.invariant.1.wide in unmark_grown c.args.m.now c.args.u c.args.h c.requires l.j _ l.kids l.invariant.1 (omega arith) i₀ _
    (c.read64-r.ensures
    ∙ c.record_at.ensures) _ _
    c.put_again.ensures
