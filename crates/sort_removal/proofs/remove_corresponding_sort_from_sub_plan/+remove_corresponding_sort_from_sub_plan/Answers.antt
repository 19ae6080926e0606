use native.Mathlib.Omega.{arith}
use mathlib.Core.Path.{refl, sym, ap, ◌∙◌}
use Prim.Native.Nat.{◌-◌}
use borrow.Author.Tests.{not-true, not-false}
use lib.ListN.{length, replicate}
use lib.Seq.{length-take-le}
use Rattle.plan_codec.specs.Decode.{decode}
use Rattle.semantics.specs.Properties.{singles}
use Rattle.sort_connection.specs.Standing.{view, slot_room, own_proper, is_code, not_code}
use Rattle.plan_updates.specs.ChildLoop.{same_slot, node_room, few_kids}
use Rattle.sort_removal.specs.Recursion.{standing, unmarked, going-none, going_next, going_more, going_rems, end_asks, going_end}
use Rattle.std.specs.Prelude.{not}
use Rattle.sort_removal.proofs.remove_corresponding_sort_from_sub_plan.+remove_corresponding_sort_from_sub_plan.Goals as goal

pub is_marked-requires : goal.is_marked-requires
is_marked-requires t c = tt

pub returns-then-not-is_marked : goal.returns-then-not-is_marked
returns-then-not-is_marked t c = unmarked c.args.m.now c.args.u c.args.h c.requires c.args.single (sym c.is_marked.ensures ∙ not-true _ (ap not c.if-not-is_marked.true))

pub record_at-requires : goal.record_at-requires
record_at-requires t c = slot_room c.args.m.now c.args.u c.args.h (standing c.args.m.now c.args.u c.args.h c.requires)

pub read64-r-requires : goal.read64-r-requires
read64-r-requires t c = ap length c.record_at.ensures ∙ (view c.args.m.now c.args.u c.args.h
    (standing c.args.m.now c.args.u c.args.h c.requires)).long

pub is_sort-requires : goal.is_sort-requires
is_sort-requires t c = own_proper c.args.m.now c.args.u c.args.h (standing c.args.m.now c.args.u c.args.h c.requires) _
    (c.read64-r.ensures ∙ c.record_at.ensures)

pub remove_sort-requires : goal.remove_sort-requires
remove_sort-requires t c = (
  c.requires,
  sym c.is_marked.ensures
      ∙ not-false _ (ap not c.if-not-is_marked.false),
  (c.read64-r.ensures ∙ c.record_at.ensures),
  is_code (decode c.read64-r.result) 7 _ c.is_sort.ensures
      c.if-is_sort.true,
)

pub shape_of-m-then-is_sort : goal.shape_of-m-then-is_sort
shape_of-m-then-is_sort t c = c.remove_sort.auto.m

pub returns-then-is_sort : goal.returns-then-is_sort
returns-then-is_sort t c = c.remove_sort.ensures

pub child_count-n-requires : goal.child_count-n-requires
child_count-n-requires t c = slot_room c.args.m.now c.args.u c.args.h (standing c.args.m.now c.args.u c.args.h c.requires)

pub loop-j-init : goal.loop-j-init
loop-j-init t c = let g = going-none c.args.m.now c.args.u c.args.h c.requires (replicate 8 0) refl in
    (c.child_count-n.ensures ∙ (few_kids c.requires.arena c.requires.here g.made).1, g)

pub child-k-requires : goal.child-k-requires
child-k-requires t c = let l = c.loop-j in
    let i₀ = l.invariant.0 in let x = c.loop-j-test.true in
    let f = few_kids c.requires.arena c.requires.here l.invariant.1.made in let f₀ = f.0 in let f₁ = f.1 in let wd = l.invariant.1.made.wide in
    (node_room c.requires.arena c.requires.here l.invariant.1.made, omega arith, f.0)

pub wants_single-one-requires : goal.wants_single-one-requires
wants_single-one-requires t c = own_proper c.args.m.now c.args.u c.args.h (standing c.args.m.now c.args.u c.args.h c.requires) _
    (c.read64-r.ensures
    ∙ c.record_at.ensures)

pub remove_corresponding_sort_from_sub_plan-a-requires : goal.remove_corresponding_sort_from_sub_plan-a-requires
remove_corresponding_sort_from_sub_plan-a-requires t c = let l = c.loop-j in let i₀ = l.invariant.0 in let x = c.loop-j-test.true in
    let q = going_next c.args.m.now c.args.u c.args.h c.requires l.j l.w l.kids l.m l.invariant.1 (omega arith) _
    c.child-k.ensures in let q₀ = q.0 in let g = c.decreases in (omega arith, q.1)

pub offset_bounds-kids-j : goal.offset_bounds-kids-j
offset_bounds-kids-j t c = let l = c.loop-j in let i₀ = l.invariant.0 in
    let x = c.loop-j-test.true in
    let f = few_kids c.requires.arena c.requires.here l.invariant.1.made in let f₀ = f.0 in let f₁ = f.1 in let wd = l.invariant.1.made.wide in
    omega arith

pub bounds-kids-j : goal.bounds-kids-j
bounds-kids-j t c = let l = c.loop-j in let i₀ = l.invariant.0 in
    let x = c.loop-j-test.true in
    let f = few_kids c.requires.arena c.requires.here l.invariant.1.made in let f₀ = f.0 in let f₁ = f.1 in let wd = l.invariant.1.made.wide in
    omega arith

pub loop-j-preserved : goal.loop-j-preserved
loop-j-preserved t c = let l = c.loop-j in let i₀ = l.invariant.0 in
    let x = c.loop-j-test.true in (
      i₀,
      going_more c.args.m.now c.args.u c.args.h c.requires l.j l.w l.kids l.m l.invariant.1 (omega arith) _
          c.child-k.ensures _ (c.wants_single-one.ensures
          ∙ ap (λ y. singles (decode y) l.j)
          (c.read64-r.ensures
          ∙ c.record_at.ensures)) _ c.remove_corresponding_sort_from_sub_plan-a.auto.m
          c.remove_corresponding_sort_from_sub_plan-a.result
          c.remove_corresponding_sort_from_sub_plan-a.ensures,
    )

pub slice_bounds-kids-end : goal.slice_bounds-kids-end
slice_bounds-kids-end t c = let l = c.loop-j in let i₀ = l.invariant.0 in let x = c.loop-j-test.false in
    let f = few_kids c.requires.arena c.requires.here l.invariant.1.made in let f₀ = f.0 in let f₁ = f.1 in let wd = l.invariant.1.made.wide in
    omega arith

pub slice_bounds-remove_by-end-2 : goal.slice_bounds-remove_by-end-2
slice_bounds-remove_by-end-2 t c = let l = c.loop-j in let i₀ = l.invariant.0 in let x = c.loop-j-test.false in
    let f = few_kids c.requires.arena c.requires.here l.invariant.1.made in let f₀ = f.0 in let f₁ = f.1 in let wd = l.invariant.1.made.wide in
    sym (length-take-le _ l.kids (omega arith))

pub remove_by-x-requires : goal.remove_by-x-requires
remove_by-x-requires t c = let l = c.loop-j in let i₀ = l.invariant.0 in let x = c.loop-j-test.false in (
  going_rems c.args.m.now c.args.u c.args.h c.requires l.j l.w l.kids l.m l.invariant.1 _ (omega arith) i₀,
  (c.read64-r.ensures
      ∙ c.record_at.ensures)
      ∙ ap (λ k. k.rec) (sym (same_slot c.requires.arena c.requires.here l.invariant.1.made)),
  not_code (decode c.read64-r.result) 7 _
      c.is_sort.ensures
      c.if-is_sort.false,
)

pub with_single_stream-requires : goal.with_single_stream-requires
with_single_stream-requires t c = let l = c.loop-j in let i₀ = l.invariant.0 in
    let x = c.loop-j-test.false in
    end_asks c.args.m.now c.args.u c.args.h c.requires l.j l.w l.kids l.m l.invariant.1 _ (omega arith) i₀ c.args.single
    (sym c.is_marked.ensures ∙ not-false _
    (ap not c.if-not-is_marked.false)) _ c.remove_by-x.auto.m c.remove_by-x.result
    c.remove_by-x.ensures

pub shape_of-m : goal.shape_of-m
shape_of-m t c = c.with_single_stream.auto.m
    ∙ c.remove_by-x.auto.m
    ∙ c.loop-j.invariant.1.made.long

pub returns : goal.returns
returns t c = let l = c.loop-j in let i₀ = l.invariant.0 in
    let x = c.loop-j-test.false in
    going_end c.args.m.now c.args.u c.args.h c.requires l.j l.w l.kids l.m l.invariant.1 _ (omega arith) i₀ c.args.single
    (sym c.is_marked.ensures
    ∙ not-false _ (ap not c.if-not-is_marked.false)) _ c.remove_by-x.auto.m
    c.remove_by-x.result
    c.remove_by-x.ensures _ _ c.with_single_stream.ensures
