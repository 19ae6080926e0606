use native.Mathlib.Omega.{arith}
use borrow.Author.Tests.{not-true, not-false}
use mathlib.Core.Path.{refl, sym, ap, ◌∙◌, subst}
use mathlib.Core.Bool.{◌&&◌}
use Prim.Native.Nat.{◌-◌}
use lib.ListN.{length, replicate}
use lib.Seq.{length-take-le}
use Rattle.record_fields.specs.Proper.{Proper}
use Rattle.plan_updates.specs.ChildLoop.{node_room, few_kids}
use Rattle.bottleneck_removal.specs.Shown.{node_proper}
use Rattle.bottleneck_removal.specs.Removing.{own, shown, own_asks, stays, first_lifts, first_grown, others, going-none, going_next, going_more, end_puts, end_grown}
use Rattle.std.specs.Prelude.{not}
use Rattle.bottleneck_removal.proofs.bottlenecks.+remove_bottleneck_in_subplan_impl.Goals as goal

pub returns-then-not-is_marked-removable : goal.returns-then-not-is_marked-removable
returns-then-not-is_marked-removable t c = stays c.args.m.now c.args.u c.args.h
    c.requires c.args.removable
    (sym (ap (λ b. b && c.args.removable) c.is_marked.ensures) ∙ not-true _ (ap not c.if-not-is_marked-removable.true))

pub record_at-requires : goal.record_at-requires
record_at-requires t c = (own_asks c.args.m.now c.args.u
    c.args.h c.requires).0

pub read64-r-requires : goal.read64-r-requires
read64-r-requires t c = ap length c.record_at.ensures ∙ (own_asks c.args.m.now
    c.args.u c.args.h
    c.requires).1

pub removes_first-requires : goal.removes_first-requires
removes_first-requires t c = (
  own c.args.m.now
      c.args.u
      c.args.h
      c.requires,
  (c.read64-r.ensures ∙ c.record_at.ensures),
)

pub lift_first-requires : goal.lift_first-requires
lift_first-requires t c = first_lifts c.args.m.now
    c.args.u
    c.args.h
    c.requires
    c.args.removable
    (sym (ap (λ b. b && c.args.removable)
    c.is_marked.ensures)
    ∙ not-false _ (ap not c.if-not-is_marked-removable.false))
    c.removes_first.result c.removes_first.ensures c.if-removes_first.true _
    (c.read64-r.ensures ∙ c.record_at.ensures)

pub shape_of-m-then-removes_first : goal.shape_of-m-then-removes_first
shape_of-m-then-removes_first t c = c.lift_first.auto.m

pub returns-then-removes_first : goal.returns-then-removes_first
returns-then-removes_first t c = first_grown c.args.m.now c.args.u
    c.args.h
    c.requires
    c.args.removable
    (sym (ap (λ b. b && c.args.removable) c.is_marked.ensures)
    ∙ not-false _ (ap not c.if-not-is_marked-removable.false))
    c.removes_first.result
    c.removes_first.ensures c.if-removes_first.true _
    (c.read64-r.ensures
    ∙ c.record_at.ensures) _ c.lift_first.result
    c.lift_first.ensures

pub child_count-n-requires : goal.child_count-n-requires
child_count-n-requires t c = (own_asks c.args.m.now
    c.args.u
    c.args.h
    c.requires).0

pub loop-j-init : goal.loop-j-init
loop-j-init t c = (
  c.child_count-n.ensures
      ∙ (shown c.args.m.now
      c.args.u
      c.args.h
      c.requires).count,
  going-none c.args.m.now
      c.args.u
      c.args.h
      c.requires (replicate 8 0) refl,
)

pub child-k-requires : goal.child-k-requires
child-k-requires t c = let i₀ = c.loop-j.invariant.0 in let f = few_kids c.requires.arena c.requires.here
    c.loop-j.invariant.1.made in let f₀ = f.0 in let f₁ = f.1 in let wd = c.loop-j.invariant.1.made.wide in
    let x = c.loop-j-test.true in (
      node_room c.requires.arena
          c.requires.here
          c.loop-j.invariant.1.made,
      omega arith,
      f.0,
    )

pub wants_single-one-requires : goal.wants_single-one-requires
wants_single-one-requires t c = subst Proper (sym (c.read64-r.ensures
    ∙ c.record_at.ensures))
    (node_proper _ _ (own c.args.m.now
    c.args.u
    c.args.h
    c.requires))

pub remove_bottleneck_in_subplan_impl-a-requires : goal.remove_bottleneck_in_subplan_impl-a-requires
remove_bottleneck_in_subplan_impl-a-requires t c = let i₀ = c.loop-j.invariant.0 in
    let x = c.loop-j-test.true in
    let q = going_next c.args.m.now
    c.args.u c.args.h
    c.requires c.loop-j.j c.loop-j.w
    c.loop-j.kids c.loop-j.m
    c.loop-j.invariant.1 (omega arith) c.child-k.result
    c.child-k.ensures in let q₀ = q.0 in
    let g = c.decreases in (omega arith, q.1)

pub offset_bounds-kids-j : goal.offset_bounds-kids-j
offset_bounds-kids-j t c = let i₀ = c.loop-j.invariant.0 in
    let f = few_kids c.requires.arena
    c.requires.here c.loop-j.invariant.1.made in
    let f₀ = f.0 in let f₁ = f.1 in let wd = c.loop-j.invariant.1.made.wide in
    let x = c.loop-j-test.true in omega arith

pub bounds-kids-j : goal.bounds-kids-j
bounds-kids-j t c = let i₀ = c.loop-j.invariant.0 in
    let f = few_kids c.requires.arena
    c.requires.here c.loop-j.invariant.1.made in
    let f₀ = f.0 in let f₁ = f.1 in let wd = c.loop-j.invariant.1.made.wide in
    let x = c.loop-j-test.true in omega arith

pub loop-j-preserved : goal.loop-j-preserved
loop-j-preserved t c = let i₀ = c.loop-j.invariant.0 in
    let x = c.loop-j-test.true in (
      i₀,
      going_more c.args.m.now
          c.args.u
          c.args.h
          c.requires c.loop-j.j
          c.loop-j.w
          c.loop-j.kids
          c.loop-j.m
          c.loop-j.invariant.1 (omega arith)
          c.child-k.result c.child-k.ensures _
          (c.read64-r.ensures
          ∙ c.record_at.ensures) c.wants_single-one.result c.wants_single-one.ensures _
          c.remove_bottleneck_in_subplan_impl-a.auto.m c.remove_bottleneck_in_subplan_impl-a.result
          c.remove_bottleneck_in_subplan_impl-a.ensures,
    )

pub slice_bounds-kids-end : goal.slice_bounds-kids-end
slice_bounds-kids-end t c = let i₀ = c.loop-j.invariant.0 in let f = few_kids c.requires.arena c.requires.here c.loop-j.invariant.1.made in let f₀ = f.0 in let f₁ = f.1 in
    let wd = c.loop-j.invariant.1.made.wide in let x = c.loop-j-test.false in omega arith

pub slice_bounds-without_idle-end-2 : goal.slice_bounds-without_idle-end-2
slice_bounds-without_idle-end-2 t c = let i₀ = c.loop-j.invariant.0 in
    let f = few_kids c.requires.arena c.requires.here c.loop-j.invariant.1.made in let f₀ = f.0 in let f₁ = f.1 in
    let wd = c.loop-j.invariant.1.made.wide in let x = c.loop-j-test.false in
    sym (length-take-le _ c.loop-j.kids (omega arith))

pub without_idle-requires : goal.without_idle-requires
without_idle-requires t c = let i₀ = c.loop-j.invariant.0 in let x = c.loop-j-test.false in
    end_puts c.args.m.now c.args.u c.args.h c.requires c.loop-j.j c.loop-j.w
    c.loop-j.kids c.loop-j.m c.loop-j.invariant.1 _
    (omega arith) i₀ _ (c.read64-r.ensures
    ∙ c.record_at.ensures)

pub shape_of-m : goal.shape_of-m
shape_of-m t c = c.without_idle.auto.m ∙ c.loop-j.invariant.1.made.long

pub returns : goal.returns
returns t c = let i₀ = c.loop-j.invariant.0 in
    let x = c.loop-j-test.false in
    end_grown c.args.m.now
    c.args.u c.args.h
    c.requires c.loop-j.j
    c.loop-j.w c.loop-j.kids
    c.loop-j.m c.loop-j.invariant.1 _
    (omega arith) i₀ _ (c.read64-r.ensures
    ∙ c.record_at.ensures)
    c.args.removable
    (others c.args.m.now
    c.args.u c.args.h
    c.requires c.args.removable
    (sym (ap (λ b. b && c.args.removable)
    c.is_marked.ensures) ∙ not-false _
    (ap not c.if-not-is_marked-removable.false)) c.removes_first.result
    c.removes_first.ensures
    c.if-removes_first.false) _ c.without_idle.result
    c.without_idle.ensures
