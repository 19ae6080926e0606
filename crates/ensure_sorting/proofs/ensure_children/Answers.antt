use native.Mathlib.Omega.{arith}
use mathlib.Core.Path.{refl, sym, ap, subst, ◌∙◌}
use Prim.Native.Nat.{◌-◌}
use lib.ListN.{length, replicate}
use lib.Seq.{length-take-le}
use Rattle.plan_codec.specs.Decode.{decode}
use Rattle.semantics.specs.Properties.{wanted, singles}
use Rattle.key_lists.specs.Keys.{Ordered}
use Rattle.walks.specs.OutputRequirements.{output_fetch}
use Rattle.sort_connection.specs.Standing.{view, slot_room, own_proper}
use Rattle.plan_updates.specs.ChildLoop.{node_room, few_kids, kid_there}
use Rattle.ensure_sorting.specs.Loop.{standing, going-none, still, child_asks, going_more, going_ends, end_grown}
use Rattle.ensure_sorting.proofs.ensure_children.Goals as goal

pub record_at-requires : goal.record_at-requires
record_at-requires c = slot_room c.args.m.now c.args.u c.args.h (standing c.args.m.now c.args.u c.args.h c.requires)

pub read64-r-requires : goal.read64-r-requires
read64-r-requires c = ap length c.record_at.ensures ∙ (view c.args.m.now c.args.u c.args.h
    (standing c.args.m.now c.args.u c.args.h c.requires)).long

pub output_fetch-fetch-requires : goal.output_fetch-fetch-requires
output_fetch-fetch-requires c = own_proper c.args.m.now c.args.u c.args.h (standing c.args.m.now c.args.u c.args.h c.requires) _
    (c.read64-r.ensures ∙ c.record_at.ensures)

pub child_count-n-requires : goal.child_count-n-requires
child_count-n-requires c = slot_room c.args.m.now c.args.u c.args.h (standing c.args.m.now c.args.u c.args.h c.requires)

pub loop-j-init : goal.loop-j-init
loop-j-init c = let g = going-none c.args.m.now c.args.u c.args.h c.requires (replicate 8 0) refl in
    (c.child_count-n.ensures ∙ (few_kids c.requires.arena c.requires.here g.made).1, g)

pub child-k-requires : goal.child-k-requires
child-k-requires c = let l = c.loop-j in let i₀ = l.invariant.0 in let x = c.loop-j-test.true in
    let f = few_kids c.requires.arena c.requires.here l.invariant.1.made in let f₀ = f.0 in let f₁ = f.1 in let wd = l.invariant.1.made.wide in
    (node_room c.requires.arena c.requires.here l.invariant.1.made, omega arith, f.0)

pub maintains_child-keeps-requires : goal.maintains_child-keeps-requires
maintains_child-keeps-requires c = let l = c.loop-j in let i₀ = l.invariant.0 in let x = c.loop-j-test.true in (
  still c.args.m.now c.args.u c.args.h c.requires l.j l.w l.kids l.m l.invariant.1,
  kid_there c.requires.arena c.requires.here
      l.invariant.1.made (omega arith),
)

pub wants_single-single-requires : goal.wants_single-single-requires
wants_single-single-requires c = own_proper c.args.m.now c.args.u c.args.h (standing c.args.m.now c.args.u c.args.h c.requires) _
    (c.read64-r.ensures
    ∙ c.record_at.ensures)

pub wanted_order-order-requires : goal.wanted_order-order-requires
wanted_order-order-requires c = own_proper c.args.m.now c.args.u c.args.h (standing c.args.m.now c.args.u c.args.h c.requires) _
    (c.read64-r.ensures
    ∙ c.record_at.ensures)

pub ensure_child-a-requires : goal.ensure_child-a-requires
ensure_child-a-requires c = let l = c.loop-j in let i₀ = l.invariant.0 in
    let x = c.loop-j-test.true in
    child_asks c.args.m.now c.args.u c.args.h c.requires l.j l.w l.kids l.m l.invariant.1 (omega arith) _
    c.child-k.ensures _
    (subst (λ y. Ordered (wanted (decode y) l.j) c.wanted_order-order.result)
    (c.read64-r.ensures
    ∙ c.record_at.ensures)
    c.wanted_order-order.ensures) _ c.maintains_child-keeps.ensures _
    (c.wants_single-single.ensures ∙ ap (λ y. singles (decode y) l.j)
    (c.read64-r.ensures
    ∙ c.record_at.ensures)) _ (c.output_fetch-fetch.ensures
    ∙ ap (λ y. output_fetch (decode y))
    (c.read64-r.ensures
    ∙ c.record_at.ensures))

pub offset_bounds-kids-j : goal.offset_bounds-kids-j
offset_bounds-kids-j c = let l = c.loop-j in let i₀ = l.invariant.0 in
    let x = c.loop-j-test.true in
    let f = few_kids c.requires.arena c.requires.here l.invariant.1.made in let f₀ = f.0 in let f₁ = f.1 in let wd = l.invariant.1.made.wide in omega arith

pub bounds-kids-j : goal.bounds-kids-j
bounds-kids-j c = let l = c.loop-j in let i₀ = l.invariant.0 in
    let x = c.loop-j-test.true in
    let f = few_kids c.requires.arena c.requires.here l.invariant.1.made in let f₀ = f.0 in let f₁ = f.1 in let wd = l.invariant.1.made.wide in omega arith

pub loop-j-preserved : goal.loop-j-preserved
loop-j-preserved c = let l = c.loop-j in let i₀ = l.invariant.0 in
    let x = c.loop-j-test.true in (
      i₀,
      going_more c.args.m.now c.args.u c.args.h c.requires l.j l.w l.kids l.m l.invariant.1 (omega arith) _
          c.child-k.ensures _
          (subst (λ y. Ordered (wanted (decode y) l.j) c.wanted_order-order.result)
          (c.read64-r.ensures ∙ c.record_at.ensures) c.wanted_order-order.ensures) _
          c.maintains_child-keeps.ensures _
          (c.wants_single-single.ensures ∙ ap (λ y. singles (decode y) l.j)
          (c.read64-r.ensures ∙ c.record_at.ensures)) _
          (c.output_fetch-fetch.ensures ∙ ap (λ y. output_fetch (decode y))
          (c.read64-r.ensures ∙ c.record_at.ensures)) _ c.ensure_child-a.auto.m c.ensure_child-a.result
          c.ensure_child-a.ensures,
    )

pub slice_bounds-kids-end : goal.slice_bounds-kids-end
slice_bounds-kids-end c = let l = c.loop-j in let i₀ = l.invariant.0 in let x = c.loop-j-test.false in
    let f = few_kids c.requires.arena c.requires.here l.invariant.1.made in let f₀ = f.0 in let f₁ = f.1 in let wd = l.invariant.1.made.wide in omega arith

pub slice_bounds-finish-end-2 : goal.slice_bounds-finish-end-2
slice_bounds-finish-end-2 c = let l = c.loop-j in let i₀ = l.invariant.0 in let x = c.loop-j-test.false in
    let f = few_kids c.requires.arena c.requires.here l.invariant.1.made in let f₀ = f.0 in let f₁ = f.1 in let wd = l.invariant.1.made.wide in
    sym (length-take-le _ l.kids (omega arith))

pub finish-requires : goal.finish-requires
finish-requires c = let l = c.loop-j in let i₀ = l.invariant.0 in let x = c.loop-j-test.false in
    going_ends c.args.m.now c.args.u c.args.h c.requires l.j l.w l.kids l.m l.invariant.1 _ (omega arith) i₀ _
    (c.read64-r.ensures
    ∙ c.record_at.ensures)

pub shape_of-m : goal.shape_of-m
shape_of-m c = c.finish.auto.m ∙ c.loop-j.invariant.1.made.long

pub returns : goal.returns
returns c = let l = c.loop-j in let i₀ = l.invariant.0 in let x = c.loop-j-test.false in
    end_grown c.args.m.now c.args.u c.args.h c.requires l.j l.w l.kids l.m l.invariant.1 _ (omega arith) i₀ _
    (c.read64-r.ensures
    ∙ c.record_at.ensures) _ _
    c.finish.ensures
