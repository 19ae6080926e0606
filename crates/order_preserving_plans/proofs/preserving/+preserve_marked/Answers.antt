use native.Mathlib.Omega.{arith}
use mathlib.Core.Path.{refl, sym, ap, ◌∙◌, subst}
use Prim.Native.Nat.{◌-◌, ◌/◌}
use borrow.Author.Tests.{not-true, not-false}
use lib.ListN.{length, replicate}
use lib.Seq.{length-take-le}
use Rattle.plan_codec.specs.Decode.{decode}
use Rattle.record_fields.specs.Proper.{Proper}
use Rattle.order_preservation_marks.specs.Nodes.{slot_proper}
use Rattle.order_preservation_marks.specs.Marking.{is_fetched_coalesce}
use Rattle.plan_updates.specs.ChildLoop.{up_to, node_arena, few_kids}
use Rattle.order_preservation_marks.specs.Entering.{going-none, going_here}
use Rattle.order_preserving_plans.specs.Preserving.{each_of, unmarked, fetched_stays, preserve_next, preserve_more, preserve_puts, preserve_ok, preserve_plain, preserve_end}
use Rattle.std.specs.Prelude.{not}
use Rattle.order_preserving_plans.proofs.preserving.+preserve_marked.Goals as goal

pub returns-then-not-is_marked : goal.returns-then-not-is_marked
returns-then-not-is_marked t c = let m = c.args.m.now in let u = c.args.u in let h = c.args.h in
    let spr = c.args.spr in let spm = c.args.spm in let f = c.args.fetch in let p = c.requires in
    unmarked m u h spr spm f p (sym c.is_marked.ensures ∙ not-true _ (ap not c.if-not-is_marked.true))

pub record_at-requires : goal.record_at-requires
record_at-requires t c = let p = c.requires in
    (up_to p.enters.arena p.enters.here).slots

pub is_fetched_coalesce-requires : goal.is_fetched_coalesce-requires
is_fetched_coalesce-requires t c = let m = c.args.m.now in let h = c.args.h in
    let p = c.requires in subst Proper (sym c.record_at.ensures) (slot_proper m (h / 2) (up_to p.enters.arena p.enters.here))

pub set_mark-requires : goal.set_mark-requires
set_mark-requires t c = let p = c.requires in
    let a = p.enters.here in let b = p.enters.arena.small in omega arith

pub shape_of-m-then-is_fetched_coalesce : goal.shape_of-m-then-is_fetched_coalesce
shape_of-m-then-is_fetched_coalesce t c = refl

pub returns-then-is_fetched_coalesce : goal.returns-then-is_fetched_coalesce
returns-then-is_fetched_coalesce t c = let m = c.args.m.now in
    let u = c.args.u in let h = c.args.h in let spr = c.args.spr in let spm = c.args.spm in let f = c.args.fetch in let p = c.requires in
    fetched_stays m u h spr spm f p (sym c.is_marked.ensures
    ∙ not-false _ (ap not c.if-not-is_marked.false))
    (sym (c.is_fetched_coalesce.ensures ∙ ap (λ x. is_fetched_coalesce (decode x)) c.record_at.ensures)
    ∙ c.if-is_fetched_coalesce.true) _ c.set_mark.ensures

pub child_count-n-requires : goal.child_count-n-requires
child_count-n-requires t c = let p = c.requires in
    (up_to p.enters.arena p.enters.here).slots

pub loop-j-init : goal.loop-j-init
loop-j-init t c = let m = c.args.m.now in
    let u = c.args.u in let h = c.args.h in let spr = c.args.spr in let spm = c.args.spm in let f = c.args.fetch in let p = c.requires in
    let g = going-none m u h p.enters (each_of spr spm f) (replicate 8 0) refl in
    (c.child_count-n.ensures ∙ (few_kids p.enters.arena p.enters.here g.made).1, g)

pub child-k-requires : goal.child-k-requires
child-k-requires t c = let m = c.args.m.now in let u = c.args.u in let h = c.args.h in let spr = c.args.spr in let spm = c.args.spm in let f = c.args.fetch in
    let p = c.requires in let l = c.loop-j in let i₀ = l.invariant.0 in let g = l.invariant.1 in
    let k = few_kids p.enters.arena p.enters.here g.made in let k₀ = k.0 in let k₁ = k.1 in let x = c.loop-j-test.true in
    ((node_arena p.enters.arena p.enters.here g.made).slots, omega arith, k₀)

pub preserve_marked-r-requires : goal.preserve_marked-r-requires
preserve_marked-r-requires t c = let m = c.args.m.now in
    let u = c.args.u in let h = c.args.h in let spr = c.args.spr in let spm = c.args.spm in let f = c.args.fetch in let p = c.requires in
    let l = c.loop-j in let i₀ = l.invariant.0 in let g = l.invariant.1 in
    let x = c.loop-j-test.true in
    let q = preserve_next m u h spr spm f p l.j l.w l.kids l.m g (omega arith) _ c.child-k.ensures in let q₀ = q.0 in
    let z = c.decreases in (omega arith, q.1)

pub offset_bounds-kids-j : goal.offset_bounds-kids-j
offset_bounds-kids-j t c = let m = c.args.m.now in let u = c.args.u in let h = c.args.h in let spr = c.args.spr in let spm = c.args.spm in let f = c.args.fetch in
    let p = c.requires in let l = c.loop-j in let i₀ = l.invariant.0 in let g = l.invariant.1 in let k = few_kids p.enters.arena p.enters.here g.made in let k₀ = k.0 in let k₁ = k.1 in
    let x = c.loop-j-test.true in omega arith

pub bounds-kids-j : goal.bounds-kids-j
bounds-kids-j t c = let m = c.args.m.now in let u = c.args.u in let h = c.args.h in let spr = c.args.spr in let spm = c.args.spm in let f = c.args.fetch in
    let p = c.requires in let l = c.loop-j in let i₀ = l.invariant.0 in let g = l.invariant.1 in let k = few_kids p.enters.arena p.enters.here g.made in let k₀ = k.0 in let k₁ = k.1 in
    let x = c.loop-j-test.true in let z = g.made.wide in omega arith

pub loop-j-preserved : goal.loop-j-preserved
loop-j-preserved t c = let m = c.args.m.now in let u = c.args.u in let h = c.args.h in let spr = c.args.spr in let spm = c.args.spm in let f = c.args.fetch in
    let p = c.requires in let l = c.loop-j in let i₀ = l.invariant.0 in let g = l.invariant.1 in let x = c.loop-j-test.true in (
      i₀,
      preserve_more m u h spr spm f p l.j l.w l.kids l.m g (omega arith) _ c.child-k.ensures _
          c.preserve_marked-r.auto.m c.preserve_marked-r.result c.preserve_marked-r.ensures,
    )

pub slice_bounds-kids-end : goal.slice_bounds-kids-end
slice_bounds-kids-end t c = let m = c.args.m.now in let u = c.args.u in let h = c.args.h in let spr = c.args.spr in let spm = c.args.spm in let f = c.args.fetch in
    let p = c.requires in let l = c.loop-j in let i₀ = l.invariant.0 in let g = l.invariant.1 in
    let k = few_kids p.enters.arena p.enters.here g.made in let k₀ = k.0 in let k₁ = k.1 in let z = g.made.wide in omega arith

pub slice_bounds-preserve_over-end : goal.slice_bounds-preserve_over-end
slice_bounds-preserve_over-end t c = let m = c.args.m.now in
    let u = c.args.u in let h = c.args.h in let spr = c.args.spr in let spm = c.args.spm in let f = c.args.fetch in let p = c.requires in
    let l = c.loop-j in let i₀ = l.invariant.0 in let g = l.invariant.1 in
    let k = few_kids p.enters.arena p.enters.here g.made in let k₀ = k.0 in let k₁ = k.1 in let z = g.made.wide in
    sym (length-take-le _ l.kids (omega arith))

pub preserve_over-requires : goal.preserve_over-requires
preserve_over-requires t c = let m = c.args.m.now in
    let u = c.args.u in let h = c.args.h in let spr = c.args.spr in let spm = c.args.spm in let f = c.args.fetch in let p = c.requires in
    let l = c.loop-j in let i₀ = l.invariant.0 in let g = l.invariant.1 in
    let x = c.loop-j-test.false in (
      preserve_puts m u h spr spm f p l.j l.w l.kids l.m g _ (omega arith) i₀,
      going_here m u h p.enters (each_of spr spm f) l.j l.w
          l.kids l.m g _ (omega arith) i₀,
      preserve_plain m u h spr spm f p l.j l.w l.kids l.m g _ (omega arith) i₀ _
          (c.is_fetched_coalesce.ensures ∙ ap (λ x. is_fetched_coalesce (decode x))
          c.record_at.ensures)
          c.if-is_fetched_coalesce.false,
      preserve_ok m u h spr spm f p l.j l.w l.kids l.m g _ (omega arith) i₀,
    )

pub shape_of-m : goal.shape_of-m
shape_of-m t c = c.preserve_over.auto.m ∙ c.loop-j.invariant.1.made.long

pub returns : goal.returns
returns t c = let m = c.args.m.now in let u = c.args.u in let h = c.args.h in let spr = c.args.spr in let spm = c.args.spm in let f = c.args.fetch in
    let p = c.requires in let l = c.loop-j in let i₀ = l.invariant.0 in let g = l.invariant.1 in
    let x = c.loop-j-test.false in
    preserve_end m u h spr spm f p l.j l.w l.kids l.m g _ (omega arith) i₀
    (sym c.is_marked.ensures
    ∙ not-false _ (ap not c.if-not-is_marked.false)) _
    c.preserve_over.result c.preserve_over.ensures
