use native.Mathlib.Omega.{arith}
use mathlib.Core.Path.{refl, sym, ◌∙◌}
use Prim.Native.Nat.{◌-◌}
use borrow.Author.Tests.{not-true, not-false}
use lib.ListN.{length, replicate}
use lib.Seq.{length-take-le}
use Rattle.plan_updates.specs.ChildLoop.{up_to, node_arena, few_kids, kid_there}
use Rattle.order_preservation_marks.specs.Entering.{going-none, going_next, going_here}
use Rattle.order_breaking_plans.specs.Breaking.{each_of, stays, break_more, break_puts, break_end}
use Rattle.std.proofs.Common.{ap}
use Rattle.std.specs.Prelude.{not}
use Rattle.order_breaking_plans.proofs.breaking.+break_entered.Goals as goal

pub returns-then-not-entered : goal.returns-then-not-entered
returns-then-not-entered t c = let m = c.args.m.now in let u = c.args.u in let h = c.args.h in let p = c.requires in
    stays m u h p c.args.entered (not-true _ (ap not c.if-not-entered.true))

pub child_count-n-requires : goal.child_count-n-requires
child_count-n-requires t c = let p = c.requires in (up_to p.arena p.here).slots

pub loop-j-init : goal.loop-j-init
loop-j-init t c = let m = c.args.m.now in let u = c.args.u in let h = c.args.h in
    let p = c.requires in let g = going-none m u h p (each_of m h) (replicate 8 0) refl in
    (c.child_count-n.ensures ∙ (few_kids p.arena p.here g.made).1, g)

pub child-k-requires : goal.child-k-requires
child-k-requires t c = let m = c.args.m.now in let u = c.args.u in
    let h = c.args.h in let p = c.requires in let l = c.loop-j in let i₀ = l.invariant.0 in let g = l.invariant.1 in
    let k = few_kids p.arena p.here g.made in let k₀ = k.0 in let k₁ = k.1 in let x = c.loop-j-test.true in
    ((node_arena p.arena p.here g.made).slots, omega arith, k₀)

pub enters-e-requires : goal.enters-e-requires
enters-e-requires t c = let m = c.args.m.now in
    let u = c.args.u in let h = c.args.h in let p = c.requires in let l = c.loop-j in let i₀ = l.invariant.0 in
    let g = l.invariant.1 in let x = c.loop-j-test.true in
    (node_arena p.arena p.here g.made, kid_there p.arena p.here g.made (omega arith))

pub break_entered-r-requires : goal.break_entered-r-requires
break_entered-r-requires t c = let m = c.args.m.now in let u = c.args.u in let h = c.args.h in let p = c.requires in
    let l = c.loop-j in let i₀ = l.invariant.0 in let g = l.invariant.1 in
    let x = c.loop-j-test.true in
    let q = going_next m u h p (each_of m h) l.j l.w l.kids l.m g (omega arith) _ c.child-k.ensures in let q₀ = q.0 in
    let z = c.decreases in (omega arith, q.1)

pub offset_bounds-kids-j : goal.offset_bounds-kids-j
offset_bounds-kids-j t c = let m = c.args.m.now in let u = c.args.u in let h = c.args.h in let p = c.requires in
    let l = c.loop-j in let i₀ = l.invariant.0 in let g = l.invariant.1 in let k = few_kids p.arena p.here g.made in let k₀ = k.0 in let k₁ = k.1 in
    let x = c.loop-j-test.true in omega arith

pub bounds-kids-j : goal.bounds-kids-j
bounds-kids-j t c = let m = c.args.m.now in
    let u = c.args.u in let h = c.args.h in let p = c.requires in
    let l = c.loop-j in let i₀ = l.invariant.0 in let g = l.invariant.1 in let k = few_kids p.arena p.here g.made in let k₀ = k.0 in let k₁ = k.1 in
    let x = c.loop-j-test.true in let z = g.made.wide in omega arith

pub loop-j-preserved : goal.loop-j-preserved
loop-j-preserved t c = let m = c.args.m.now in let u = c.args.u in let h = c.args.h in let p = c.requires in
    let l = c.loop-j in let i₀ = l.invariant.0 in let g = l.invariant.1 in let x = c.loop-j-test.true in (
      i₀,
      break_more m u h p l.j l.w l.kids l.m g (omega arith) _
          c.child-k.ensures _ c.enters-e.ensures _
          c.break_entered-r.auto.m c.break_entered-r.result c.break_entered-r.ensures,
    )

pub slice_bounds-kids-end : goal.slice_bounds-kids-end
slice_bounds-kids-end t c = let m = c.args.m.now in
    let u = c.args.u in let h = c.args.h in let p = c.requires in let l = c.loop-j in let i₀ = l.invariant.0 in let g = l.invariant.1 in let k = few_kids p.arena p.here g.made in let k₀ = k.0 in let k₁ = k.1 in let z = g.made.wide in omega arith

pub slice_bounds-break_over-end : goal.slice_bounds-break_over-end
slice_bounds-break_over-end t c = let m = c.args.m.now in
    let u = c.args.u in let h = c.args.h in let p = c.requires in let l = c.loop-j in let i₀ = l.invariant.0 in let g = l.invariant.1 in let k = few_kids p.arena p.here g.made in let k₀ = k.0 in let k₁ = k.1 in let z = g.made.wide in
    sym (length-take-le _ l.kids (omega arith))

pub break_over-requires : goal.break_over-requires
break_over-requires t c = let m = c.args.m.now in
    let u = c.args.u in let h = c.args.h in let p = c.requires in let l = c.loop-j in let i₀ = l.invariant.0 in let g = l.invariant.1 in let x = c.loop-j-test.false in (
      break_puts m u h p l.j l.w l.kids l.m g _ (omega arith) i₀,
      going_here m u h p (each_of m h) l.j l.w l.kids l.m g _
          (omega arith) i₀,
    )

pub shape_of-m : goal.shape_of-m
shape_of-m t c = c.break_over.auto.m ∙ c.loop-j.invariant.1.made.long

pub returns : goal.returns
returns t c = let m = c.args.m.now in let u = c.args.u in let h = c.args.h in let p = c.requires in
    let l = c.loop-j in let i₀ = l.invariant.0 in let g = l.invariant.1 in
    let x = c.loop-j-test.false in
    break_end m u h p l.j l.w l.kids l.m g _ (omega arith) i₀ c.args.entered
    (not-false _ (ap not c.if-not-entered.false)) _ c.break_over.result
    c.break_over.ensures
