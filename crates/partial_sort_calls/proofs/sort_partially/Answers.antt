use native.Mathlib.Omega.{arith}
use mathlib.Core.Path.{subst}
use Prim.Native.Nat.{◌/◌}
use Rattle.plan.specs.declared.Refusal.TheVariants as refusals
use Rattle.plan_context.specs.Laws.{here}
use Rattle.partial_sort_by_number.specs.AtNumber.{AnswersPartial}
use Rattle.call_parts.specs.Filing.{arena_loaded}
use Rattle.partial_sort_calls.specs.PartialSorting.{partial_no_room, partial_asks, partial_refuses, partial_count, partial_wrote}
use Rattle.partial_sort_calls.proofs.sort_partially.Goals as goal

pub settle_all-requires : goal.settle_all-requires
settle_all-requires c = c.requires.0.loaded

pub nodes-k-requires : goal.nodes-k-requires
nodes-k-requires c = let p = c.requires.0 in let u = c.args.u in let h = c.args.h in
    let t = c.settle_all in let m' = t.new.m in let a = t.ensures.0 in here m' u h a p.here

pub overflow_add-u : goal.overflow_add-u
overflow_add-u c = let p = c.requires.0 in let w = c.requires.1 in
    let t = c.settle_all in let hh = p.here in let b = (t.ensures.0.all (c.args.h / 2) (omega arith)).proper.few in
    let e = c.nodes-k.ensures in omega arith

pub returns-then-m-u : goal.returns-then-m-u
returns-then-m-u c = let p = c.requires.0 in let w = c.requires.1 in
    let m = c.args.m.now in let u = c.args.u in let h = c.args.h in let n = c.args.n in let out = c.args.out.now in
    let t = c.settle_all in let m' = t.new.m in let l = t.auto.m in let a = t.ensures.0 in
    let f = t.ensures.1 in partial_no_room m u h p w m' l a f _ c.nodes-k.ensures n out c.if-m-u.true

pub partially_sorted-requires : goal.partially_sorted-requires
partially_sorted-requires c = let p = c.requires.0 in
    let w = c.requires.1 in let m = c.args.m.now in let u = c.args.u in let h = c.args.h in let n = c.args.n in let out = c.args.out.now in
    let t = c.settle_all in let m' = t.new.m in let l = t.auto.m in let a = t.ensures.0 in
    let f = t.ensures.1 in partial_asks m u h p w m' l a f _ c.nodes-k.ensures (omega (arith, c.if-m-u.false))

pub write_out-requires : goal.write_out-requires
write_out-requires c = let p = c.requires.0 in let w = c.requires.1 in let m = c.args.m.now in let u = c.args.u in let h = c.args.h in let n = c.args.n in
    let out = c.args.out.now in
    let t = c.settle_all in
    let m' = t.new.m in let l = t.auto.m in let a = t.ensures.0 in let f = t.ensures.1 in
    let y = c.partially_sorted in let b = c.in-Some.a in
    let d = subst (λ o. AnswersPartial m' u y.new.m h n o) c.in-Some.is y.ensures in
    let q = partial_count m u h p w m' l a f _ c.nodes-k.ensures n out
    y.new.m b d in (arena_loaded y.new.m b.used d.arena, d.low, q.0, q.1)

pub returns-in-None : goal.returns-in-None
returns-in-None c = let p = c.requires.0 in let w = c.requires.1 in let m = c.args.m.now in let u = c.args.u in let h = c.args.h in let n = c.args.n in
    let out = c.args.out.now in let t = c.settle_all in
    let m' = t.new.m in let l = t.auto.m in let a = t.ensures.0 in let f = t.ensures.1 in
    let y = c.partially_sorted in
    partial_refuses m u h p w m' l a f _ c.nodes-k.ensures n out refusals.NoSuchNode
    (subst (λ o. AnswersPartial m' u y.new.m h n o) c.in-None.is y.ensures).0

pub returns-in-Some : goal.returns-in-Some
returns-in-Some c = let p = c.requires.0 in let w = c.requires.1 in let m = c.args.m.now in let u = c.args.u in
    let h = c.args.h in let n = c.args.n in let out = c.args.out.now in
    let t = c.settle_all in let m' = t.new.m in let l = t.auto.m in let a = t.ensures.0 in let f = t.ensures.1 in
    let y = c.partially_sorted in
    let b = c.in-Some.a in
    let d = subst (λ o. AnswersPartial m' u y.new.m h n o) c.in-Some.is y.ensures in
    partial_wrote m u h p w m' l a f _
    c.nodes-k.ensures n out y.new.m b d
    c.write_out.result c.write_out.new.out c.write_out.ensures
