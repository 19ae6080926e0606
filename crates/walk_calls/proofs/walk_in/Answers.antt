use native.Mathlib.Omega.{arith}
use mathlib.Core.Path.{subst}
use Prim.Native.Nat.{◌/◌}
use Rattle.plan_context.specs.Laws.{here}
use Rattle.transform_up.specs.Frame.{Outcome}
use Rattle.call_parts.specs.Filing.{arena_loaded}
use Rattle.walk_calls.specs.Walking.{walkable, partial_refused, walk_wrote, walk_count, walk_stopped}
use Rattle.walk_calls.proofs.walk_in.Goals as goal

pub settle_all-requires : goal.settle_all-requires
settle_all-requires c = c.requires.loaded

pub has_partial_sort-requires : goal.has_partial_sort-requires
has_partial_sort-requires c = let p = c.requires in let m = c.args.m.now in
    let u = c.args.u in let h = c.args.h in let k = c.args.c.now in let w = c.args.w in let out = c.args.out.now in
    let t = c.settle_all in let m' = t.new.m in let l = t.auto.m in let a = t.ensures.0 in let f = t.ensures.1 in
    let x = p.here in (arena_loaded m' u a, omega arith)

pub returns-then-has_partial_sort : goal.returns-then-has_partial_sort
returns-then-has_partial_sort c = let p = c.requires in
    let m = c.args.m.now in let u = c.args.u in let h = c.args.h in let k = c.args.c.now in let w = c.args.w in let out = c.args.out.now in
    let t = c.settle_all in let m' = t.new.m in let l = t.auto.m in let a = t.ensures.0 in
    let f = t.ensures.1 in partial_refused m u h k p m' l a f w out _ c.has_partial_sort.ensures c.if-has_partial_sort.true

pub nodes-n-requires : goal.nodes-n-requires
nodes-n-requires c = let p = c.requires in
    let u = c.args.u in let h = c.args.h in let t = c.settle_all in let m' = t.new.m in
    let a = t.ensures.0 in here m' u h a p.here

pub transform_up-requires : goal.transform_up-requires
transform_up-requires c = let p = c.requires in let m = c.args.m.now in let u = c.args.u in let h = c.args.h in let k = c.args.c.now in
    let t = c.settle_all in let m' = t.new.m in let l = t.auto.m in
    let a = t.ensures.0 in let f = t.ensures.1 in walkable m u h k p m' l a f _ c.nodes-n.ensures

pub write_out-requires : goal.write_out-requires
write_out-requires c = let p = c.requires in let m = c.args.m.now in let u = c.args.u in let h = c.args.h in
    let k = c.args.c.now in let w = c.args.w in let out = c.args.out.now in
    let t = c.settle_all in let m' = t.new.m in let l = t.auto.m in let a = t.ensures.0 in let f = t.ensures.1 in
    let eb = c.has_partial_sort.ensures in let z = c.if-has_partial_sort.false in
    let en = c.nodes-n.ensures in
    let y = c.transform_up in let m'' = y.new.m in
    let d = subst (λ o. Outcome o w m' u (h / 2)
    c.nodes-n.result m'') c.in-Ok.is y.ensures in
    let q = walk_count m u h k p m' l a f w out _ eb z _ en m'' y.auto.m c.in-Ok.x.used c.in-Ok.x.root c.in-Ok.x.total d in
    (arena_loaded m'' c.in-Ok.x.used d.grown.arena, d.grown.here, q.0, q.1)

pub returns-in-Ok : goal.returns-in-Ok
returns-in-Ok c = let p = c.requires in let m = c.args.m.now in
    let u = c.args.u in let h = c.args.h in let k = c.args.c.now in let w = c.args.w in let out = c.args.out.now in
    let t = c.settle_all in let m' = t.new.m in let l = t.auto.m in let a = t.ensures.0 in let f = t.ensures.1 in
    let eb = c.has_partial_sort.ensures in
    let z = c.if-has_partial_sort.false in let en = c.nodes-n.ensures in let y = c.transform_up in
    let m'' = y.new.m in
    let d = subst (λ o. Outcome o w m' u (h / 2)
    c.nodes-n.result m'') c.in-Ok.is
    y.ensures in walk_wrote m u h k p m' l a f w out _ eb z _ en m'' y.auto.m c.in-Ok.x.used c.in-Ok.x.root c.in-Ok.x.total d
    c.write_out.result c.write_out.new.out c.write_out.ensures

pub returns-in-Err : goal.returns-in-Err
returns-in-Err c = let p = c.requires in let m = c.args.m.now in let u = c.args.u in let h = c.args.h in
    let k = c.args.c.now in let w = c.args.w in let out = c.args.out.now in
    let t = c.settle_all in let m' = t.new.m in let l = t.auto.m in let a = t.ensures.0 in let f = t.ensures.1 in
    let eb = c.has_partial_sort.ensures in
    let z = c.if-has_partial_sort.false in
    let en = c.nodes-n.ensures in
    let y = c.transform_up in let m'' = y.new.m in
    walk_stopped m u h k p m' l a f w out _ eb z _ en m'' y.auto.m c.in-Err.s
    (subst (λ o. Outcome o w m' u (h / 2) c.nodes-n.result m'')
    c.in-Err.is y.ensures) _ c.stopped.ensures
