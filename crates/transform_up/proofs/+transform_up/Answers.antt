use native.Mathlib.Omega.{arith}
use mathlib.Core.Path.{refl, sym, ap, ◌∙◌, subst}
use Prim.Native.Nat.{◌/◌}
use lib.ListN.{replicate, get_or}
use lib.Seq.{length-take-le}
use Rattle.std.proofs.lemmas.Result.{err_from_is_err_and}
use Rattle.walks.specs.Marks.{size_t}
use Rattle.arena.specs.Arena.{slot}
use Rattle.arena.specs.Laws.{index_even}
use Rattle.plan_context.specs.View.{tree_in}
use Rattle.plan_context.specs.Laws.{here}
use Rattle.transform_up.specs.Frame.{Outcome}
use Rattle.transform_up.proofs.Frame.{shown, slot_is, walking_none, walking_next, walking_more, walking_stops, before_is, walking_end, walking_done}
use Rattle.transform_up.proofs.+transform_up.Goals as goal

pub child_count-count-requires : goal.child_count-count-requires
child_count-count-requires t c = let p = c.requires in let a = p.arena.slots in let b = p.here in omega arith

pub overflow_mul-i : goal.overflow_mul-i
overflow_mul-i t c = let p = c.requires in let a = p.arena.small in let b = p.here in omega arith

pub nodes-was-requires : goal.nodes-was-requires
nodes-was-requires t c = let p = c.requires in let b = p.here in here _ _ _ p.arena (omega arith)

pub loop-j-init : goal.loop-j-init
loop-j-init t c = walking_none c.args.w c.args.m.now c.args.v c.args.i c.args.n c.args.c.now c.requires (replicate 8 0) refl

pub child-h-requires : goal.child-h-requires
child-h-requires t c =
    let a = c.args in let p = c.requires in let l = c.loop-j in let q = l.invariant in
    let s = slot_is a.w a.m.now a.v a.i a.n a.c.now p l.j l.u l.k l.kids l.m q in
    let z = shown a.w a.m.now a.v a.i a.n a.c.now p in let k = z.count in let f = z.few in
    let b = p.arena.slots in let h = p.here in let o = q.made.long in
    (omega arith, rw s (omega arith), rw s (omega arith))

pub transform_up-requires : goal.transform_up-requires
transform_up-requires t c =
    let a = c.args in let p = c.requires in let l = c.loop-j in let q = l.invariant in let d = c.decreases in
    let s = slot_is a.w a.m.now a.v a.i a.n a.c.now p l.j l.u l.k l.kids l.m q in
    let k = (shown a.w a.m.now a.v a.i a.n a.c.now p).count in
    let r = walking_next a.w a.m.now a.v a.i a.n a.c.now p l.j l.u l.k l.kids l.m q (omega arith) _ l.auto.c in
    let r₀ = r.0 in
    rw (c.child-h.ensures ∙ ap (λ s. get_or s.kids l.j 0) s) (omega arith, r.1)

pub shape_of-m-in_err-walked : goal.shape_of-m-in_err-walked
shape_of-m-in_err-walked t c = c.transform_up.auto.m ∙ c.loop-j.auto.m

pub shape_of-c-in_err-walked : goal.shape_of-c-in_err-walked
shape_of-c-in_err-walked t c = c.transform_up.auto.c ∙ c.loop-j.auto.c

pub returns-in_err-walked : goal.returns-in_err-walked
returns-in_err-walked t c =
    let a = c.args in let p = c.requires in let l = c.loop-j in let q = l.invariant in let y = c.transform_up in
    let s = slot_is a.w a.m.now a.v a.i a.n a.c.now p l.j l.u l.k l.kids l.m q in
    let k = (shown a.w a.m.now a.v a.i a.n a.c.now p).count in
    let e = err_from_is_err_and c.from_residual.result c.from_residual.ensures.1 in
    rw (e.1, e.2) (walking_stops a.w a.m.now a.v a.i a.n a.c.now p l.j l.u l.k l.kids l.m q (omega arith) c.in_err-walked.field-0.0 _
    (subst (λ r. Outcome r a.w l.m l.u (get_or (slot a.m.now a.i).kids l.j 0 / 2) l.k y.new.m) c.in_err-walked.was
    (rw (c.child-h.ensures ∙ ap (λ s. get_or s.kids l.j 0) s) at y.ensures)))

pub offset_bounds-kids-j : goal.offset_bounds-kids-j
offset_bounds-kids-j t c =
    let a = c.args in let p = c.requires in let q = c.loop-j.invariant in
    let z = shown a.w a.m.now a.v a.i a.n a.c.now p in let k = z.count in let f = z.few in let y = q.made.wide in omega arith

pub bounds-kids-j : goal.bounds-kids-j
bounds-kids-j t c =
    let a = c.args in let p = c.requires in let q = c.loop-j.invariant in
    let z = shown a.w a.m.now a.v a.i a.n a.c.now p in let k = z.count in let f = z.few in let y = q.made.wide in omega arith

pub loop-j-preserved : goal.loop-j-preserved
loop-j-preserved t c =
    let a = c.args in let p = c.requires in let l = c.loop-j in let q = l.invariant in let y = c.transform_up in let x = c.in_ok-walked.walked in
    let s = slot_is a.w a.m.now a.v a.i a.n a.c.now p l.j l.u l.k l.kids l.m q in
    let k = (shown a.w a.m.now a.v a.i a.n a.c.now p).count in
    walking_more a.w a.m.now a.v a.i a.n a.c.now p l.j l.u l.k l.kids l.m q (omega arith) y.new.m y.auto.m x.used x.root x.total
    (subst (λ r. Outcome r a.w l.m l.u (get_or (slot a.m.now a.i).kids l.j 0 / 2) l.k y.new.m) c.in_ok-walked.was
    (rw (c.child-h.ensures ∙ ap (λ s. get_or s.kids l.j 0) s) at y.ensures))

pub slice_bounds-kids-end : goal.slice_bounds-kids-end
slice_bounds-kids-end t c =
    let a = c.args in let z = shown a.w a.m.now a.v a.i a.n a.c.now c.requires in let k = z.count in let f = z.few in
    let y = c.loop-j.invariant.made.wide in omega arith

pub slice_bounds-finish-end : goal.slice_bounds-finish-end
slice_bounds-finish-end t c =
    let a = c.args in let l = c.loop-j in let z = shown a.w a.m.now a.v a.i a.n a.c.now c.requires in let k = z.count in let f = z.few in
    let y = l.invariant.made.wide in sym (length-take-le _ l.kids (omega arith))

pub overflow_add-k : goal.overflow_add-k
overflow_add-k t c = let p = c.requires in let y = c.loop-j.invariant.many in let g = p.part in let m = p.many in let w = c.nodes-was.ensures in
    let h = ap (λ x. size_t (tree_in c.args.m.now x)) (index_even c.args.i) in omega arith

pub overflow_sub-k : goal.overflow_sub-k
overflow_sub-k t c =
    let a = c.args in let p = c.requires in let l = c.loop-j in
    (before_is a.w a.m.now a.v a.i a.n a.c.now p l.j _ l.u l.k l.kids l.m l.invariant (omega arith) c.child_count-count.ensures _
    (c.nodes-was.ensures ∙ ap (λ x. size_t (tree_in a.m.now x)) (index_even a.i))).1

pub finish-requires : goal.finish-requires
finish-requires t c =
    let a = c.args in let p = c.requires in let l = c.loop-j in
    let b = before_is a.w a.m.now a.v a.i a.n a.c.now p l.j _ l.u l.k l.kids l.m l.invariant (omega arith) c.child_count-count.ensures _
    (c.nodes-was.ensures ∙ ap (λ x. size_t (tree_in a.m.now x)) (index_even a.i)) in
    walking_end a.w a.m.now a.v a.i a.n a.c.now p l.j _ l.u l.k l.kids l.m l.invariant (omega arith) c.child_count-count.ensures _ l.auto.c _ b.0

pub shape_of-m : goal.shape_of-m
shape_of-m t c = c.finish.auto.m ∙ c.loop-j.auto.m

pub shape_of-c : goal.shape_of-c
shape_of-c t c = c.finish.auto.c ∙ c.loop-j.auto.c

pub returns : goal.returns
returns t c =
    let a = c.args in let p = c.requires in let l = c.loop-j in
    walking_done a.w a.m.now a.v a.i a.n a.c.now p l.j _ l.u l.k l.kids l.m l.invariant (omega arith) c.child_count-count.ensures c.finish.new.m
    c.finish.result c.finish.ensures
