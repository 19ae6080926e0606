use native.Mathlib.Omega.{arith}
use mathlib.Core.Path.{refl, sym, ap, ◌∙◌, subst⁻¹}
use Prim.Native.Nat.{◌-◌, ◌/◌, ◌*◌}
use lib.ListN.{replicate}
use lib.Seq.{length-take-le}
use Rattle.std.proofs.lemmas.Result.{err_from_is_err_and}
use Rattle.record_fields.specs.Proper.{Proper}
use Rattle.arena.specs.Arena.{slot}
use Rattle.arena.specs.Laws.{below_at}
use Rattle.walks.specs.Marks.{fetch_t}
use Rattle.plan_context.specs.View.{tree_of}
use Rattle.plan_context.specs.Laws.{here}
use Rattle.push_visits.specs.Visiting.{shown, proper_at, own_tells}
use Rattle.pushdown_sorts.specs.Walking.{low_i, step_ends, goes_on, start, child_pushes, child_more, child_stop, all_carries, all_ends}
use Prim.Native.Nat.{ℕ}
use Rattle.pushdown_sorts.proofs.walking.+push_at.Goals as goal

pub decide_at-d-requires : goal.decide_at-d-requires
decide_at-d-requires t c = let p = c.requires in p.visits

pub record_at-requires : goal.record_at-requires
record_at-requires t c = let a = c.args.a.now in let ua = c.args.ua in let h = c.args.h in
    let b = c.args.b.now in let v = c.args.v in let vi = c.args.visit in let n = c.args.count in let p = c.requires in let q₁ = p.visits.here in
    let q₂ = p.visits.from.slots in omega arith

pub kept_at-requires : goal.kept_at-requires
kept_at-requires t c = let a = c.args.a.now in let ua = c.args.ua in let h = c.args.h in
    let b = c.args.b.now in let v = c.args.v in let vi = c.args.visit in let n = c.args.count in let p = c.requires in let q₁ = p.visits.here in
    let q₂ = p.visits.from.slots in omega arith

pub step_at-requires : goal.step_at-requires
step_at-requires t c = let a = c.args.a.now in let ua = c.args.ua in
    let h = c.args.h in let b = c.args.b.now in let v = c.args.v in let vi = c.args.visit in let n = c.args.count in let p = c.requires in
    let d = c.decide_at-d.ensures in let lo = p.low in let hi = p.high in (
      subst⁻¹ Proper c.record_at.ensures (proper_at a ua (h / 2) p.visits.from (low_i a ua h b v vi n p)),
      (own_tells a ua (h / 2)
          p.visits.from (low_i a ua h b v vi n p) _ c.kept_at.ensures).0,
      d.tops.merge,
      d.tops.sort,
      omega arith,
      omega arith,
    )

pub returns-in_err-after : goal.returns-in_err-after
returns-in_err-after t c = let z = err_from_is_err_and c.from_residual.result c.from_residual.ensures.1 in let a = c.args.a.now in
    let ua = c.args.ua in let h = c.args.h in let b = c.args.b.now in let v = c.args.v in let vi = c.args.visit in let n = c.args.count in
    let p = c.requires in rw (z.1, z.2) (step_ends a ua h b v vi n p c.decide_at-d.result
    c.decide_at-d.ensures _ _ c.record_at.ensures
    c.kept_at.ensures c.step_at.result c.step_at.ensures _
    c.in_err-after.was b)

pub child_count-n-requires : goal.child_count-n-requires
child_count-n-requires t c = let a = c.args.a.now in
    let ua = c.args.ua in let h = c.args.h in let b = c.args.b.now in let v = c.args.v in let vi = c.args.visit in let n = c.args.count in
    let p = c.requires in let q₁ = p.visits.here in let q₂ = p.visits.from.slots in omega arith

pub loop-j-init : goal.loop-j-init
loop-j-init t c = let a = c.args.a.now in
    let ua = c.args.ua in let h = c.args.h in let b = c.args.b.now in let v = c.args.v in let vi = c.args.visit in let n = c.args.count in
    let p = c.requires in let go = goes_on a ua h b v vi n p c.decide_at-d.result
    c.decide_at-d.ensures _ _
    c.record_at.ensures c.kept_at.ensures
    c.step_at.result c.step_at.ensures _ c.in_ok-after.was in (
      c.child_count-n.ensures,
      start a ua h b v vi n p c.decide_at-d.result
          c.decide_at-d.ensures c.in_ok-after.after go.1 go.0
          (replicate 8 0) refl,
    )

pub child-k-requires : goal.child-k-requires
child-k-requires t c = let a = c.args.a.now in let ua = c.args.ua in let h = c.args.h in let b = c.args.b.now in let v = c.args.v in let vi = c.args.visit in
    let n = c.args.count in let p = c.requires in let q₁ = p.visits.here in let q₂ = p.visits.from.slots in let l = c.loop-j in
    let i₀ = l.invariant.0 in let k = shown a ua (h / 2) p.visits.from (low_i a ua h b v vi n p) in let kf = k.few in
    let kc = k.count in (omega arith, omega arith, omega arith)

pub fetch_at-requires : goal.fetch_at-requires
fetch_at-requires t c = let a = c.args.a.now in let ua = c.args.ua in let h = c.args.h in let b = c.args.b.now in let v = c.args.v in let vi = c.args.visit in
    let n = c.args.count in let p = c.requires in let q₁ = p.visits.here in let q₂ = p.visits.from.slots in let l = c.loop-j in
    let i₀ = l.invariant.0 in let k = shown a ua (h / 2) p.visits.from (low_i a ua h b v vi n p) in let kf = k.few in
    let kc = k.count in let e = c.child-k.ensures in
    let bl = below_at (2 * (h / 2)) (slot a (h / 2)).kids l.j k.below (omega arith) in here a ua _ p.visits.from (omega arith)

pub push_at-requires : goal.push_at-requires
push_at-requires t c = let a = c.args.a.now in let ua = c.args.ua in let h = c.args.h in let b = c.args.b.now in let v = c.args.v in let vi = c.args.visit in
    let n = c.args.count in let p = c.requires in
    let go = goes_on a ua h b v vi n p
    c.decide_at-d.result
    c.decide_at-d.ensures _ _
    c.record_at.ensures
    c.kept_at.ensures
    c.step_at.result
    c.step_at.ensures _
    c.in_ok-after.was in let l = c.loop-j in
    let i₀ = l.invariant.0 in let k = shown a ua (h / 2) p.visits.from (low_i a ua h b v vi n p) in let kf = k.few in
    let kc = k.count in
    let q = child_pushes a ua h b v vi n p
    c.decide_at-d.result
    c.decide_at-d.ensures
    c.in_ok-after.after go.1 go.0 l.j l.w l.m l.kids l.b l.invariant.1
    (omega arith) c.child_visit-below.result c.fetch_at.result
    (c.fetch_at.ensures ∙ ap (λ (y : ℕ). fetch_t (tree_of a y)) c.child-k.ensures)
    c.child_visit-below.ensures.0 c.child_visit-below.ensures.1 in let q₀ = q.0 in
    rw c.child-k.ensures (omega arith, q.1)

pub shape_of-b-in_err-x : goal.shape_of-b-in_err-x
shape_of-b-in_err-x t c = c.push_at.auto.b
    ∙ c.loop-j.invariant.1.made.long

pub returns-in_err-x : goal.returns-in_err-x
returns-in_err-x t c = let y = err_from_is_err_and c.from_residual-in_err-x.result c.from_residual-in_err-x.ensures.1 in let a = c.args.a.now in let ua = c.args.ua in let h = c.args.h in let b = c.args.b.now in let v = c.args.v in
    let vi = c.args.visit in let n = c.args.count in let p = c.requires in
    let go = goes_on a ua h b v vi n p
    c.decide_at-d.result c.decide_at-d.ensures _ _
    c.record_at.ensures c.kept_at.ensures c.step_at.result
    c.step_at.ensures _
    c.in_ok-after.was in
    let l = c.loop-j in let i₀ = l.invariant.0 in
    let k = shown a ua (h / 2) p.visits.from (low_i a ua h b v vi n p) in let kf = k.few in let kc = k.count in
    rw (y.1, y.2) (child_stop a ua h b v vi n p c.decide_at-d.result
    c.decide_at-d.ensures c.in_ok-after.after go.1
    go.0 l.j l.w l.m l.kids l.b l.invariant.1 (omega arith) c.child_visit-below.result
    c.fetch_at.result
    (c.fetch_at.ensures ∙ ap (λ (y : ℕ). fetch_t (tree_of a y))
    c.child-k.ensures)
    c.child_visit-below.ensures.0
    c.child_visit-below.ensures.1 _ c.push_at.auto.b
    c.push_at.result (rw c.child-k.ensures at
    c.push_at.ensures) _ c.in_err-x.was)

pub offset_bounds-kids-j : goal.offset_bounds-kids-j
offset_bounds-kids-j t c = let a = c.args.a.now in let ua = c.args.ua in let h = c.args.h in let b = c.args.b.now in
    let v = c.args.v in let vi = c.args.visit in let n = c.args.count in let p = c.requires in
    let l = c.loop-j in let i₀ = l.invariant.0 in
    let k = shown a ua (h / 2) p.visits.from (low_i a ua h b v vi n p) in let kf = k.few in let kc = k.count in
    omega arith

pub bounds-kids-j : goal.bounds-kids-j
bounds-kids-j t c = let a = c.args.a.now in let ua = c.args.ua in let h = c.args.h in let b = c.args.b.now in
    let v = c.args.v in let vi = c.args.visit in let n = c.args.count in let p = c.requires in
    let l = c.loop-j in let i₀ = l.invariant.0 in
    let k = shown a ua (h / 2) p.visits.from (low_i a ua h b v vi n p) in let kf = k.few in let kc = k.count in
    let g = l.invariant.1.made.wide in
    omega arith

pub loop-j-preserved : goal.loop-j-preserved
loop-j-preserved t c = let a = c.args.a.now in let ua = c.args.ua in let h = c.args.h in let b = c.args.b.now in
    let v = c.args.v in let vi = c.args.visit in let n = c.args.count in let p = c.requires in
    let go = goes_on a ua h b v vi n p
    c.decide_at-d.result c.decide_at-d.ensures _ _
    c.record_at.ensures c.kept_at.ensures c.step_at.result c.step_at.ensures _ c.in_ok-after.was in let l = c.loop-j in let i₀ = l.invariant.0 in
    let k = shown a ua (h / 2) p.visits.from (low_i a ua h b v vi n p) in let kf = k.few in let kc = k.count in (
      i₀,
      child_more a ua h b v vi n p
          c.decide_at-d.result c.decide_at-d.ensures
          c.in_ok-after.after go.1 go.0
          l.j l.w l.m l.kids l.b l.invariant.1 (omega arith) c.child_visit-below.result
          c.fetch_at.result
          (c.fetch_at.ensures ∙ ap (λ (y : ℕ). fetch_t (tree_of a y))
          c.child-k.ensures)
          c.child_visit-below.ensures.0
          c.child_visit-below.ensures.1 _
          c.push_at.auto.b c.push_at.result
          (rw c.child-k.ensures at
          c.push_at.ensures) _ c.in_ok-x.was,
    )

pub slice_bounds-kids-end : goal.slice_bounds-kids-end
slice_bounds-kids-end t c = let a = c.args.a.now in let ua = c.args.ua in let h = c.args.h in let b = c.args.b.now in let v = c.args.v in let vi = c.args.visit in
    let n = c.args.count in let p = c.requires in let l = c.loop-j in let i₀ = l.invariant.0 in
    let k = shown a ua (h / 2) p.visits.from (low_i a ua h b v vi n p) in let kf = k.few in let kc = k.count in let g = l.invariant.1.made.wide in
    omega arith

pub slice_bounds-carry_out-end : goal.slice_bounds-carry_out-end
slice_bounds-carry_out-end t c = let a = c.args.a.now in
    let ua = c.args.ua in let h = c.args.h in let b = c.args.b.now in let v = c.args.v in let vi = c.args.visit in let n = c.args.count in
    let p = c.requires in let l = c.loop-j in let i₀ = l.invariant.0 in
    let k = shown a ua (h / 2) p.visits.from (low_i a ua h b v vi n p) in let kf = k.few in let kc = k.count in let g = l.invariant.1.made.wide in
    sym (length-take-le _ l.kids (omega arith))

pub carry_out-z-requires : goal.carry_out-z-requires
carry_out-z-requires t c = let a = c.args.a.now in
    let ua = c.args.ua in let h = c.args.h in let b = c.args.b.now in let v = c.args.v in let vi = c.args.visit in let n = c.args.count in
    let p = c.requires in let go =
    goes_on a ua h b v vi n p c.decide_at-d.result
    c.decide_at-d.ensures _ _
    c.record_at.ensures
    c.kept_at.ensures
    c.step_at.result
    c.step_at.ensures _
    c.in_ok-after.was in let l = c.loop-j in let i₀ = l.invariant.0 in
    let k = shown a ua (h / 2) p.visits.from (low_i a ua h b v vi n p) in let kf = k.few in let kc = k.count in
    all_carries a ua h b v vi n p c.decide_at-d.result
    c.decide_at-d.ensures
    c.in_ok-after.after go.1 go.0 l.j l.w l.m l.kids l.b l.invariant.1 _ (omega arith) i₀

pub shape_of-b : goal.shape_of-b
shape_of-b t c = c.carry_out-z.auto.b ∙ c.loop-j.invariant.1.made.long

pub returns : goal.returns
returns t c = let a = c.args.a.now in let ua = c.args.ua in let h = c.args.h in let b = c.args.b.now in let v = c.args.v in let vi = c.args.visit in
    let n = c.args.count in let p = c.requires in
    let go = goes_on a ua h b v vi n p
    c.decide_at-d.result
    c.decide_at-d.ensures _ _
    c.record_at.ensures
    c.kept_at.ensures
    c.step_at.result
    c.step_at.ensures _
    c.in_ok-after.was in
    let l = c.loop-j in let i₀ = l.invariant.0 in
    let k = shown a ua (h / 2) p.visits.from (low_i a ua h b v vi n p) in let kf = k.few in let kc = k.count in
    all_ends a ua h b v vi n p c.decide_at-d.result c.decide_at-d.ensures
    c.in_ok-after.after go.1 go.0 l.j l.w l.m l.kids l.b
    l.invariant.1 _ (omega arith) i₀ _ c.carry_out-z.result c.carry_out-z.ensures
