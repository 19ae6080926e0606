use native.Mathlib.Omega.{arith}
use mathlib.Core.Path.{refl, sym, ◌∙◌}
use Prim.Native.Nat.{◌-◌, ◌/◌}
use lib.ListN.{replicate}
use lib.Seq.{length-take-le}
use Rattle.arena.specs.Keeping.{kept_long}
use Rattle.plan_copies.specs.Copy.{shown, copied_none, copied_next, copied_more, copied_puts, copied_says, copied_sums, copied_end}
use Rattle.plan_copies.proofs.+copy.Goals as goal

pub child_count-n-requires : goal.child_count-n-requires
child_count-n-requires t c = let p = c.requires.here in let q = c.requires.from.slots in omega arith

pub loop-j-init : goal.loop-j-init
loop-j-init t c = (
  c.child_count-n.ensures,
  copied_none c.args.a.now c.args.ua c.args.h c.args.b.now c.args.v c.requires
      (replicate 8 0) refl,
)

pub child-k-requires : goal.child-k-requires
child-k-requires t c = let l = c.loop-j in let i₀ = l.invariant.0 in
    let k = shown c.args.a.now c.args.ua c.args.h c.args.b.now c.args.v c.requires in let f = k.few in let e = k.count in
    let x = c.loop-j-test.true in let p = c.requires.here in let q = c.requires.from.slots in (omega arith, omega arith, omega arith)

pub copy-r-requires : goal.copy-r-requires
copy-r-requires t c = let l = c.loop-j in
    let i₀ = l.invariant.0 in let k = shown c.args.a.now c.args.ua c.args.h c.args.b.now c.args.v c.requires in
    let f = k.few in let e = k.count in let x = c.loop-j-test.true in
    let q = copied_next c.args.a.now c.args.ua c.args.h c.args.b.now c.args.v c.requires l.j l.w l.kids l.b l.invariant.1
    (omega arith) in
    let q₀ = q.0 in let g = c.decreases in rw c.child-k.ensures (omega arith, q.1)

pub offset_bounds-kids-j : goal.offset_bounds-kids-j
offset_bounds-kids-j t c = let l = c.loop-j in let i₀ = l.invariant.0 in
    let k = shown c.args.a.now c.args.ua c.args.h c.args.b.now c.args.v c.requires in let f = k.few in let e = k.count in
    let x = c.loop-j-test.true in omega arith

pub bounds-kids-j : goal.bounds-kids-j
bounds-kids-j t c = let l = c.loop-j in let i₀ = l.invariant.0 in
    let k = shown c.args.a.now c.args.ua c.args.h c.args.b.now c.args.v c.requires in let f = k.few in let e = k.count in
    let x = c.loop-j-test.true in let g = l.invariant.1.made.wide in omega arith

pub loop-j-preserved : goal.loop-j-preserved
loop-j-preserved t c = let l = c.loop-j in let i₀ = l.invariant.0 in
    let k = shown c.args.a.now c.args.ua c.args.h c.args.b.now c.args.v c.requires in let f = k.few in let e = k.count in
    let x = c.loop-j-test.true in (
      i₀,
      copied_more c.args.a.now c.args.ua c.args.h c.args.b.now c.args.v c.requires l.j l.w l.kids l.b
          l.invariant.1 (omega arith) _ c.copy-r.auto.b c.copy-r.result
          (rw c.child-k.ensures at c.copy-r.ensures),
    )

pub record_at-requires : goal.record_at-requires
record_at-requires t c = let p = c.requires.here in let q = c.requires.from.slots in
    omega arith

pub slice_bounds-kids-end : goal.slice_bounds-kids-end
slice_bounds-kids-end t c = let l = c.loop-j in
    let i₀ = l.invariant.0 in let k = shown c.args.a.now c.args.ua c.args.h c.args.b.now c.args.v c.requires in
    let f = k.few in let e = k.count in let g = l.invariant.1.made.wide in omega arith

pub slice_bounds-put_known-end : goal.slice_bounds-put_known-end
slice_bounds-put_known-end t c = let l = c.loop-j in let i₀ = l.invariant.0 in
    let k = shown c.args.a.now c.args.ua c.args.h c.args.b.now c.args.v c.requires in let f = k.few in let e = k.count in
    let g = l.invariant.1.made.wide in sym (length-take-le _ l.kids (omega arith))

pub kept_at-requires : goal.kept_at-requires
kept_at-requires t c = let p = c.requires.here in
    let q = c.requires.from.slots in omega arith

pub put_known-requires : goal.put_known-requires
put_known-requires t c = let l = c.loop-j in let i₀ = l.invariant.0 in
    let k = shown c.args.a.now c.args.ua c.args.h c.args.b.now c.args.v c.requires in let f = k.few in let e = k.count in
    let x = c.loop-j-test.false in let p = c.requires.here in let q = c.requires.from.slots in
    rw (c.record_at.ensures, c.kept_at.ensures) (
      copied_puts c.args.a.now c.args.ua c.args.h c.args.b.now c.args.v c.requires l.j _ l.w l.kids l.b l.invariant.1
          (omega arith) i₀,
      kept_long c.args.a.now (c.args.h / 2) (omega arith),
      copied_says c.args.a.now c.args.ua c.args.h
          c.args.b.now c.args.v c.requires l.j _ l.w l.kids l.b l.invariant.1 (omega arith) i₀,
      copied_sums c.args.a.now
          c.args.ua c.args.h c.args.b.now c.args.v c.requires l.j _ l.w l.kids l.b l.invariant.1 (omega arith) i₀,
    )

pub overflow_add-result : goal.overflow_add-result
overflow_add-result t c = let l = c.loop-j in let i₀ = l.invariant.0 in
    let k = shown c.args.a.now c.args.ua c.args.h c.args.b.now c.args.v c.requires in let f = k.few in let e = k.count in
    let x = c.loop-j-test.false in
    let g = (copied_puts c.args.a.now c.args.ua c.args.h c.args.b.now c.args.v c.requires l.j _ l.w l.kids l.b l.invariant.1
    (omega arith) i₀).small in omega arith

pub overflow_mul-result : goal.overflow_mul-result
overflow_mul-result t c = let l = c.loop-j in let i₀ = l.invariant.0 in
    let k = shown c.args.a.now c.args.ua c.args.h c.args.b.now c.args.v c.requires in let f = k.few in let e = k.count in
    let x = c.loop-j-test.false in
    let g = (copied_puts c.args.a.now c.args.ua c.args.h c.args.b.now c.args.v c.requires l.j _ l.w l.kids l.b l.invariant.1
    (omega arith) i₀).small in omega arith

pub overflow_add-result-2 : goal.overflow_add-result-2
overflow_add-result-2 t c = let l = c.loop-j in let i₀ = l.invariant.0 in
    let k = shown c.args.a.now c.args.ua c.args.h c.args.b.now c.args.v c.requires in let f = k.few in let e = k.count in
    let x = c.loop-j-test.false in
    let g = (copied_puts c.args.a.now c.args.ua c.args.h c.args.b.now c.args.v c.requires l.j _ l.w l.kids l.b l.invariant.1
    (omega arith) i₀).small in omega arith

pub shape_of-b : goal.shape_of-b
shape_of-b t c = c.put_known.auto.m ∙ c.loop-j.invariant.1.made.long

pub returns : goal.returns
returns t c = let l = c.loop-j in let i₀ = l.invariant.0 in
    let k = shown c.args.a.now c.args.ua c.args.h c.args.b.now c.args.v c.requires in let f = k.few in let e = k.count in
    let x = c.loop-j-test.false in
    copied_end c.args.a.now c.args.ua c.args.h c.args.b.now c.args.v c.requires l.j _ l.w l.kids l.b l.invariant.1
    (omega arith) i₀ _ (rw c.record_at.ensures at c.put_known.ensures)
