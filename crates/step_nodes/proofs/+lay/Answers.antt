use native.Mathlib.Omega.{arith}
use mathlib.Core.Path.{refl, sym, ap, ◌∙◌, subst}
use lib.ListN.{length, take, set, length-set}
use lib.Seq.{take-set-le}
use Rattle.arena.specs.Arena.{slot}
use Rattle.plan_context.specs.Laws.{here}
use Rattle.step_tables.specs.Places.{node_of}
use Rattle.step_nodes.specs.Rows.{row_front}
use Rattle.step_nodes.specs.Laying.{op_in, below_in, in_room, shown, child_asks, child_lower, child_there, stands_first, going-none, LayingKids, room_is, kid_asks, kid_adds, kid_next, kids_all}
use Prim.Native.Nat.{◌+◌, ◌-◌, ◌<◌}
use Rattle.step_nodes.proofs.+lay.Goals as goal

pub put_node-inps-requires : goal.put_node-inps-requires
put_node-inps-requires t c = let m = c.args.m.now in let u = c.args.u in let i = c.args.i in let w = c.requires.0 in
    let d = w.arena in let l = c.requires.1 in let t₀ = c.args.table.now in let s₀ = c.args.slots.now in let n = c.args.n in
    let a = c.args.a in let b = c.args.b in let p = c.args.above in
    let room = room_is m u i d l t₀ s₀ p n a b t₀ s₀ w in let r₀ = room.0 in let r₁ = room.1 in let r₂ = room.2 in
    (d, l, omega arith)

pub offset_bounds-slots-n : goal.offset_bounds-slots-n
offset_bounds-slots-n t c = let m = c.args.m.now in let u = c.args.u in let i = c.args.i in let w = c.requires.0 in
    let d = w.arena in let l = c.requires.1 in let t₀ = c.args.table.now in let s₀ = c.args.slots.now in let n = c.args.n in
    let a = c.args.a in let b = c.args.b in let p = c.args.above in
    let room = room_is m u i d l t₀ s₀ p n a b t₀ s₀ w in let r₀ = room.0 in let r₁ = room.1 in let r₂ = room.2 in
    omega arith

pub bounds-slots-n : goal.bounds-slots-n
bounds-slots-n t c = let m = c.args.m.now in let u = c.args.u in let i = c.args.i in let w = c.requires.0 in
    let d = w.arena in let l = c.requires.1 in let t₀ = c.args.table.now in let s₀ = c.args.slots.now in let n = c.args.n in
    let a = c.args.a in let b = c.args.b in let p = c.args.above in
    let room = room_is m u i d l t₀ s₀ p n a b t₀ s₀ w in let r₀ = room.0 in let r₁ = room.1 in let r₂ = room.2 in
    omega arith

pub child_count-k-end-requires : goal.child_count-k-end-requires
child_count-k-end-requires t c = let m = c.args.m.now in let u = c.args.u in let i = c.args.i in let w = c.requires.0 in
    let d = w.arena in let l = c.requires.1 in let t₀ = c.args.table.now in let s₀ = c.args.slots.now in let n = c.args.n in
    let a = c.args.a in let b = c.args.b in let p = c.args.above in
    let room = room_is m u i d l t₀ s₀ p n a b t₀ s₀ w in let r₀ = room.0 in let r₁ = room.1 in let r₂ = room.2 in
    in_room m u i d l

pub overflow_add-next : goal.overflow_add-next
overflow_add-next t c = let m = c.args.m.now in let u = c.args.u in let i = c.args.i in let w = c.requires.0 in
    let d = w.arena in let l = c.requires.1 in let t₀ = c.args.table.now in let s₀ = c.args.slots.now in let n = c.args.n in
    let a = c.args.a in let b = c.args.b in let p = c.args.above in
    let room = room_is m u i d l t₀ s₀ p n a b t₀ s₀ w in let r₀ = room.0 in let r₁ = room.1 in let r₂ = room.2 in
    omega arith

pub overflow_add-free : goal.overflow_add-free
overflow_add-free t c = let m = c.args.m.now in let u = c.args.u in let i = c.args.i in let w = c.requires.0 in
    let d = w.arena in let l = c.requires.1 in let t₀ = c.args.table.now in let s₀ = c.args.slots.now in let n = c.args.n in
    let a = c.args.a in let b = c.args.b in let p = c.args.above in
    let room = room_is m u i d l t₀ s₀ p n a b t₀ s₀ w in let r₀ = room.0 in let r₁ = room.1 in let r₂ = room.2 in
    let e = c.put_node-inps.ensures.0 in omega arith

pub loop-k-init : goal.loop-k-init
loop-k-init t c = let m = c.args.m.now in let u = c.args.u in let i = c.args.i in let w = c.requires.0 in
    let d = w.arena in let l = c.requires.1 in let t₀ = c.args.table.now in let s₀ = c.args.slots.now in let n = c.args.n in
    let a = c.args.a in let b = c.args.b in let p = c.args.above in
    let room = room_is m u i d l t₀ s₀ p n a b t₀ s₀ w in let r₀ = room.0 in let r₁ = room.1 in let r₂ = room.2 in
    let x = c.put_node-inps in let T = x.new.table in let S = set s₀ n i in let L = x.auto.table in let M = length-set s₀ n i in (
      refl,
      refl,
      subst (λ z. LayingKids m u i T S p n a b 0 T S (n + 1) (b + z) b) (sym x.ensures.0)
          (going-none m u T S p n a b (op_in m i) (below_in m i) (stands_first m u i d l t₀ s₀ T p n a b x.ensures.1 (omega arith) (omega arith))),
    )

pub child-c-requires : goal.child-c-requires
child-c-requires t c = let m = c.args.m.now in let u = c.args.u in let i = c.args.i in let w = c.requires.0 in
    let d = w.arena in let l = c.requires.1 in let t₀ = c.args.table.now in let s₀ = c.args.slots.now in let n = c.args.n in
    let a = c.args.a in let b = c.args.b in let p = c.args.above in
    let room = room_is m u i d l t₀ s₀ p n a b t₀ s₀ w in let r₀ = room.0 in let r₁ = room.1 in let r₂ = room.2 in
    let q = c.loop-k in let e₀ = c.child_count-k-end.ensures in let k = c.loop-k-test.true in
    child_asks m u i d l q.k (omega arith)

pub lay-r-requires : goal.lay-r-requires
lay-r-requires t c = let m = c.args.m.now in let u = c.args.u in let i = c.args.i in let w = c.requires.0 in
    let d = w.arena in let l = c.requires.1 in let t₀ = c.args.table.now in let s₀ = c.args.slots.now in let n = c.args.n in
    let a = c.args.a in let b = c.args.b in let p = c.args.above in
    let room = room_is m u i d l t₀ s₀ p n a b t₀ s₀ w in let r₀ = room.0 in let r₁ = room.1 in let r₂ = room.2 in
    let x = c.put_node-inps in let T = x.new.table in let S = set s₀ n i in let L = x.auto.table in let M = length-set s₀ n i in
    let q = c.loop-k in let e₀ = c.child_count-k-end.ensures in let i₂ = q.invariant.0 in let i₃ = q.invariant.1 in let g = q.invariant.2 in
    let k = c.loop-k-test.true in let y = (shown m u i d l).count in let k₁ : q.k < length (slot m i).kids = omega arith in
    let j = c.child-c in let z = child_lower m u i d l q.k k₁ j.result j.ensures in let v = c.requires in (
      omega arith,
      (
        kid_asks m u i d l T S p n a b t₀ s₀ w q.k k₁ j.result j.ensures q.table q.slots q.next q.free q.out g
            (i₂ ∙ L) (i₃ ∙ M),
        omega arith,
      ),
    )

pub row-requires : goal.row-requires
row-requires t c = let m = c.args.m.now in let u = c.args.u in let i = c.args.i in let w = c.requires.0 in
    let d = w.arena in let l = c.requires.1 in let t₀ = c.args.table.now in let s₀ = c.args.slots.now in let n = c.args.n in
    let a = c.args.a in let b = c.args.b in let p = c.args.above in
    let room = room_is m u i d l t₀ s₀ p n a b t₀ s₀ w in let r₀ = room.0 in let r₁ = room.1 in let r₂ = room.2 in
    let q = c.loop-k in let e₀ = c.child_count-k-end.ensures in let i₂ = q.invariant.0 in let i₃ = q.invariant.1 in let g = q.invariant.2 in
    let k = c.loop-k-test.true in let y = (shown m u i d l).count in let k₁ : q.k < length (slot m i).kids = omega arith in
    let j = c.child-c in here m u j.result d (child_there m u i d l q.k k₁ j.result j.ensures)

pub streams-out-requires : goal.streams-out-requires
streams-out-requires t c = c.row.ensures.1.row

pub overflow_add-out : goal.overflow_add-out
overflow_add-out t c = let m = c.args.m.now in let u = c.args.u in let i = c.args.i in let w = c.requires.0 in
    let d = w.arena in let l = c.requires.1 in let t₀ = c.args.table.now in let s₀ = c.args.slots.now in let n = c.args.n in
    let a = c.args.a in let b = c.args.b in let p = c.args.above in
    let room = room_is m u i d l t₀ s₀ p n a b t₀ s₀ w in let r₀ = room.0 in let r₁ = room.1 in let r₂ = room.2 in
    let x = c.put_node-inps in let T = x.new.table in let S = set s₀ n i in let L = x.auto.table in let M = length-set s₀ n i in
    let q = c.loop-k in let e₀ = c.child_count-k-end.ensures in let i₂ = q.invariant.0 in let i₃ = q.invariant.1 in let g = q.invariant.2 in
    let k = c.loop-k-test.true in let y = (shown m u i d l).count in let k₁ : q.k < length (slot m i).kids = omega arith in
    let j = c.child-c in
    let z = kid_adds m u i d l T S p n a b t₀ s₀ w q.k k₁ j.result j.ensures q.table q.slots q.next q.free q.out g c.streams-out.result
    (c.streams-out.ensures ∙ ap (λ F. F.streams) c.row.ensures.1.is) in omega arith

pub loop-k-preserved : goal.loop-k-preserved
loop-k-preserved t c = let m = c.args.m.now in let u = c.args.u in let i = c.args.i in let w = c.requires.0 in
    let d = w.arena in let l = c.requires.1 in let t₀ = c.args.table.now in let s₀ = c.args.slots.now in let n = c.args.n in
    let a = c.args.a in let b = c.args.b in let p = c.args.above in
    let room = room_is m u i d l t₀ s₀ p n a b t₀ s₀ w in let r₀ = room.0 in let r₁ = room.1 in let r₂ = room.2 in
    let x = c.put_node-inps in let T = x.new.table in let S = set s₀ n i in let L = x.auto.table in let M = length-set s₀ n i in
    let q = c.loop-k in let e₀ = c.child_count-k-end.ensures in let i₂ = q.invariant.0 in let i₃ = q.invariant.1 in let g = q.invariant.2 in
    let k = c.loop-k-test.true in let y = (shown m u i d l).count in let k₁ : q.k < length (slot m i).kids = omega arith in
    let j = c.child-c in let v = c.lay-r in (
      v.auto.table ∙ i₂,
      v.auto.slots ∙ i₃,
      kid_next m u i d l T S p n a b t₀ s₀ w q.k k₁ j.result j.ensures q.table q.slots q.next q.free q.out g
          v.new.table v.new.slots v.result c.streams-out.result v.ensures
          (c.streams-out.ensures ∙ ap (λ F. F.streams) c.row.ensures.1.is),
    )

pub shape_of-table : goal.shape_of-table
shape_of-table t c = c.loop-k.invariant.0 ∙ c.put_node-inps.auto.table

pub shape_of-slots : goal.shape_of-slots
shape_of-slots t c = c.loop-k.invariant.1 ∙ length-set c.args.slots.now c.args.n c.args.i

pub returns : goal.returns
returns t c = let m = c.args.m.now in let u = c.args.u in let i = c.args.i in let w = c.requires.0 in
    let d = w.arena in let l = c.requires.1 in let t₀ = c.args.table.now in let s₀ = c.args.slots.now in let n = c.args.n in
    let a = c.args.a in let b = c.args.b in let p = c.args.above in
    let room = room_is m u i d l t₀ s₀ p n a b t₀ s₀ w in let r₀ = room.0 in let r₁ = room.1 in let r₂ = room.2 in
    let x = c.put_node-inps in let T = x.new.table in let S = set s₀ n i in let L = x.auto.table in let M = length-set s₀ n i in
    let q = c.loop-k in let e₀ = c.child_count-k-end.ensures in let y = (shown m u i d l).count in
    kids_all m u i d l T S p n a b t₀ s₀ w q.k q.table q.slots q.next q.free q.out (omega arith) q.invariant.2 t₀ s₀
    (ap (take n) x.ensures.1 ∙ row_front t₀ n (node_of p a b (op_in m i) (below_in m i)))
    (take-set-le n s₀ n i (omega arith))
