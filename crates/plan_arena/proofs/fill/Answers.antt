use native.Mathlib.Omega.{arith}
use mathlib.Core.Path.{◌≡◌, refl, ◌∙◌}
use Prim.Native.Nat.{◌+◌, ◌≤◌, ◌<◌}
use lib.ListN.{length, get_or}
use Rattle.plan_passes.specs.Stack.{child_byte, byte_fits}
use Rattle.plan_arena.specs.Fill.{HoldsTree, fill_start, fill_appends, fill_next, fill_end}
use Rattle.plan_arena.proofs.fill.Goals as goal
use Rattle.plan_arena.proofs.fill.Goals.{After-loop-j, After-record_start-at}

-- the record's children lie on the stack
fits : (c : After-record_start-at)
    → (c.loop-j.t + child_byte c.args.s.now c.record_start-at.result ≤ 126)
    × (0 < c.loop-j.t + child_byte c.args.s.now c.record_start-at.result)
fits c =
    let l = c.loop-j in
    byte_fits c.args.s.now c.args.c l.j l.t l.w (omega arith) l.invariant.1.stack
    c.requires.count c.requires.shape c.record_start-at.result c.record_start-at.ensures

-- the record lies in the file
inside : (c : After-record_start-at) → c.record_start-at.result + 64 ≤ length c.args.s.now
inside c =
    let l = c.loop-j in
    let e = c.record_start-at.ensures in let h = l.invariant.1.stack.low in let a = c.requires.blocks in omega arith

-- the stack is the whole array
long : (c : After-record_start-at) → length c.loop-j.w ≡ 126
long c = c.loop-j.invariant.1.stack.long

-- the handle of the new node is small
few : (c : After-record_start-at) → c.loop-j.u < 126
few c =
    let n = c.loop-j.invariant.1.new in
    let o = c.requires.most in omega arith

-- one tree stands on the stack, and it is the file's
ended : (c : After-loop-j)
    → (c.loop-j.t < 126)
    × HoldsTree c.args.s.now c.loop-j.m c.loop-j.u
    (get_or c.loop-j.w c.loop-j.t 0)
ended c =
    let l = c.loop-j in
    fill_end c.args.s.now c.args.c _ c.requires l.j l.u l.t l.w l.m (omega arith) l.invariant.1

pub loop-j-init : goal.loop-j-init
loop-j-init c = (refl, fill_start c.args.s.now c.args.c _ _ c.requires.most refl)

pub record_start-at-requires : goal.record_start-at-requires
record_start-at-requires c = let h = c.loop-j.invariant.1.stack.low in let a = c.requires.most in omega arith

pub overflow_add-e : goal.overflow_add-e
overflow_add-e c = let h = inside (goal.at.overflow_add-e c).After-record_start-at in omega arith

pub overflow_add-f : goal.overflow_add-f
overflow_add-f c = let h = inside (goal.at.overflow_add-f c).After-record_start-at in omega arith

pub bounds-s-at : goal.bounds-s-at
bounds-s-at c = let h = inside (goal.at.bounds-s-at c).After-record_start-at in omega arith

pub overflow_cast-f : goal.overflow_cast-f
overflow_cast-f c = omega (arith, c.type_inv.s (c.record_start-at.result + 1))

pub overflow_add-f-in-loop-j : goal.overflow_add-f-in-loop-j
overflow_add-f-in-loop-j c = let f = (fits (goal.at.overflow_add-f-in-loop-j c).After-record_start-at).0 in omega arith

pub slice_bounds-append-end : goal.slice_bounds-append-end
slice_bounds-append-end c = let h = inside (goal.at.slice_bounds-append-end c).After-record_start-at in omega arith

pub offset_bounds-w-t : goal.offset_bounds-w-t
offset_bounds-w-t c = let f = (fits (goal.at.offset_bounds-w-t c).After-record_start-at).0 in omega arith

pub slice_bounds-append-start-in-loop-j : goal.slice_bounds-append-start-in-loop-j
slice_bounds-append-start-in-loop-j c = let f = (fits (goal.at.slice_bounds-append-start-in-loop-j c).After-record_start-at).0 in omega arith

pub slice_bounds-append-end-in-loop-j : goal.slice_bounds-append-end-in-loop-j
slice_bounds-append-end-in-loop-j c = let f = (fits (goal.at.slice_bounds-append-end-in-loop-j c).After-record_start-at).0 in let g = long (goal.at.slice_bounds-append-end-in-loop-j c).After-record_start-at in omega arith

pub append-requires : goal.append-requires
append-requires c = let l = c.loop-j in let g = l.invariant.0 in let o = c.requires.fits in
    fill_appends c.args.s.now c.args.c _ c.requires l.j l.u l.t l.w l.m (omega arith) l.invariant.1
    c.record_start-at.result c.record_start-at.ensures (omega arith)

pub overflow_sub-t : goal.overflow_sub-t
overflow_sub-t c = let f = (fits (goal.at.overflow_sub-t c).After-record_start-at).1 in omega arith

pub overflow_mul-w : goal.overflow_mul-w
overflow_mul-w c = let n = few (goal.at.overflow_mul-w c).After-record_start-at in omega arith

pub offset_bounds-w-t-in-loop-j : goal.offset_bounds-w-t-in-loop-j
offset_bounds-w-t-in-loop-j c = let f = fits (goal.at.offset_bounds-w-t-in-loop-j c).After-record_start-at in let f₀ = f.0 in let f₁ = f.1 in omega arith

pub bounds-w-t : goal.bounds-w-t
bounds-w-t c = let f = fits (goal.at.bounds-w-t c).After-record_start-at in let f₀ = f.0 in let f₁ = f.1 in let g = long (goal.at.bounds-w-t c).After-record_start-at in omega arith

pub overflow_add-u : goal.overflow_add-u
overflow_add-u c = let n = few (goal.at.overflow_add-u c).After-record_start-at in omega arith

pub loop-j-preserved : goal.loop-j-preserved
loop-j-preserved c = let l = c.loop-j in (
  c.append.auto.m ∙ l.invariant.0,
  fill_next c.args.s.now c.args.c _ c.requires l.j l.u l.t l.w l.m (omega arith) l.invariant.1
      c.record_start-at.result c.record_start-at.ensures _ c.append.ensures,
)

pub offset_bounds-w-t-2 : goal.offset_bounds-w-t-2
offset_bounds-w-t-2 c = let l = c.loop-j in
    let g = (fill_end c.args.s.now c.args.c _ c.requires l.j l.u l.t l.w l.m (omega arith) l.invariant.1).0 in omega arith

pub bounds-w-t-2 : goal.bounds-w-t-2
bounds-w-t-2 c = let l = c.loop-j in
    let g = (fill_end c.args.s.now c.args.c _ c.requires l.j l.u l.t l.w l.m (omega arith) l.invariant.1).0 in let o = c.loop-j.invariant.1.stack.long in omega arith

pub shape_of-m : goal.shape_of-m
shape_of-m c = c.loop-j.invariant.0

pub returns : goal.returns
returns c = (ended (goal.at.returns c).After-loop-j).1
