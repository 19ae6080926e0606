use native.Mathlib.Omega.{arith}
use mathlib.Core.Path.{ap, refl, ◌∙◌}
use Prim.Native.Nat.{◌+◌, ◌-◌, ◌≤◌, ◌<◌}
use lib.ListN.{length}
use Rattle.std.proofs.lemmas.Result.{err_from_is_err_and}
use Rattle.scan.specs.ByteLaws.{length_part}
use Rattle.plan_format.specs.Blocks.{record_start}
use Rattle.plan_passes.specs.Stack.{child_byte, record_lent, byte_fits}
use Rattle.plan_reader.specs.Laws.{late_start, record_small, visit_fail, visit_narrow, visit_more, visit_end}
use Rattle.plan_reader.proofs.last_pass.Goals as goal
use Rattle.plan_reader.proofs.last_pass.Goals.{After-record_start-at}

-- the record's children lie on the stack
fits : (c : After-record_start-at)
    → (c.loop-j.t + child_byte c.args.s.now c.record_start-at.result ≤ 126)
    × (0 < c.loop-j.t + child_byte c.args.s.now c.record_start-at.result)
fits c =
    let l = c.loop-j in
    byte_fits c.args.s.now c.args.m l.j l.t l.widths (omega arith) l.invariant.stack
    c.requires.0.0 c.requires.1 c.record_start-at.result c.record_start-at.ensures

-- the record lies in the file
inside : (c : After-record_start-at) → c.record_start-at.result + 64 ≤ length c.args.s.now
inside c =
    let l = c.loop-j in
    let e = c.record_start-at.ensures in let h = l.invariant.stack.low in let a = c.requires.0.1 in omega arith

pub loop-j-init : goal.loop-j-init
loop-j-init c = late_start c.args.s.now c.args.m _ c.requires.0.2 refl

pub record_start-at-requires : goal.record_start-at-requires
record_start-at-requires c = let l = c.loop-j.invariant.stack.low in let a = c.requires.0.2 in omega arith

pub overflow_add-e : goal.overflow_add-e
overflow_add-e c = let h = inside (goal.at.overflow_add-e c).After-record_start-at in omega arith

pub overflow_add-u : goal.overflow_add-u
overflow_add-u c = let h = inside (goal.at.overflow_add-u c).After-record_start-at in omega arith

pub bounds-s-at : goal.bounds-s-at
bounds-s-at c = let h = inside (goal.at.bounds-s-at c).After-record_start-at in omega arith

pub overflow_cast-u : goal.overflow_cast-u
overflow_cast-u c = omega (arith, c.type_inv.s (c.record_start-at.result + 1))

pub overflow_add-u-in-loop-j : goal.overflow_add-u-in-loop-j
overflow_add-u-in-loop-j c = let f = (fits (goal.at.overflow_add-u-in-loop-j c).After-record_start-at).0 in omega arith

pub slice_bounds-visit-end : goal.slice_bounds-visit-end
slice_bounds-visit-end c = let h = inside (goal.at.slice_bounds-visit-end c).After-record_start-at in omega arith

pub slice_bounds-visit-start-in-loop-j : goal.slice_bounds-visit-start-in-loop-j
slice_bounds-visit-start-in-loop-j c = let f = (fits (goal.at.slice_bounds-visit-start-in-loop-j c).After-record_start-at).0 in omega arith

pub slice_bounds-visit-end-in-loop-j : goal.slice_bounds-visit-end-in-loop-j
slice_bounds-visit-end-in-loop-j c = let f = (fits (goal.at.slice_bounds-visit-end-in-loop-j c).After-record_start-at).0 in let g = c.loop-j.invariant.stack.long in omega arith

pub visit-y-requires : goal.visit-y-requires
visit-y-requires c = let l = c.loop-j in
    let b = c.args.s.now in let a = c.record_start-at.result in let g = c.record_start-at.ensures in
    let h = l.invariant.stack.low in let a₀ = c.requires.0.0 in let o = c.requires.0.1 in
    let e = record_lent b (l.j - 1) a g in let q = record_small b (l.j - 1) c.requires.2 (omega arith) in
    (ap length e ∙ length_part b (record_start (l.j - 1)) 64 (omega arith), rw e q.0, rw e q.1)

pub returns-in_err-y : goal.returns-in_err-y
returns-in_err-y c = let l = c.loop-j in let p = err_from_is_err_and c.from_residual.result c.from_residual.ensures.1 in
    rw (p.1, p.2) (visit_fail c.args.s.now c.args.m l.j l.t l.widths c.visit-y.result c.requires.0.0 (omega arith) l.invariant
    c.record_start-at.result c.record_start-at.ensures c.visit-y.ensures _ c.in_err-y.was)

pub overflow_sub-t : goal.overflow_sub-t
overflow_sub-t c = let f = (fits (goal.at.overflow_sub-t c).After-record_start-at).1 in omega arith

pub overflow_cast-widths : goal.overflow_cast-widths
overflow_cast-widths c = let l = c.loop-j in
    let n = visit_narrow c.args.s.now c.args.m l.j l.t l.widths c.visit-y.result c.requires.0.0 (omega arith) l.invariant
    c.record_start-at.result c.record_start-at.ensures c.visit-y.ensures c.in_ok-y.was in
    omega arith

pub bounds-widths-t : goal.bounds-widths-t
bounds-widths-t c = let f = fits (goal.at.bounds-widths-t c).After-record_start-at in let f₀ = f.0 in let f₁ = f.1 in let g = c.loop-j.invariant.stack.long in omega arith

pub loop-j-preserved : goal.loop-j-preserved
loop-j-preserved c = let l = c.loop-j in
    visit_more c.args.s.now c.args.m l.j l.t l.widths c.visit-y.result c.requires.0.0 (omega arith) l.invariant
    c.record_start-at.result c.record_start-at.ensures c.visit-y.ensures c.requires.1 c.in_ok-y.was

pub returns : goal.returns
returns c = let l = c.loop-j in
    visit_end c.args.s.now c.args.m l.j l.t l.widths c.requires.0.0 l.invariant (omega arith)
