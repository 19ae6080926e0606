use native.Mathlib.Omega.{arith}
use mathlib.Core.Path.{sym, ◌∙◌}
use Rattle.arena.specs.Arena.{slot}
use Rattle.arena_writer.specs.Flat.{pushed_none, pushed_more, pushed_end, length_kids}
use Rattle.arena_writer.proofs.push_children.Goals as goal

pub loop-j-init : goal.loop-j-init
loop-j-init c = let e = length_kids c.args.m.now c.args.k in
    rw (c.child_count-j.ensures ∙ sym e) (pushed_none (slot c.args.m.now c.args.k).kids c.args.t c.args.w.now)

pub overflow_sub-top : goal.overflow_sub-top
overflow_sub-top c = let l = c.loop-j in let e = length_kids c.args.m.now c.args.k in let p = l.invariant in let a = p.here in let b = p.low in
    let g = c.requires.2 in
    let z = c.loop-j-test.true in omega arith

pub child-requires : goal.child-requires
child-requires c = let l = c.loop-j in let e = length_kids c.args.m.now c.args.k in let p = l.invariant in let b = p.low in
    let z = c.loop-j-test.true in
    (c.requires.0, omega arith, c.requires.1)

pub offset_bounds-w-top : goal.offset_bounds-w-top
offset_bounds-w-top c = let l = c.loop-j in let e = length_kids c.args.m.now c.args.k in let p = l.invariant in let a = p.here in
    let b = p.low in
    let d = p.wide in let g = c.requires.2 in let h = c.requires.3 in let z = c.loop-j-test.true in omega arith

pub bounds-w-top : goal.bounds-w-top
bounds-w-top c = let l = c.loop-j in let e = length_kids c.args.m.now c.args.k in let p = l.invariant in let a = p.here in
    let b = p.low in
    let d = p.wide in let g = c.requires.2 in let h = c.requires.3 in let z = c.loop-j-test.true in omega arith

pub loop-j-preserved : goal.loop-j-preserved
loop-j-preserved c = let l = c.loop-j in let e = length_kids c.args.m.now c.args.k in let g = c.requires.2 in let h = c.requires.3 in
    pushed_more _ c.args.t _ l.j l.top l.w _ c.loop-j-test.true (omega arith) (omega arith) c.child.ensures l.invariant

pub shape_of-w : goal.shape_of-w
shape_of-w c = c.loop-j.invariant.wide

pub returns : goal.returns
returns c = let l = c.loop-j in pushed_end _ _ _ l.j l.top l.w (omega arith) l.invariant
