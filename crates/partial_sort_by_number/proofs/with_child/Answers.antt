use native.Mathlib.Omega.{arith}
use mathlib.Core.Path.{◌∙◌}
use Prim.Native.Nat.{◌-◌}
use Rattle.sort_connection.specs.Standing.{view, slot_room, kid_asks}
use Rattle.partial_sort_by_number.specs.ByNumber.{copying_none, copying_more, copying_all}
use Rattle.partial_sort_by_number.proofs.with_child.Goals as goal

pub child_count-c-requires : goal.child_count-c-requires
child_count-c-requires c = slot_room c.args.m.now c.args.u c.args.h c.requires.0

pub loop-l-init : goal.loop-l-init
loop-l-init c = (c.child_count-c.ensures ∙ (view c.args.m.now c.args.u c.args.h c.requires.0).count, copying_none _)

pub child-requires : goal.child-requires
child-requires c = let l = c.loop-l in let i₀ = l.invariant.0 in
    kid_asks c.args.m.now c.args.u c.args.h c.requires.0 l.l (omega arith)

pub offset_bounds-out-l : goal.offset_bounds-out-l
offset_bounds-out-l c = let l = c.loop-l in let i₀ = l.invariant.0 in
    let f = (view c.args.m.now c.args.u c.args.h c.requires.0).few in omega arith

pub bounds-out-l : goal.bounds-out-l
bounds-out-l c = let l = c.loop-l in let i₀ = l.invariant.0 in
    let f = (view c.args.m.now c.args.u c.args.h c.requires.0).few in let w = l.invariant.1.wide in
    omega arith

pub loop-l-preserved : goal.loop-l-preserved
loop-l-preserved c = let l = c.loop-l in let i₀ = l.invariant.0 in
    (i₀, copying_more _ l.l l.out l.invariant.1 (view c.args.m.now c.args.u c.args.h c.requires.0).few (omega arith) _ c.child.ensures)

pub offset_bounds-out-j : goal.offset_bounds-out-j
offset_bounds-out-j c = let l = c.loop-l in let i₀ = l.invariant.0 in
    let f = (view c.args.m.now c.args.u c.args.h c.requires.0).few in let q = c.requires.1 in omega arith

pub bounds-out-j : goal.bounds-out-j
bounds-out-j c = let l = c.loop-l in let i₀ = l.invariant.0 in
    let f = (view c.args.m.now c.args.u c.args.h c.requires.0).few in let q = c.requires.1 in let w = l.invariant.1.wide in omega arith

pub returns : goal.returns
returns c = let l = c.loop-l in let i₀ = l.invariant.0 in
    copying_all _ l.l l.out l.invariant.1 (omega arith) c.args.j c.args.k
