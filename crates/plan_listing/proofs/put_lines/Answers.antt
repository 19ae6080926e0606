use borrow.Author.Rules.{rules}
use native.Mathlib.Omega.{arith}
use mathlib.Core.Path.{refl, sym}
use Prim.Native.Nat.{◌-◌, ◌*◌}
use Rattle.arena.specs.Arena.{slot_size}
use Rattle.plan_listing.specs.Laws.{listed_none, listed_more, listed_all}
use Rattle.plan_listing.proofs.put_lines.Goals as goal

pub loop-i-init : goal.loop-i-init
loop-i-init c = listed_none c.args.m.now c.args.u c.args.at c.args.out.now _ refl

pub put_line-e-requires : goal.put_line-e-requires
put_line-e-requires c = let t = c.loop-i-test.true in
    let r = c.loop-i.invariant in let w = r.long in let f = r.put.few in let g = r.put.ends in let h = c.requires.2 in
    (search rules, omega arith)

pub slice_bounds-next_depth-end : goal.slice_bounds-next_depth-end
slice_bounds-next_depth-end c = sym c.loop-i.invariant.wide

pub next_depth-depth-requires : goal.next_depth-depth-requires
next_depth-depth-requires c = let t = c.loop-i-test.true in let r = c.loop-i.invariant in let w = r.wide in let d = r.deep in let h = c.requires.1 in
    omega arith

pub loop-i-preserved : goal.loop-i-preserved
loop-i-preserved c = let l = c.loop-i in
    listed_more ((c.args.u - 1 - l.i) * slot_size) c.next_depth-depth.new.left c.next_depth-depth.result c.put_line-e.result
    c.put_line-e.new.out refl c.requires.2 c.loop-i-test.true c.next_depth-depth.auto.left c.put_line-e.auto.out
    c.next_depth-depth.ensures.0 c.put_line-e.ensures c.next_depth-depth.ensures.1 l.invariant

pub shape_of-out : goal.shape_of-out
shape_of-out c = c.loop-i.invariant.long

pub returns : goal.returns
returns c = listed_all (omega arith) c.loop-i.invariant
