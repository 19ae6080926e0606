use native.Mathlib.Omega.{arith}
use mathlib.Core.Path.{sym, ◌∙◌, subst}
use Prim.Native.Nat.{◌+◌}
use lib.ListN.{get_or}
use Rattle.arena.specs.Arena.{slot}
use Rattle.plan_updates.specs.Again.{Comparing, comparing_none, comparing_more, comparing_all}
use mathlib.Core.Bool.{◌&&◌}
use lib.Dec.{eqb}
use Rattle.arena_writer.specs.Flat.{length_kids}
use Rattle.plan_updates.proofs.same_children.Goals as goal

pub loop-j-init : goal.loop-j-init
loop-j-init c = comparing_none _ _

pub child-requires : goal.child-requires
child-requires c = let t = c.loop-j-test.true in let e = c.requires.1 in let f = c.requires.2 in
    (c.requires.0, omega arith, omega arith)

pub loop-j-preserved : goal.loop-j-preserved
loop-j-preserved c = let q = length_kids c.args.m.now c.args.i in
    let p = comparing_more c.args.ks.now (slot c.args.m.now c.args.i).kids c.loop-j.j
    c.loop-j.all (c.requires.1 ∙ sym q) c.loop-j-test.true c.loop-j.invariant in
    subst (λ x. Comparing c.args.ks.now (slot c.args.m.now c.args.i).kids (c.loop-j.j + 1)
    (c.loop-j.all && eqb (get_or c.args.ks.now c.loop-j.j 0) x)) (sym c.child.ensures) p

pub returns : goal.returns
returns c = let q = length_kids c.args.m.now c.args.i in
    comparing_all _ _ c.loop-j.j c.loop-j.all (c.requires.1 ∙ sym q) (omega arith) c.loop-j.invariant
