use native.Mathlib.Omega.{arith}
use Rattle.settling.specs.Reading.{settling_none, settling_asks, settling_more, settling_all}
use Rattle.settling.proofs.settle_all.Goals as goal

pub loop-i-init : goal.loop-i-init
loop-i-init c = settling_none c.args.m.now c.args.u c.requires

pub settle-requires : goal.settle-requires
settle-requires c = settling_asks c.args.m.now c.args.u c.requires c.loop-i.i c.loop-i.m c.loop-i-test.true
    c.loop-i.invariant

pub loop-i-preserved : goal.loop-i-preserved
loop-i-preserved c = settling_more c.args.m.now c.args.u c.requires c.loop-i.i
    c.loop-i.m c.loop-i-test.true
    c.loop-i.invariant _ c.settle.auto.m c.settle.ensures

pub shape_of-m : goal.shape_of-m
shape_of-m c = c.loop-i.invariant.long

pub returns : goal.returns
returns c = settling_all c.args.m.now c.args.u c.requires c.loop-i.i c.loop-i.m
    (omega arith) c.loop-i.invariant
