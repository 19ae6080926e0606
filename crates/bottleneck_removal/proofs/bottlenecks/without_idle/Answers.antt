use native.Mathlib.Omega.{arith}
use mathlib.Core.Path.{refl}
use Rattle.plan_updates.specs.Putting.{put_over}
use Rattle.bottleneck_removal.specs.IdleNodes.{idle_some, idle_grown, back_grown, root_small}
use Rattle.bottleneck_removal.proofs.bottlenecks.without_idle.Goals as goal

pub is_idle-requires : goal.is_idle-requires
is_idle-requires c = put_over c.args.m.now c.args.u
    c.args.r.now c.args.ks.now c.requires.0

pub bounds-ks-0 : goal.bounds-ks-0
bounds-ks-0 c = let n = idle_some c.args.m.now
    c.args.u c.args.r.now
    c.args.ks.now c.requires.0
    c.is_idle.result c.is_idle.ensures c.if-is_idle.true in omega arith

pub returns-then-is_idle : goal.returns-then-is_idle
returns-then-is_idle c = idle_grown c.args.m.now
    c.args.u c.args.r.now
    c.args.ks.now c.requires.0
    c.is_idle.result c.is_idle.ensures c.if-is_idle.true _ refl

pub set_mark-requires : goal.set_mark-requires
set_mark-requires c = root_small c.args.m.now
    c.args.u _
    c.update_plan_from_children-a.result _ _ c.update_plan_from_children-a.ensures

pub returns : goal.returns
returns c = back_grown c.args.m.now
    c.args.u
    c.args.r.now
    c.args.ks.now
    c.requires.0
    c.is_idle.result c.is_idle.ensures
    c.if-is_idle.false _ c.update_plan_from_children-a.result
    c.update_plan_from_children-a.ensures c.set_mark.result c.set_mark.ensures
