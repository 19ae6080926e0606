use native.Mathlib.Omega.{arith}
use Rattle.plan_context.specs.Nodes.{proper}
use Rattle.plan_updates.specs.Rebuild.{lowered, clears, keeps_mark}
use Rattle.plan_updates.proofs.rebuilt.Goals as goal

pub read64-out-requires : goal.read64-out-requires
read64-out-requires c = let m = c.args.m.now in let r = c.args.r.now in let ks = c.args.ks.now in
    let a = c.requires in (proper m r ks a).long

pub bounds-r-3 : goal.bounds-r-3
bounds-r-3 c = let m = c.args.m.now in let r = c.args.r.now in
    let ks = c.args.ks.now in let a = c.requires in let l = (proper m r ks a).long in omega arith

pub overflow_sub-out : goal.overflow_sub-out
overflow_sub-out c = let m = c.args.m.now in let r = c.args.r.now in
    let ks = c.args.ks.now in let a = c.requires in let l = lowered m r ks a c.loses_mark.result c.loses_mark.ensures
    c.if-loses_mark.true in omega arith

pub returns-then-loses_mark : goal.returns-then-loses_mark
returns-then-loses_mark c = let m = c.args.m.now in let r = c.args.r.now in
    let ks = c.args.ks.now in let a = c.requires in clears m r ks a c.loses_mark.result c.loses_mark.ensures
    c.if-loses_mark.true c.read64-out.result c.read64-out.ensures

pub returns-else-loses_mark : goal.returns-else-loses_mark
returns-else-loses_mark c = let m = c.args.m.now in let r = c.args.r.now in
    let ks = c.args.ks.now in let a = c.requires in keeps_mark m r ks a c.loses_mark.result c.loses_mark.ensures c.if-loses_mark.false
    c.read64-out.result c.read64-out.ensures
