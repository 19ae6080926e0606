use Rattle.plan_updates.specs.Putting.{put_appends, put_settles, put_grown}
use Rattle.plan_updates.proofs.put.Goals as goal

pub append-requires : goal.append-requires
append-requires c = let m = c.args.m.now in let u = c.args.u in let r = c.args.r.now in
    let ks = c.args.ks.now in put_appends m u r ks c.requires

pub settle-requires : goal.settle-requires
settle-requires c = let m = c.args.m.now in let u = c.args.u in
    let r = c.args.r.now in let ks = c.args.ks.now in
    put_settles m u r ks c.requires _ c.append.auto.m c.append.ensures

pub returns : goal.returns
returns c = let m = c.args.m.now in
    let u = c.args.u in let r = c.args.r.now in let ks = c.args.ks.now in
    put_grown m u r ks c.requires _ c.append.auto.m
    c.append.ensures _ c.settle.auto.m c.settle.ensures
