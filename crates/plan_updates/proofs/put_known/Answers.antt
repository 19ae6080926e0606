use Rattle.plan_updates.specs.Putting.{put_appends, known_grown}
use Rattle.plan_updates.proofs.put_known.Goals as goal

pub append-requires : goal.append-requires
append-requires c = let m = c.args.m.now in let u = c.args.u in let r = c.args.r.now in
    let ks = c.args.ks.now in put_appends m u r ks c.requires.0

pub returns : goal.returns
returns c = let m = c.args.m.now in
    let u = c.args.u in let r = c.args.r.now in let ks = c.args.ks.now in let a = c.append in
    let d = c.copy in
    rw d.ensures (known_grown m u r ks c.requires.0 _ a.auto.m a.ensures c.args.b.now c.requires.1 c.requires.2 c.requires.3)
