use Rattle.plan_updates.specs.Putting.{put_over}
use Rattle.plan_updates.specs.Rebuilt.{rebuilt_puts, rebuilt_grown}
use Rattle.plan_updates.proofs.update_plan_from_children.Goals as goal

pub rebuilt-x-requires : goal.rebuilt-x-requires
rebuilt-x-requires c = let m = c.args.m.now in let u = c.args.u in let r = c.args.r.now in
    let ks = c.args.ks.now in put_over m u r ks c.requires.0

pub put_again-requires : goal.put_again-requires
put_again-requires c = let m = c.args.m.now in let u = c.args.u in
    let r = c.args.r.now in let ks = c.args.ks.now in (rebuilt_puts m u r ks c.requires.0 _ c.rebuilt-x.ensures, c.requires.1)

pub returns : goal.returns
returns c = let m = c.args.m.now in let u = c.args.u in
    let r = c.args.r.now in let ks = c.args.ks.now in
    rebuilt_grown m u r ks c.requires.0 _ c.rebuilt-x.ensures _ _ _ c.put_again.ensures
