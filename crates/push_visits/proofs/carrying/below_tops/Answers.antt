use Rattle.push_visits.specs.Carrying.{gone_grown, stay_over, node_puts, node_grown}
use Rattle.push_visits.proofs.carrying.below_tops.Goals as goal

pub bounds-kids-0 : goal.bounds-kids-0
bounds-kids-0 c = c.requires.some c.if-d.true

pub returns-then-d : goal.returns-then-d
returns-then-d c = let a = c.args.a.now in let b = c.args.b.now in let ks = c.args.kids.now in
    gone_grown a c.args.ua c.args.i b c.args.w c.args.d ks c.requires c.if-d.true

pub rebuilt-y-requires : goal.rebuilt-y-requires
rebuilt-y-requires c = let a = c.args.a.now in let b = c.args.b.now in
    let ks = c.args.kids.now in stay_over a c.args.ua c.args.i b c.args.w c.args.d ks c.requires c.if-d.false _
    c.record_by-x.ensures

pub put-requires : goal.put-requires
put-requires c = let a = c.args.a.now in
    let b = c.args.b.now in let ks = c.args.kids.now in
    node_puts a c.args.ua c.args.i b c.args.w c.args.d ks c.requires c.if-d.false _
    c.record_by-x.ensures _ c.rebuilt-y.ensures

pub returns : goal.returns
returns c = let a = c.args.a.now in let b = c.args.b.now in let ks = c.args.kids.now in
    node_grown a c.args.ua c.args.i b c.args.w c.args.d ks c.requires
    c.if-d.false _
    c.record_by-x.ensures _ c.rebuilt-y.ensures
    _ _ c.put.ensures
