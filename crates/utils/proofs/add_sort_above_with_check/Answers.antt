use Rattle.key_lists.specs.Keys.{keys_of}
use Rattle.plan_context.specs.Laws.{here}
use Rattle.utils.specs.Sorting.{met_already, met_not}
use Rattle.utils.proofs.add_sort_above_with_check.Goals as goal

pub row-requires : goal.row-requires
row-requires c = let m = c.args.m.now in let u = c.args.u in let h = c.args.h in let p = c.requires.0 in
    here m u h p.arena p.here

pub returns-then-meets : goal.returns-then-meets
returns-then-meets c = let m = c.args.m.now in let u = c.args.u in let h = c.args.h in
    let ks = keys_of c.args.keys in let f = c.args.fetch in let p = c.requires.0 in let q = c.requires.1 in
    met_already m u h ks f p.arena p.here q _ c.row.ensures.1 c.meets.result c.meets.ensures
    c.if-meets.true

pub returns : goal.returns
returns c = let m = c.args.m.now in let u = c.args.u in
    let h = c.args.h in let ks = keys_of c.args.keys in let f = c.args.fetch in let p = c.requires.0 in let q = c.requires.1 in
    met_not m u h ks f p.arena p.here q _ c.row.ensures.1
    c.meets.result c.meets.ensures
    c.if-meets.false _ c.add_sort_above.result c.add_sort_above.ensures
