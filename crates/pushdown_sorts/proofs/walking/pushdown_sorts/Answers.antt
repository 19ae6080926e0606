use Rattle.plan_context.specs.Laws.{here}
use Rattle.pushdown_sorts.specs.Walking.{root_pushes, root_ends}
use Rattle.pushdown_sorts.proofs.walking.pushdown_sorts.Goals as goal

pub nodes-count-requires : goal.nodes-count-requires
nodes-count-requires c = let a = c.args.a.now in let ua = c.args.ua in let h = c.args.h in
    here a ua h c.requires.arena c.requires.here

pub push_at-requires : goal.push_at-requires
push_at-requires c = let a = c.args.a.now in let ua = c.args.ua in let h = c.args.h in
    root_pushes a ua h c.args.b.now c.requires c.at_root-visit.result c.at_root-visit.ensures.0 c.nodes-count.result
    c.nodes-count.ensures c.at_root-visit.ensures.1

pub returns : goal.returns
returns c = let a = c.args.a.now in let ua = c.args.ua in
    let h = c.args.h in root_ends a ua h c.args.b.now c.requires c.at_root-visit.result
    c.at_root-visit.ensures.0 c.nodes-count.result
    c.nodes-count.ensures _ c.push_at.result c.push_at.ensures
