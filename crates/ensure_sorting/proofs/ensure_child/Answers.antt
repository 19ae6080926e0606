use Rattle.plan_context.specs.View.{tree_of}
use Rattle.ensure_sorting.specs.Child.{child_unordered, child_ordered, ordered_asks}
use Rattle.ensure_sorting.proofs.ensure_child.Goals as goal

pub ensure_ordered-requires : goal.ensure_ordered-requires
ensure_ordered-requires c = let q = ordered_asks _ _ c.in-Some.is c.requires.1 (tree_of c.args.m.now c.args.h) c.args.fetch c.requires.2 in
    (c.requires.0, q.0, q.1)

pub returns-in-None : goal.returns-in-None
returns-in-None c = child_unordered _ _ _ _ _ c.in-None.is c.args.keeps c.args.single c.args.fetch
    (tree_of c.args.m.now c.args.h) _ c.ensure_unordered.ensures

pub returns-in-Some : goal.returns-in-Some
returns-in-Some c = child_ordered _ _ _ _ _ _ c.in-Some.is c.requires.1 c.args.keeps c.args.single c.args.fetch
    (tree_of c.args.m.now c.args.h) _ c.ensure_ordered.ensures
