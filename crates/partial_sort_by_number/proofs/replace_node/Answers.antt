use Rattle.partial_sort_by_number.specs.ByNumber.{standing, same_node, partial-node}
use Rattle.partial_sort_by_number.proofs.replace_node.Goals as goal

pub replace_with_partial_sort-found-requires : goal.replace_with_partial_sort-found-requires
replace_with_partial_sort-found-requires c = standing c.args.m.now c.args.u c.args.h c.requires

pub put_partial-a-requires : goal.put_partial-a-requires
put_partial-a-requires c = let q = partial-node c.args.m.now c.args.u c.args.h c.requires _ c.replace_with_partial_sort-found.ensures.0
    c.replace_with_partial_sort-found.ensures.1 _ c.in-Some.is in (c.requires, q.0, q.1, q.2)

pub returns-in-None : goal.returns-in-None
returns-in-None c = same_node c.args.m.now c.args.u c.args.h c.requires _ c.replace_with_partial_sort-found.ensures.0 c.in-None.is
