use Rattle.sort_connection.specs.Standing.{is_here}
use Rattle.ensure_sorting.specs.Child.{child_standing, kept_met, plain_sorts, plain_grown, over_sorts, over_grown}
use Rattle.ensure_sorting.proofs.ensure_ordered.Goals as goal

pub row-own-requires : goal.row-own-requires
row-own-requires c = is_here c.args.m.now c.args.u c.args.h (child_standing c.args.m.now c.args.u c.args.h c.requires.0)

pub returns-then-meets : goal.returns-then-meets
returns-then-meets c = kept_met c.args.m.now c.args.u c.args.h c.requires.0 _ c.row-own.ensures.1 _
    c.is_ordered-ordered.ensures c.args.single c.args.keys c.requires.1 c.args.fetch c.requires.2 _ c.meets.ensures
    c.if-meets.true

pub add_marked_sort-requires : goal.add_marked_sort-requires
add_marked_sort-requires c = plain_sorts c.args.m.now c.args.u c.args.h c.requires.0 _ c.row-own.ensures.1 _
    c.is_ordered-ordered.ensures c.args.single c.args.keys c.requires.1 c.args.fetch c.requires.2 _
    c.meets.ensures c.if-meets.false c.if-not-ordered.true

pub returns-then-not-ordered : goal.returns-then-not-ordered
returns-then-not-ordered c = plain_grown c.args.m.now c.args.u c.args.h c.requires.0 _
    c.row-own.ensures.1 _
    c.is_ordered-ordered.ensures c.args.single c.args.keys c.requires.1 c.args.fetch
    c.requires.2 _ c.meets.ensures c.if-meets.false
    c.if-not-ordered.true _ _ c.add_marked_sort.ensures

pub add_marked_sort-requires-2 : goal.add_marked_sort-requires-2
add_marked_sort-requires-2 c = over_sorts c.args.m.now c.args.u c.args.h c.requires.0 _
    c.row-own.ensures.1 _
    c.is_ordered-ordered.ensures c.args.single c.args.keys c.requires.1 c.args.fetch
    c.requires.2 _ c.meets.ensures c.if-meets.false
    c.if-not-ordered.false _ c.update_child_to_remove_unnecessary_sort-a.auto.m _
    c.update_child_to_remove_unnecessary_sort-a.ensures

pub returns : goal.returns
returns c = over_grown c.args.m.now c.args.u c.args.h c.requires.0 _
    c.row-own.ensures.1 _
    c.is_ordered-ordered.ensures c.args.single c.args.keys
    c.requires.1 c.args.fetch c.requires.2 _ c.meets.ensures
    c.if-meets.false
    c.if-not-ordered.false _
    c.update_child_to_remove_unnecessary_sort-a.auto.m _
    c.update_child_to_remove_unnecessary_sort-a.ensures _ _ c.add_marked_sort-2.ensures
