use Rattle.sort_connection.specs.Standing.{is_here}
use Rattle.ensure_sorting.specs.Child.{child_standing, updated, kept_free}
use Rattle.ensure_sorting.proofs.ensure_unordered.Goals as goal

pub row-requires : goal.row-requires
row-requires c = is_here c.args.m.now c.args.u c.args.h (child_standing c.args.m.now c.args.u c.args.h c.requires)

pub returns-then-ordered-keeps : goal.returns-then-ordered-keeps
returns-then-ordered-keeps c = updated c.args.m.now c.args.u c.args.h c.requires _ c.row.ensures.1 _
    c.is_ordered-ordered.ensures c.args.single c.args.keeps c.if-ordered-keeps.true _ _
    c.update_child_to_remove_unnecessary_sort.ensures

pub returns : goal.returns
returns c = kept_free c.args.m.now c.args.u c.args.h c.requires _ c.row.ensures.1 _ c.is_ordered-ordered.ensures
    c.args.single c.args.keeps c.if-ordered-keeps.false
