use Rattle.sort_connection.specs.Standing.{is_here, own_proper, kid_asks, kid_standing, maintained}
use Rattle.sort_connection.proofs.update_sort_ctx_children_data.maintains_child.Goals as goal

pub child-k-requires : goal.child-k-requires
child-k-requires c = kid_asks c.args.m.now c.args.u c.args.h c.requires.0 c.args.j c.requires.1

pub row-requires : goal.row-requires
row-requires c = is_here c.args.m.now c.args.u c.args.h c.requires.0

pub row-requires-2 : goal.row-requires-2
row-requires-2 c = is_here c.args.m.now c.args.u _ (kid_standing c.args.m.now c.args.u c.args.h c.requires.0 c.args.j c.requires.1 _
    c.child-k.ensures)

pub maintains-requires : goal.maintains-requires
maintains-requires c = (
  own_proper c.args.m.now c.args.u c.args.h c.requires.0 _ c.record_at.ensures,
  c.row.ensures.1.row,
  c.row-2.ensures.1.row,
)

pub returns : goal.returns
returns c = maintained c.args.m.now c.args.u c.args.h c.requires.0 c.args.j c.requires.1 _ c.child-k.ensures _
    c.record_at.ensures _ _ c.row.ensures.1 c.row-2.ensures.1 _ c.maintains.ensures
