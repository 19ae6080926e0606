use mathlib.Core.Path.{sym, subst}
use Rattle.walks.specs.Marks.{known}
use Rattle.arena.specs.Arena.{slot}
use Rattle.record_fields.specs.Proper.{Proper}
use Rattle.plan_context.specs.View.{forest}
use Rattle.order_preservation_marks.specs.Nodes.{own_here, slot_proper, child_asks, kid_here, among}
use Rattle.order_preservation_marks.proofs.marking.maintains_input_order.Goals as goal

pub child-k-requires : goal.child-k-requires
child-k-requires c = let m = c.args.m.now in let i = c.args.i in let a = c.requires.0 in child_asks m i a c.args.j c.requires.1

pub row-requires : goal.row-requires
row-requires c = let m = c.args.m.now in let i = c.args.i in let a = c.requires.0 in own_here m i a

pub row-requires-2 : goal.row-requires-2
row-requires-2 c = let m = c.args.m.now in let i = c.args.i in let a = c.requires.0 in
    kid_here m i a c.args.j c.requires.1 _ c.child-k.ensures

pub maintains-requires : goal.maintains-requires
maintains-requires c = let m = c.args.m.now in let i = c.args.i in let a = c.requires.0 in
    (subst Proper (sym c.record_at.ensures) (slot_proper m i a), c.row.ensures.1.row, c.row-2.ensures.1.row)

pub returns : goal.returns
returns c = let m = c.args.m.now in let i = c.args.i in let a = c.requires.0 in
    (rw c.record_at.ensures at c.maintains.ensures) (known (forest m (slot m i).kids))
    (among m i a c.args.j c.requires.1 _ c.child-k.ensures _ _ c.row.ensures.1
    c.row-2.ensures.1)
