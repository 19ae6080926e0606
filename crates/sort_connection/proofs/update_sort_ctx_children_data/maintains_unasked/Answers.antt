use mathlib.Core.Path.{subst}
use Rattle.key_lists.specs.Keys.{Ordered}
use Rattle.semantics.specs.Properties.{wanted}
use Rattle.plan_context.specs.View.{tree_of}
use Rattle.sort_connection.specs.Standing.{op_is, own_proper}
use Rattle.sort_connection.specs.Connection.{asked_some, asked_none}
use Rattle.sort_connection.proofs.update_sort_ctx_children_data.maintains_unasked.Goals as goal

pub wanted_order-o-requires : goal.wanted_order-o-requires
wanted_order-o-requires c = own_proper c.args.m.now c.args.u c.args.h c.requires.0 _ c.record_at.ensures

pub returns-in-Some : goal.returns-in-Some
returns-in-Some c = asked_some (tree_of c.args.m.now c.args.h) c.args.j _
    (subst (λ x. Ordered (wanted x c.args.j) c.wanted_order-o.result)
    (op_is c.args.m.now c.args.u c.args.h c.requires.0 _ c.record_at.ensures)
    c.wanted_order-o.ensures) _ c.in-Some.is

pub returns : goal.returns
returns c = asked_none (tree_of c.args.m.now c.args.h) c.args.j _
    (subst (λ x. Ordered (wanted x c.args.j) c.wanted_order-o.result)
    (op_is c.args.m.now c.args.u c.args.h c.requires.0 _ c.record_at.ensures)
    c.wanted_order-o.ensures) c.in_default.is _ c.maintains_child.ensures
