use mathlib.Core.Path.{sym, ap, ◌∙◌}
use borrow.Author.Tests.{not-true, not-false}
use Rattle.semantics.specs.Properties.{is_limit}
use Rattle.walks.specs.Utils.{is_sort, is_sort_preserving_merge}
use Rattle.plan_context.specs.View.{tree_of}
use Rattle.sort_connection.specs.Standing.{op_is, own_proper}
use Rattle.sort_connection.specs.Connection.{of_sort, of_limit, of_unmarked, of_merge, of_other}
use Rattle.std.specs.Prelude.{not}
use Rattle.sort_connection.proofs.update_sort_ctx_children_data.is_connected.Goals as goal

pub is_sort-requires : goal.is_sort-requires
is_sort-requires c = own_proper c.args.m.now c.args.u c.args.h c.requires _ c.record_at-r.ensures

pub returns-then-is_sort : goal.returns-then-is_sort
returns-then-is_sort c = of_sort (tree_of c.args.m.now c.args.h)
    (sym (c.is_sort.ensures ∙ ap is_sort (op_is c.args.m.now c.args.u c.args.h c.requires _ c.record_at-r.ensures))
    ∙ c.if-is_sort.true)

pub is_limit-requires : goal.is_limit-requires
is_limit-requires c = own_proper c.args.m.now c.args.u c.args.h c.requires _ c.record_at-r.ensures

pub returns-then-is_limit : goal.returns-then-is_limit
returns-then-is_limit c = of_limit (tree_of c.args.m.now c.args.h)
    (sym (c.is_sort.ensures
    ∙ ap is_sort (op_is c.args.m.now c.args.u c.args.h c.requires _ c.record_at-r.ensures))
    ∙ c.if-is_sort.false)
    (sym (c.is_limit.ensures
    ∙ ap is_limit (op_is c.args.m.now c.args.u c.args.h c.requires _ c.record_at-r.ensures)) ∙ c.if-is_limit.true)

pub returns-then-not-any_marked : goal.returns-then-not-any_marked
returns-then-not-any_marked c = of_unmarked (tree_of c.args.m.now c.args.h)
    (sym (c.is_sort.ensures
    ∙ ap is_sort (op_is c.args.m.now c.args.u c.args.h c.requires _ c.record_at-r.ensures))
    ∙ c.if-is_sort.false)
    (sym (c.is_limit.ensures
    ∙ ap is_limit (op_is c.args.m.now c.args.u c.args.h c.requires _ c.record_at-r.ensures))
    ∙ c.if-is_limit.false) (sym c.any_marked.ensures ∙ not-true _ (ap not c.if-not-any_marked.true))

pub is_sort_preserving_merge-requires : goal.is_sort_preserving_merge-requires
is_sort_preserving_merge-requires c = own_proper c.args.m.now c.args.u c.args.h c.requires _ c.record_at-r.ensures

pub returns-then-is_sort_preserving_merge : goal.returns-then-is_sort_preserving_merge
returns-then-is_sort_preserving_merge c = of_merge (tree_of c.args.m.now c.args.h)
    (sym (c.is_sort.ensures
    ∙ ap is_sort (op_is c.args.m.now c.args.u c.args.h c.requires _
    c.record_at-r.ensures))
    ∙ c.if-is_sort.false)
    (sym (c.is_limit.ensures
    ∙ ap is_limit (op_is c.args.m.now c.args.u c.args.h c.requires _
    c.record_at-r.ensures)) ∙ c.if-is_limit.false)
    (sym c.any_marked.ensures ∙ not-false _ (ap not c.if-not-any_marked.false))
    (sym (c.is_sort_preserving_merge.ensures
    ∙ ap is_sort_preserving_merge (op_is c.args.m.now c.args.u c.args.h c.requires _
    c.record_at-r.ensures)) ∙ c.if-is_sort_preserving_merge.true)

pub returns : goal.returns
returns c = of_other (tree_of c.args.m.now c.args.h)
    (sym (c.is_sort.ensures
    ∙ ap is_sort (op_is c.args.m.now c.args.u c.args.h c.requires _
    c.record_at-r.ensures))
    ∙ c.if-is_sort.false)
    (sym (c.is_limit.ensures
    ∙ ap is_limit (op_is c.args.m.now c.args.u c.args.h c.requires _
    c.record_at-r.ensures))
    ∙ c.if-is_limit.false) (sym c.any_marked.ensures
    ∙ not-false _ (ap not c.if-not-any_marked.false))
    (sym (c.is_sort_preserving_merge.ensures
    ∙ ap is_sort_preserving_merge (op_is c.args.m.now c.args.u c.args.h c.requires _
    c.record_at-r.ensures)) ∙ c.if-is_sort_preserving_merge.false) _ c.any_maintained.ensures
