use mathlib.Core.Path.{sym, ap, ◌∙◌}
use borrow.Author.Tests.{not-true, not-false}
use lib.Dec.{ltb}
use Rattle.walks.specs.Marks.{fact}
use Rattle.plan_context.specs.View.{tree_of}
use Rattle.parallelize_sorts.specs.Exprs.{merge-cascades, no_cascade, sort-cascades}
use Rattle.std.specs.Prelude.{not}
use Rattle.parallelize_sorts.proofs.cascades.sorts_one_stream.Goals as goal

pub returns-then-is_sort_preserving_merge : goal.returns-then-is_sort_preserving_merge
returns-then-is_sort_preserving_merge c = merge-cascades c.args.r.now
    (fact (tree_of c.args.m.now c.args.h))
    (sym c.is_sort_preserving_merge.ensures ∙ c.if-is_sort_preserving_merge.true)

pub returns-then-not-is_sort : goal.returns-then-not-is_sort
returns-then-not-is_sort c = no_cascade c.args.r.now
    (fact (tree_of c.args.m.now c.args.h))
    (sym c.is_sort_preserving_merge.ensures ∙ c.if-is_sort_preserving_merge.false)
    (sym c.is_sort.ensures ∙ not-true _ (ap not c.if-not-is_sort.true))

pub returns : goal.returns
returns c = sort-cascades c.args.r.now
    (fact (tree_of c.args.m.now
    c.args.h)) (sym c.is_sort.ensures
    ∙ not-false _ (ap not c.if-not-is_sort.false)) c.preserve_mark.result c.preserve_mark.ensures
    c.several_streams.result (c.several_streams.ensures ∙ ap (λ G. ltb 1 G.streams) c.row.ensures.1.is)
