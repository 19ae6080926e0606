use Rattle.walks.specs.Marks.{size_t}
use Rattle.plan_context.specs.View.{tree_of}
use Rattle.partial_sort_by_number.proofs.+partially_sorted.Given as goal

abbrev pub decreases-partially_sorted : goal.decreases-partially_sorted
decreases-partially_sorted l = size_t (tree_of l.m.now l.h)
