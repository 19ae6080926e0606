use lib.ListN.{get_or}
use Rattle.row_order.specs.Packed.{bit}
use Rattle.column_sets.specs.Sets.{Holding, below}
use Rattle.class_tables.proofs.projection_set.Given as goal

abbrev pub invariant-loop-j : goal.invariant-loop-j
invariant-loop-j l = Holding (below l.j (λ k. bit l.set (get_or l.cols k 0))) l.r
