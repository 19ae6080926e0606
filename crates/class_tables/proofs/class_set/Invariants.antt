use Rattle.class_tables.specs.Tables.{in_classes}
use Rattle.column_sets.specs.Sets.{Holding, below}
use Rattle.class_tables.proofs.class_set.Given as goal

abbrev pub invariant-loop-c : goal.invariant-loop-c
invariant-loop-c l = Holding (below l.c (in_classes l.table l.x l.y)) l.r
