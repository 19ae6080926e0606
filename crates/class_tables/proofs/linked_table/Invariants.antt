use Rattle.class_tables.specs.Tables.{Filled, linked_low}
use Rattle.class_tables.proofs.linked_table.Given as goal

abbrev pub invariant-loop-c : goal.invariant-loop-c
invariant-loop-c l = Filled l.c (linked_low l.table l.x l.y) l.r
