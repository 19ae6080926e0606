use Rattle.class_tables.specs.Tables.{Filled, union_low}
use Rattle.class_tables.proofs.union_table.Given as goal

abbrev pub invariant-loop-c : goal.invariant-loop-c
invariant-loop-c l = Filled l.c (union_low l.a l.b) l.r
