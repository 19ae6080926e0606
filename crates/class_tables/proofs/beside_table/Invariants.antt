use Rattle.class_tables.specs.Tables.{Filled, beside_low}
use Rattle.class_tables.proofs.beside_table.Given as goal

abbrev pub invariant-loop-c : goal.invariant-loop-c
invariant-loop-c l = Filled l.c (beside_low l.initial.r l.right l.w) l.r
