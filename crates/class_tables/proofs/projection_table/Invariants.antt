use Rattle.class_tables.specs.Tables.{Filled, projection_low}
use Rattle.class_tables.proofs.projection_table.Given as goal

abbrev pub invariant-loop-j : goal.invariant-loop-j
invariant-loop-j l = Filled l.j (projection_low l.table l.cols) l.r
