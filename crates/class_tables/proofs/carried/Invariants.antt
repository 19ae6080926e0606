use Rattle.class_tables.specs.Tables.{carries}
use Rattle.class_tables.specs.Lowest.{Nowhere}
use Rattle.class_tables.proofs.carried.Given as goal

abbrev pub invariant-loop-j : goal.invariant-loop-j
invariant-loop-j l = Nowhere (carries l.table l.cols l.class) l.j
