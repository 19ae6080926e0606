use Rattle.class_tables.specs.Tables.{alike_at}
use Rattle.class_tables.specs.Lowest.{Nowhere}
use Rattle.class_tables.proofs.union_low.Given as goal

abbrev pub invariant-loop-i : goal.invariant-loop-i
invariant-loop-i l = Nowhere (alike_at l.a l.b l.c) l.i
