use Rattle.row_writer.specs.Writing.{Nulls}
use Rattle.row_writer.proofs.null_set.Given as goal

abbrev pub invariant-loop-c : goal.invariant-loop-c
invariant-loop-c l = Nulls l.set l.cells l.c l.s
