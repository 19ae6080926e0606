use Rattle.row_writer.specs.Rows.{Cells}
use Rattle.row_writer.proofs.put_row.Given as goal

abbrev pub invariant-loop-c : goal.invariant-loop-c
invariant-loop-c l = Cells l.set l.cells l.c l.d
