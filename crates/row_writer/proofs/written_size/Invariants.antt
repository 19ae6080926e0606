use Rattle.row_writer.specs.Sizes.{Sized}
use Rattle.row_writer.proofs.written_size.Given as goal

abbrev pub invariant-loop-row : goal.invariant-loop-row
invariant-loop-row l = Sized l.widths l.places l.order l.n l.row-index l.size
