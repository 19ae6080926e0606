use Rattle.row_writer.specs.Streams.{Counted}
use Rattle.row_writer.proofs.count_at.Given as goal

abbrev pub invariant-loop-row : goal.invariant-loop-row
invariant-loop-row l = Counted l.places l.k l.order l.row-index l.count
