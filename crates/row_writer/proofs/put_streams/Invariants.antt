use Rattle.step_tables.specs.Places.{on_place}
use Rattle.step_tables.specs.Rows.{row_in}
use Rattle.row_writer.specs.Streams.{Streamed}
use Rattle.row_writer.proofs.put_streams.Given as goal

abbrev pub invariant-loop-k : goal.invariant-loop-k
invariant-loop-k l = Streamed (λ i. on_place (row_in l.cells l.nulls l.widths) l.places i l.order) l.n l.initial.out l.k l.at l.out
