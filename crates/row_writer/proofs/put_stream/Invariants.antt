use Prim.Native.Nat.{◌+◌}
use Rattle.step_tables.specs.Rows.{row_in}
use Rattle.row_writer.specs.Streams.{Rowed}
use Rattle.row_writer.proofs.put_stream.Given as goal

abbrev pub invariant-loop-r : goal.invariant-loop-r
invariant-loop-r l = Rowed (row_in l.cells l.nulls l.widths) l.places l.k l.order l.initial.out (l.at + 4) l.r-index l.to l.out
