use Prim.Native.Nat.{◌+◌}
use Rattle.row_reader.specs.Reading.{tables, AsLong, Adds}
use Rattle.row_reader.specs.Streams.{first_rows}
use Rattle.row_reader.proofs.read_stream.Given as goal

abbrev pub invariant-loop-i : goal.invariant-loop-i
invariant-loop-i l =
    AsLong (tables l.cells l.nulls l.widths l.places) (tables l.initial.cells l.initial.nulls l.initial.widths l.initial.places)
    × Adds (first_rows l.rows l.at l.w l.g l.i) l.r (l.r + l.i) (tables l.initial.cells l.initial.nulls l.initial.widths l.initial.places) (tables l.cells l.nulls l.widths l.places)
