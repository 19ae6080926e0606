use Rattle.row_reader.specs.Reading.{tables}
use Rattle.row_reader.specs.Streams.{InSource}
use Rattle.row_reader.proofs.read_source.Given as goal

abbrev pub invariant-loop-j : goal.invariant-loop-j
invariant-loop-j l =
    InSource l.rows l.at l.w l.k l.out l.r (tables l.initial.cells l.initial.nulls l.initial.widths l.initial.places) l.q l.a l.j (tables l.cells l.nulls l.widths l.places)
