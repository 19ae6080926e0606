use Rattle.row_reader.specs.Reading.{tables}
use Rattle.row_reader.specs.Plans.{InPlan}
use Rattle.row_reader.proofs.read_rows.Given as goal

abbrev pub invariant-loop-j : goal.invariant-loop-j
invariant-loop-j l =
    InPlan l.plan l.n l.nodes l.rows (tables l.initial.cells l.initial.nulls l.initial.widths l.initial.places) l.r l.at l.j (tables l.cells l.nulls l.widths l.places)
