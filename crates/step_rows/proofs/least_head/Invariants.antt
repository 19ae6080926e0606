use mathlib.Core.List.{map}
use Rattle.row_order.specs.Packed.{key_of}
use Rattle.step_tables.specs.Rows.{row_in}
use Rattle.step_rows.specs.Heads.{BestFrom}
use Rattle.step_rows.proofs.least_head.Given as goal

abbrev pub invariant-loop-i : goal.invariant-loop-i
invariant-loop-i l =
    BestFrom (map key_of l.keys) (row_in l.cells l.nulls l.widths) l.places l.order l.g l.n l.i l.best.stream l.best.at
