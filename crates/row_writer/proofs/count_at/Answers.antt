use native.Mathlib.Omega.{arith}
use Rattle.row_writer.specs.Streams.{counted_none, counted_here, counted_past, counted_all}
use Rattle.row_writer.proofs.count_at.Goals as goal
use Rattle.row_writer.proofs.count_at.Goals.{else-places-row, then-places-row}

pub loop-row-init : goal.loop-row-init
loop-row-init c = let a = c.args in counted_none a.places.now a.k a.order.now

pub offset_bounds-places-row : goal.offset_bounds-places-row
offset_bounds-places-row c = let h = c.requires c.loop-row.row-index (omega arith) in omega arith

pub bounds-places-row : goal.bounds-places-row
bounds-places-row c = c.requires c.loop-row.row-index (omega arith)

pub loop-row-preserved : goal.loop-row-preserved
loop-row-preserved c = let a = c.args in let l = c.loop-row in
    elim c.if-places-row.branch [
      | then-places-row w ↦ counted_here a.places.now a.k a.order.now l.invariant (omega arith) w.if-places-row.true w.count-is
      | else-places-row w ↦ counted_past a.places.now a.k a.order.now l.invariant (omega arith) w.if-places-row.false w.count-is
    ]

pub returns : goal.returns
returns c = let a = c.args in counted_all a.places.now a.k a.order.now (omega arith) c.loop-row.invariant
