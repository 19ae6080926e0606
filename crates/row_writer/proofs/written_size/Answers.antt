use native.Mathlib.Omega.{arith}
use Rattle.row_writer.specs.Sizes.{sized_none, sized_here, sized_past, sized_all}
use Rattle.row_writer.proofs.written_size.Goals as goal
use Rattle.row_writer.proofs.written_size.Goals.{else-places-row, then-places-row}

pub loop-row-init : goal.loop-row-init
loop-row-init c = let a = c.args in sized_none a.widths.now a.places.now a.order.now a.n

pub offset_bounds-places-row : goal.offset_bounds-places-row
offset_bounds-places-row c = let h = c.requires.0 c.loop-row.row-index (omega arith) in omega arith

pub bounds-places-row : goal.bounds-places-row
bounds-places-row c = c.requires.0 c.loop-row.row-index (omega arith)

pub offset_bounds-widths-row : goal.offset_bounds-widths-row
offset_bounds-widths-row c = let h = c.requires.0 c.loop-row.row-index (omega arith) in omega arith

pub bounds-widths-row : goal.bounds-widths-row
bounds-widths-row c = let h = c.requires.0 c.loop-row.row-index (omega arith) in omega arith

pub overflow_mul-size-then-places-row : goal.overflow_mul-size-then-places-row
overflow_mul-size-then-places-row c = let h = c.requires.1 _ (c.requires.0 c.loop-row.row-index (omega arith)) in omega arith

pub overflow_add-size : goal.overflow_add-size
overflow_add-size c = let h = c.requires.1 _ (c.requires.0 c.loop-row.row-index (omega arith)) in omega arith

pub overflow_add-size-then-places-row : goal.overflow_add-size-then-places-row
overflow_add-size-then-places-row c = let h = c.requires.1 _ (c.requires.0 c.loop-row.row-index (omega arith)) in omega arith

pub loop-row-preserved : goal.loop-row-preserved
loop-row-preserved c = let a = c.args in let l = c.loop-row in
    elim c.if-places-row.branch [
      | then-places-row w ↦
          sized_here a.widths.now a.places.now a.order.now a.n (omega arith) l.invariant c.requires.0
          (c.requires.1 _ (c.requires.0 l.row-index (omega arith))) w.if-places-row.true w.size-is
      | else-places-row w ↦ sized_past a.widths.now a.places.now a.order.now a.n (omega arith) l.invariant w.if-places-row.false w.size-is
    ]

pub returns : goal.returns
returns c = let a = c.args in
    sized_all a.widths.now a.places.now a.order.now a.n (omega arith) c.loop-row.invariant
