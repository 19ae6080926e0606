use native.Mathlib.Omega.{arith}
use mathlib.Core.Path.{◌∙◌}
use lib.ListN.{get_or}
use Rattle.step_tables.specs.Rows.{row_in, inside}
use Rattle.row_writer.specs.Streams.{rowed_length, rowed_past, rowed_here, rowed_room, row_size_lem, count_length, count_first, stream_all}
use Rattle.row_writer.proofs.put_stream.Goals as goal
use Rattle.row_writer.proofs.put_stream.Goals.{else-places-r, then-places-r}

pub count_at-count-requires : goal.count_at-count-requires
count_at-count-requires c = c.requires.0

pub loop-r-init : goal.loop-r-init
loop-r-init c = let a = c.args in
    count_first (row_in a.cells.now a.nulls.now a.widths.now) a.places.now a.k a.order.now a.out.now _ a.at _
    c.requires.2 c.count_at-count.ensures c.put_number.ensures

pub offset_bounds-places-r : goal.offset_bounds-places-r
offset_bounds-places-r c = let h = c.requires.0 c.loop-r.r-index (omega arith) in omega arith

pub bounds-places-r : goal.bounds-places-r
bounds-places-r c = c.requires.0 c.loop-r.r-index (omega arith)

pub put_row_at-to-requires : goal.put_row_at-to-requires
put_row_at-to-requires c = let a = c.args in let l = c.loop-r in let rows = row_in a.cells.now a.nulls.now a.widths.now in let r = get_or a.order.now l.r-index 0 in
    let i = inside r c.requires.1 (c.requires.0 l.r-index (omega arith)) in
    let e = row_size_lem a.cells.now a.nulls.now a.widths.now r i in
    let f = rowed_room rows a.places.now a.k a.order.now l.invariant (omega arith) c.if-places-r.true in
    (i, omega (arith, e, f))

pub loop-r-preserved : goal.loop-r-preserved
loop-r-preserved c = let a = c.args in let l = c.loop-r in let rows = row_in a.cells.now a.nulls.now a.widths.now in
    elim c.if-places-r.branch [
      | then-places-r w ↦ rowed_here rows a.places.now a.k a.order.now l.invariant (omega arith) w.if-places-r.true (w.to-is ∙ w.put_row_at-to.ensures.0) (w.out-is ∙ w.put_row_at-to.ensures.1)
      | else-places-r w ↦ rowed_past rows a.places.now a.k a.order.now l.invariant (omega arith) w.if-places-r.false w.to-is w.out-is
    ]

pub shape_of-out : goal.shape_of-out
shape_of-out c = let a = c.args in let rows = row_in a.cells.now a.nulls.now a.widths.now in
    rowed_length rows a.places.now a.k a.order.now c.loop-r.invariant
    ∙ count_length rows a.places.now a.k a.order.now a.out.now _ a.at _ c.requires.2 c.count_at-count.ensures c.put_number.ensures

pub returns : goal.returns
returns c = let a = c.args in
    stream_all (row_in a.cells.now a.nulls.now a.widths.now) a.places.now a.k a.order.now a.out.now _ a.at _
    c.requires.2 c.count_at-count.ensures c.put_number.ensures (omega arith) c.loop-r.invariant
