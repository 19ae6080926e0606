use native.Mathlib.Omega.{arith}
use Prim.Native.Nat.{◌+◌, ◌<◌}
use mathlib.Core.Path.{refl}
use Rattle.scan.specs.Bytes.{le32}
use Rattle.row_reader.specs.Reading.{tables, AsLong, space_for}
use Rattle.row_reader.specs.Streams.{source_start, stream_here, rows_left, source_more, source_all}
use Rattle.row_reader.proofs.read_source.Goals as goal

pub loop-j-init : goal.loop-j-init
loop-j-init c = let a = c.args in let T = tables a.cells.now a.nulls.now a.widths.now a.places.now in
    source_start a.rows.now a.at a.w a.k a.out a.r T c.requires.2

pub read_stream-q-requires : goal.read_stream-q-requires
read_stream-q-requires c = let a = c.args in let l = c.loop-j in
    let h : l.j < a.k = omega arith in
    let T = tables a.cells.now a.nulls.now a.widths.now a.places.now in (
      c.requires.0,
      stream_here a.rows.now a.at a.w a.k a.out a.r T l.invariant h,
      space_for (l.q + le32 a.rows.now l.a) c.requires.3 l.invariant.long
          (rows_left a.rows.now a.at a.w a.k a.out a.r T l.invariant (le32 a.rows.now l.a) h refl),
    )

pub stream_end-a-requires : goal.stream_end-a-requires
stream_end-a-requires c = let a = c.args in
    let T = tables a.cells.now a.nulls.now a.widths.now a.places.now in (
      c.requires.0,
      stream_here a.rows.now a.at a.w a.k a.out a.r T c.loop-j.invariant
          (omega arith),
    )

pub loop-j-preserved : goal.loop-j-preserved
loop-j-preserved c = let a = c.args in let l = c.loop-j in
    let z = c.read_stream-q.new in let k = c.read_stream-q.auto in
    let T = tables a.cells.now a.nulls.now a.widths.now a.places.now in
    let U = tables l.cells l.nulls l.widths l.places in
    let S = tables z.cells z.nulls z.widths z.places in
    let long : AsLong S U = record { numbers = k.cells; sets = k.nulls; widths_there = k.widths; places_there = k.places } in
    source_more a.rows.now a.at a.w a.k a.out a.r T l.invariant {S = S} c.read_stream-q.result c.stream_end-a.result
    (omega arith) c.stream_end-a.ensures c.read_stream-q.ensures.0 c.read_stream-q.ensures.1 long

pub shape_of-cells : goal.shape_of-cells
shape_of-cells c = c.loop-j.invariant.long.numbers

pub shape_of-nulls : goal.shape_of-nulls
shape_of-nulls c = c.loop-j.invariant.long.sets

pub shape_of-widths : goal.shape_of-widths
shape_of-widths c = c.loop-j.invariant.long.widths_there

pub shape_of-places : goal.shape_of-places
shape_of-places c = c.loop-j.invariant.long.places_there

pub returns : goal.returns
returns c = let a = c.args in let l = c.loop-j in
    let T = tables a.cells.now a.nulls.now a.widths.now a.places.now in
    source_all a.rows.now a.at a.w a.k a.out a.r T l.invariant (omega arith)
