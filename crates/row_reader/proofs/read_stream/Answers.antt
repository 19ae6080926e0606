use native.Mathlib.Omega.{arith}
use Prim.Native.Nat.{◌≤◌, ◌+◌, ◌*◌}
use mathlib.Core.Path.{refl}
use lib.ListN.{length}
use Rattle.row_order.specs.ListLaws.{length-tab}
use Rattle.scan.specs.Bytes.{le32, part}
use Rattle.scan.specs.Words.{value}
use Rattle.stepping.specs.RowBytes.{signed, row_place, numbers_at}
use Rattle.row_bytes.specs.Streams.{stream_room}
use Rattle.row_reader.specs.Reading.{tables, Space, AsLong, as_long, as_long_too, space_for, adds_read}
use Rattle.row_reader.specs.Streams.{row_room, stream_start, stream_more, stream_all}
use Rattle.row_reader.proofs.read_stream.Goals as goal
use Rattle.row_reader.proofs.read_stream.Goals.{In-loop-i}

-- Row i's bytes are there, and room for it
row_in : (c : In-loop-i) → let a = c.args in
    a.at + 4 + c.loop-i.i * (4 + 8 * a.w) + (4 + 8 * a.w) ≤ length a.rows.now
row_in c =
    let a = c.args in let n = c.get32-n in
    row_room a.rows.now a.at a.w n.result c.loop-i.i c.requires.1 n.ensures c.loop-i-test.true

space-in : (c : In-loop-i) → let l = c.loop-i in
    Space (c.args.r + l.i + 1) (tables l.cells l.nulls l.widths l.places)
space-in c =
    let l = c.loop-i in
    space_for (c.args.r + l.i + 1) c.requires.2 l.invariant.0 (omega (arith, c.get32-n.ensures, c.loop-i-test.true))

pub get32-n-requires : goal.get32-n-requires
get32-n-requires c = let a = c.args in
    (stream_room a.rows.now a.at a.w _ c.requires.1 refl).0

pub loop-i-init : goal.loop-i-init
loop-i-init c = let a = c.args in let T = tables a.cells.now a.nulls.now a.widths.now a.places.now in
    (as_long T, stream_start a.rows.now a.at a.w a.g a.r T)

pub overflow_add-b : goal.overflow_add-b
overflow_add-b c = omega (arith, row_in (goal.at.overflow_add-b c).In-loop-i)

pub overflow_mul-b : goal.overflow_mul-b
overflow_mul-b c = omega (arith, row_in (goal.at.overflow_mul-b c).In-loop-i)

pub overflow_add-b-in-loop-i : goal.overflow_add-b-in-loop-i
overflow_add-b-in-loop-i c = omega (arith, row_in (goal.at.overflow_add-b-in-loop-i c).In-loop-i)

pub read_row-requires : goal.read_row-requires
read_row-requires c = (omega arith, omega (arith, row_in (goal.at.read_row-requires c).In-loop-i), space-in (goal.at.read_row-requires c).In-loop-i)

pub loop-i-preserved : goal.loop-i-preserved
loop-i-preserved c = let a = c.args in let l = c.loop-i in
    let z = c.read_row.new in let k = c.read_row.auto in let e = c.read_row.ensures in
    let T = tables l.cells l.nulls l.widths l.places in
    let U = tables z.cells z.nulls z.widths z.places in
    let long : AsLong U T = record { numbers = k.cells; sets = k.nulls; widths_there = k.widths; places_there = k.places } in
    let at = row_place a.at a.w l.i in (
      as_long_too long l.invariant.0,
      stream_more a.rows.now a.at a.w a.g a.r l.i l.invariant.1
          (adds_read {T = T} {U = U} (a.r + l.i) (le32 a.rows.now at) a.w a.g (numbers_at a.rows.now at a.w) (space-in (goal.at.loop-i-preserved c).In-loop-i) long
          (length-tab a.w (λ j. signed (value (part (at + 4 + 8 * j) 8 a.rows.now))))
          (omega (arith, c.requires.0)) e.0 e.1 e.2 e.3),
    )

pub shape_of-cells : goal.shape_of-cells
shape_of-cells c = c.loop-i.invariant.0.numbers

pub shape_of-nulls : goal.shape_of-nulls
shape_of-nulls c = c.loop-i.invariant.0.sets

pub shape_of-widths : goal.shape_of-widths
shape_of-widths c = c.loop-i.invariant.0.widths_there

pub shape_of-places : goal.shape_of-places
shape_of-places c = c.loop-i.invariant.0.places_there

pub returns : goal.returns
returns c = let a = c.args in let l = c.loop-i in let n = c.get32-n in (
  omega (arith, n.ensures),
  stream_all a.rows.now a.at a.w a.g a.r l.i n.result (omega arith) n.ensures l.invariant.1,
)
