use native.Mathlib.Omega.{arith}
use Prim.Native.Nat.{ℕ}
use Rattle.step_tables.specs.Places.{on_place}
use Rattle.step_tables.specs.Rows.{row_in}
use Rattle.row_writer.specs.Streams.{streamed_none, streamed_length, streamed_room, streamed_more, streamed_all}
use Rattle.row_writer.proofs.put_streams.Goals as goal

pub loop-k-init : goal.loop-k-init
loop-k-init c = streamed_none (let a = c.args in λ (k : ℕ). on_place (row_in a.cells.now a.nulls.now a.widths.now) a.places.now k a.order.now) c.args.n c.args.out.now

pub put_stream-at-requires : goal.put_stream-at-requires
put_stream-at-requires c = (c.requires.0, c.requires.1, streamed_room (let a = c.args in λ (k : ℕ). on_place (row_in a.cells.now a.nulls.now a.widths.now) a.places.now k a.order.now) c.args.n c.requires.2 c.loop-k.invariant (omega arith))

pub loop-k-preserved : goal.loop-k-preserved
loop-k-preserved c = let e = c.put_stream-at.ensures in
    streamed_more (let a = c.args in λ (k : ℕ). on_place (row_in a.cells.now a.nulls.now a.widths.now) a.places.now k a.order.now) c.args.n c.requires.2 c.loop-k.invariant (omega arith) e.0 e.1

pub shape_of-out : goal.shape_of-out
shape_of-out c = streamed_length (let a = c.args in λ (k : ℕ). on_place (row_in a.cells.now a.nulls.now a.widths.now) a.places.now k a.order.now) c.args.n c.requires.2 c.loop-k.invariant

pub returns : goal.returns
returns c = streamed_all (let a = c.args in λ (k : ℕ). on_place (row_in a.cells.now a.nulls.now a.widths.now) a.places.now k a.order.now) c.args.n c.requires.2 c.loop-k.invariant (omega arith)
