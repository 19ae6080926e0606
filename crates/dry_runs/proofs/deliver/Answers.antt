use native.Mathlib.Omega.{arith}
use Rattle.dry_runs.specs.Stepped.{too_short, fits}
use lib.ListN.{length}
use Rattle.stepping.specs.RowBytes.{streams_bytes}
use Rattle.step_tables.specs.Rows.{row_in}
use Rattle.row_writer.specs.Streams.{put_out}
use Rattle.dry_runs.proofs.deliver.Goals as goal

pub returns-then-out-size : goal.returns-then-out-size
returns-then-out-size c = let a = c.args in let p = c.requires in let e = c.written_size-size.ensures a.cells.now a.nulls.now p.1 in too_short (length a.out.now) (streams_bytes (put_out (row_in a.cells.now a.nulls.now a.widths.now) a.places.now a.order.now a.s)) a.out.now (omega (arith, e, c.if-out-size.true))

pub put_streams-requires : goal.put_streams-requires
put_streams-requires c = let a = c.args in let p = c.requires in let e = c.written_size-size.ensures a.cells.now a.nulls.now p.1 in (p.0, p.1, omega (arith, e, c.if-out-size.false))

pub returns : goal.returns
returns c = let a = c.args in let p = c.requires in let e = c.written_size-size.ensures a.cells.now a.nulls.now p.1 in fits (length a.out.now) (streams_bytes (put_out (row_in a.cells.now a.nulls.now a.widths.now) a.places.now a.order.now a.s)) a.out.now c.put_streams.new.out (omega (arith, e, c.if-out-size.false)) c.put_streams.ensures
