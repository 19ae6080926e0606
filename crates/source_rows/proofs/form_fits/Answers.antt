use native.Mathlib.Omega.{arith}
use mathlib.Core.Path.{ap}
use Rattle.stepping.specs.RowBytes.{streams_ok}
use Rattle.row_bytes.specs.Streams.{flag_true}
use Rattle.source_rows.specs.Files.{taken, inside}
use Rattle.source_rows.specs.Sources.{widths_start, narrow, form_fails, form_more, form_end, place_inside}
use Rattle.std.specs.Prelude.{not}
use Rattle.source_rows.proofs.form_fits.Goals as goal

pub loop-j-init : goal.loop-j-init
loop-j-init c = let t = taken _ _ c.requires (record { below = λ i g. omega (arith, c.type_inv.plan i) }) in (omega arith, t, ap (streams_ok c.args.rows.now 0) (widths_start _ _ t))

pub streams_of-k-requires : goal.streams_of-k-requires
streams_of-k-requires c = inside _ _ c.loop-j.invariant.1 c.loop-j.j (omega arith)

pub byte_of-w-requires : goal.byte_of-w-requires
byte_of-w-requires c = (inside _ _ c.loop-j.invariant.1 c.loop-j.j (omega arith), omega arith)

pub source_fits-requires : goal.source_fits-requires
source_fits-requires c = let a = c.args in (narrow a.plan.now a.n c.loop-j.invariant.1 a.rows.now c.loop-j.j c.loop-j.at _ _ (omega arith) c.streams_of-k.ensures c.byte_of-w.ensures, c.loop-j.invariant.0)

pub returns-then-not-source_fits : goal.returns-then-not-source_fits
returns-then-not-source_fits c = let a = c.args in form_fails a.plan.now a.n c.loop-j.invariant.1 a.rows.now c.loop-j.j c.loop-j.at _ _ (omega arith) c.streams_of-k.ensures c.byte_of-w.ensures _ _ c.source_fits.ensures (ap not c.if-not-source_fits.true) c.loop-j.invariant.2

pub source_end-at-requires : goal.source_end-at-requires
source_end-at-requires c = let a = c.args in (narrow a.plan.now a.n c.loop-j.invariant.1 a.rows.now c.loop-j.j c.loop-j.at _ _ (omega arith) c.streams_of-k.ensures c.byte_of-w.ensures, flag_true _ _ c.source_fits.ensures (ap not c.if-not-source_fits.false))

pub loop-j-preserved : goal.loop-j-preserved
loop-j-preserved c = let a = c.args in let f = flag_true _ _ c.source_fits.ensures (ap not c.if-not-source_fits.false) in (place_inside a.plan.now a.n c.loop-j.invariant.1 a.rows.now c.loop-j.j c.loop-j.at _ _ (omega arith) c.streams_of-k.ensures c.byte_of-w.ensures _ c.loop-j.invariant.0 f c.source_end-at.ensures, c.loop-j.invariant.1, form_more a.plan.now a.n c.loop-j.invariant.1 a.rows.now c.loop-j.j c.loop-j.at _ _ (omega arith) c.streams_of-k.ensures c.byte_of-w.ensures _ _ f c.source_end-at.ensures c.loop-j.invariant.2)

pub returns : goal.returns
returns c = let a = c.args in form_end a.plan.now a.n a.rows.now c.loop-j.j c.loop-j.at _ (omega arith) c.loop-j.invariant.2
