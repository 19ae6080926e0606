use native.Mathlib.Omega.{arith}
use Prim.Native.Nat.{◌+◌, ◌-◌, ◌<◌, ◌≤◌}
use mathlib.Core.Path.{◌≡◌, refl, sym, subst}
use lib.ListN.{length}
use Rattle.row_bytes.specs.Streams.{stream_in, flag_true, fit_fail, fit_more, fit_end}
use Rattle.std.proofs.Common.{ap}
use Rattle.std.specs.Prelude.{not}
use Rattle.row_bytes.proofs.source_fits.Goals as goal

pub loop-init : goal.loop-init
loop-init c = let z : c.args.k - 0 ≡ c.args.k = omega arith in rw z (omega arith, refl)

pub stream_fits-requires : goal.stream_fits-requires
stream_fits-requires c = (omega arith, omega arith)

pub returns-then-not-stream_fits : goal.returns-then-not-stream_fits
returns-then-not-stream_fits c = let t : 0 < c.args.k - c.loop.counter = omega arith in fit_fail _ _ _ _ _ _ t c.stream_fits.ensures (ap not c.if-not-stream_fits.true) c.loop.invariant.1

pub stream_end-a-requires : goal.stream_end-a-requires
stream_end-a-requires c = (omega arith, flag_true _ _ c.stream_fits.ensures (ap not c.if-not-stream_fits.false))

pub loop-preserved : goal.loop-preserved
loop-preserved c = let t : 0 < c.args.k - c.loop.counter = omega arith in let z : c.args.k - (c.loop.counter + 1) ≡ c.args.k - c.loop.counter - 1 = omega arith in rw z (subst (λ e. e ≤ length c.args.s.now) (sym c.stream_end-a.ensures) (stream_in c.args.s.now c.loop.a c.args.w (flag_true _ _ c.stream_fits.ensures (ap not c.if-not-stream_fits.false))).1, fit_more _ _ _ _ _ _ _ t c.stream_fits.ensures (ap not c.if-not-stream_fits.false) c.stream_end-a.ensures c.loop.invariant.1)

pub returns : goal.returns
returns c = let t : c.args.k - c.loop.counter ≤ 0 = omega arith in fit_end _ _ _ _ _ t c.loop.invariant.1
