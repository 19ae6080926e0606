use native.Mathlib.Omega.{arith}
use Prim.Native.Nat.{◌+◌, ◌-◌, ◌<◌, ◌≤◌}
use mathlib.Core.Path.{◌≡◌, refl}
use Rattle.plan.specs.WellFormed.{every}
use Rattle.stepping.specs.RowBytes.{row_at}
use Rattle.row_bytes.specs.Streams.{fit_here, fit_next, test_fail, test_more, test_end}
use Rattle.row_bytes.specs.Constants.{agrees}
use Rattle.std.proofs.Common.{ap}
use Rattle.std.specs.Prelude.{not}
use Rattle.row_bytes.proofs.source_agrees.Goals as goal

pub loop-init : goal.loop-init
loop-init c = let z : c.args.k - 0 ≡ c.args.k = omega arith in rw z (c.requires.3, refl)

pub stream_agrees-requires : goal.stream_agrees-requires
stream_agrees-requires c = let t : 0 < c.args.k - c.loop.counter = omega arith in (omega arith, omega arith, omega arith, fit_here _ _ _ _ t c.loop.invariant.0)

pub returns-then-not-stream_agrees : goal.returns-then-not-stream_agrees
returns-then-not-stream_agrees c = let t : 0 < c.args.k - c.loop.counter = omega arith in let a = c.args in test_fail a.s.now c.loop.a a.w (c.args.k - c.loop.counter) (every (agrees (row_at a.s.now a.first a.w) a.c)) _ _ t c.stream_agrees.ensures (ap not c.if-not-stream_agrees.true) c.loop.invariant.1

pub stream_end-a-requires : goal.stream_end-a-requires
stream_end-a-requires c = let t : 0 < c.args.k - c.loop.counter = omega arith in (omega arith, fit_here _ _ _ _ t c.loop.invariant.0)

pub loop-preserved : goal.loop-preserved
loop-preserved c = let t : 0 < c.args.k - c.loop.counter = omega arith in let z : c.args.k - (c.loop.counter + 1) ≡ c.args.k - c.loop.counter - 1 = omega arith in rw z (let a = c.args in (fit_next _ _ _ _ _ t c.loop.invariant.0 c.stream_end-a.ensures, test_more a.s.now c.loop.a a.w (c.args.k - c.loop.counter) (every (agrees (row_at a.s.now a.first a.w) a.c)) _ _ _ t c.stream_agrees.ensures (ap not c.if-not-stream_agrees.false) c.stream_end-a.ensures c.loop.invariant.1))

pub returns : goal.returns
returns c = let t : c.args.k - c.loop.counter ≤ 0 = omega arith in let a = c.args in test_end a.s.now c.loop.a a.w (c.args.k - c.loop.counter) (every (agrees (row_at a.s.now a.first a.w) a.c)) _ t c.loop.invariant.1
