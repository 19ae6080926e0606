use native.Mathlib.Omega.{arith}
use Prim.Native.Nat.{◌+◌, ◌-◌, ◌<◌, ◌≤◌}
use mathlib.Core.Path.{◌≡◌, refl}
use mathlib.Core.List.{map}
use Rattle.row_order.specs.Packed.{key_of}
use Rattle.stepping.specs.Answers.{in_order}
use Rattle.row_bytes.specs.Streams.{fit_here, fit_next, test_fail, test_more, test_end}
use Rattle.std.proofs.Common.{ap}
use Rattle.std.specs.Prelude.{not}
use Rattle.row_bytes.proofs.source_in_order.Goals as goal

pub loop-init : goal.loop-init
loop-init c = let z : c.args.k - 0 ≡ c.args.k = omega arith in rw z (c.requires.1, refl)

pub in_order-requires : goal.in_order-requires
in_order-requires c = let t : 0 < c.args.k - c.loop.counter = omega arith in (omega arith, fit_here _ _ _ _ t c.loop.invariant.0)

pub returns-then-not-in_order : goal.returns-then-not-in_order
returns-then-not-in_order c = let t : 0 < c.args.k - c.loop.counter = omega arith in test_fail c.args.s.now c.loop.a c.args.w (c.args.k - c.loop.counter) (in_order (map key_of c.args.keys.now)) _ _ t c.in_order.ensures (ap not c.if-not-in_order.true) c.loop.invariant.1

pub stream_end-a-requires : goal.stream_end-a-requires
stream_end-a-requires c = let t : 0 < c.args.k - c.loop.counter = omega arith in (omega arith, fit_here _ _ _ _ t c.loop.invariant.0)

pub loop-preserved : goal.loop-preserved
loop-preserved c = let t : 0 < c.args.k - c.loop.counter = omega arith in let z : c.args.k - (c.loop.counter + 1) ≡ c.args.k - c.loop.counter - 1 = omega arith in rw z (fit_next _ _ _ _ _ t c.loop.invariant.0 c.stream_end-a.ensures, test_more c.args.s.now c.loop.a c.args.w (c.args.k - c.loop.counter) (in_order (map key_of c.args.keys.now)) _ _ _ t c.in_order.ensures (ap not c.if-not-in_order.false) c.stream_end-a.ensures c.loop.invariant.1)

pub returns : goal.returns
returns c = let t : c.args.k - c.loop.counter ≤ 0 = omega arith in test_end c.args.s.now c.loop.a c.args.w (c.args.k - c.loop.counter) (in_order (map key_of c.args.keys.now)) _ t c.loop.invariant.1
