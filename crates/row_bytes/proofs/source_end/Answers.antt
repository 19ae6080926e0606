use native.Mathlib.Omega.{arith}
use Prim.Native.Nat.{◌+◌, ◌-◌, ◌<◌, ◌≤◌}
use mathlib.Core.Path.{◌≡◌, refl}
use Rattle.row_bytes.specs.Streams.{fit_here, fit_next, end_more, end_end}
use Rattle.row_bytes.proofs.source_end.Goals as goal

pub loop-init : goal.loop-init
loop-init c = let z : c.args.k - 0 ≡ c.args.k = omega arith in rw z (c.requires.1, refl)

pub stream_end-a-requires : goal.stream_end-a-requires
stream_end-a-requires c = let t : 0 < c.args.k - c.loop.counter = omega arith in (omega arith, fit_here _ _ _ _ t c.loop.invariant.0)

pub loop-preserved : goal.loop-preserved
loop-preserved c = let t : 0 < c.args.k - c.loop.counter = omega arith in let z : c.args.k - (c.loop.counter + 1) ≡ c.args.k - c.loop.counter - 1 = omega arith in rw z (fit_next _ _ _ _ _ t c.loop.invariant.0 c.stream_end-a.ensures, end_more _ _ _ _ _ _ t c.stream_end-a.ensures c.loop.invariant.1)

pub returns : goal.returns
returns c = let t : c.args.k - c.loop.counter ≤ 0 = omega arith in end_end _ _ _ _ _ t c.loop.invariant.1
