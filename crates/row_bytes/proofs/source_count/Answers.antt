use native.Mathlib.Omega.{arith}
use Prim.Native.Nat.{◌+◌, ◌-◌, ◌<◌, ◌≤◌}
use mathlib.Core.Path.{◌≡◌, sym, ◌∙◌}
use Rattle.row_bytes.specs.Rows.{more_bytes}
use Rattle.row_bytes.specs.Streams.{stream_in, stream_room, end_is, fit_here, fit_next, count_more, count_end}
use Rattle.row_bytes.proofs.source_count.Goals as goal

pub loop-init : goal.loop-init
loop-init c = let z : c.args.k - 0 ≡ c.args.k = omega arith in rw z (omega arith, c.requires.1, omega arith)

pub get32-requires : goal.get32-requires
get32-requires c = let t : 0 < c.args.k - c.loop.counter = omega arith in (stream_in c.args.s.now c.loop.a c.args.w (fit_here _ _ c.args.w _ t c.loop.invariant.1)).0

pub overflow_add-rows : goal.overflow_add-rows
overflow_add-rows c = let t : 0 < c.args.k - c.loop.counter = omega arith in let i = stream_room c.args.s.now c.loop.a c.args.w c.get32.result (fit_here _ _ c.args.w _ t c.loop.invariant.1) c.get32.ensures in omega (arith, i.1, more_bytes c.get32.result c.args.w)

pub stream_end-a-requires : goal.stream_end-a-requires
stream_end-a-requires c = let t : 0 < c.args.k - c.loop.counter = omega arith in (omega arith, fit_here _ _ _ _ t c.loop.invariant.1)

pub loop-preserved : goal.loop-preserved
loop-preserved c = let t : 0 < c.args.k - c.loop.counter = omega arith in let z : c.args.k - (c.loop.counter + 1) ≡ c.args.k - c.loop.counter - 1 = omega arith in rw z (let e = c.stream_end-a.ensures ∙ sym (end_is c.args.s.now c.loop.a c.args.w c.get32.result c.get32.ensures) in (omega (arith, e, more_bytes c.get32.result c.args.w), fit_next _ _ _ _ _ t c.loop.invariant.1 c.stream_end-a.ensures, count_more _ _ _ _ _ _ _ _ t c.get32.ensures c.stream_end-a.ensures c.loop.invariant.2))

pub returns : goal.returns
returns c = let t : c.args.k - c.loop.counter ≤ 0 = omega arith in count_end _ _ _ _ _ _ t c.loop.invariant.2
