use native.Mathlib.Omega.{arith}
use Prim.Native.Nat.{◌+◌, ◌*◌, ◌-◌, ◌<◌, ◌≤◌}
use mathlib.Core.Path.{◌≡◌, refl, sym, ◌∙◌}
use Rattle.row_bytes.specs.Rows.{row_inside}
use Rattle.row_bytes.specs.Streams.{stream_in, stream_room, fit_here, fit_next}
use Rattle.row_bytes.specs.Constants.{one_here, one_next, one_end}
use Rattle.row_bytes.proofs.one_cell.Goals as goal

pub loop-j-init : goal.loop-j-init
loop-j-init c = let z : c.args.k - 0 ≡ c.args.k = omega arith in rw z (c.requires.2, refl)

pub get32-requires : goal.get32-requires
get32-requires c = let t : 0 < c.args.k - c.loop-j.j = omega arith in (stream_in c.args.s.now c.loop-j.a c.args.w (fit_here _ _ c.args.w _ t c.loop-j.invariant.0)).0

pub overflow_add-a : goal.overflow_add-a
overflow_add-a c = let t : 0 < c.args.k - c.loop-j.j = omega arith in let r = stream_in c.args.s.now c.loop-j.a c.args.w (fit_here _ _ c.args.w _ t c.loop-j.invariant.0) in omega (arith, r.0)

pub source_agrees-requires : goal.source_agrees-requires
source_agrees-requires c = let t : 0 < c.args.k - c.loop-j.j = omega arith in let r = stream_room c.args.s.now c.loop-j.a c.args.w c.get32.result (fit_here _ _ c.args.w _ t c.loop-j.invariant.0) c.get32.ensures in (omega arith, omega arith, omega (arith, r.1, row_inside 0 c.get32.result (4 + 8 * c.args.w) c.if-get32-gt0.true), c.loop-j.invariant.0)

pub returns-then-get32-gt0 : goal.returns-then-get32-gt0
returns-then-get32-gt0 c = let t : 0 < c.args.k - c.loop-j.j = omega arith in c.source_agrees.ensures ∙ sym (one_here _ _ _ _ _ t c.get32.result c.get32.ensures c.if-get32-gt0.true) ∙ c.loop-j.invariant.1

pub stream_end-a-requires : goal.stream_end-a-requires
stream_end-a-requires c = let t : 0 < c.args.k - c.loop-j.j = omega arith in (omega arith, fit_here _ _ _ _ t c.loop-j.invariant.0)

pub loop-j-preserved : goal.loop-j-preserved
loop-j-preserved c = let t : 0 < c.args.k - c.loop-j.j = omega arith in let z : c.args.k - (c.loop-j.j + 1) ≡ c.args.k - c.loop-j.j - 1 = omega arith in rw z (fit_next _ _ _ _ _ t c.loop-j.invariant.0 c.stream_end-a.ensures, one_next _ _ _ _ _ t c.get32.result _ _ c.get32.ensures c.if-get32-gt0.false c.stream_end-a.ensures c.loop-j.invariant.1)

pub returns : goal.returns
returns c = let t : c.args.k - c.loop-j.j ≤ 0 = omega arith in one_end _ _ _ _ _ _ t c.loop-j.invariant.1
