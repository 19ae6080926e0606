use native.Mathlib.Omega.{arith}
use Prim.Native.Nat.{◌≤◌}
use mathlib.Core.Path.{refl}
use lib.ListN.{get_or}
use Rattle.row_bytes.specs.Rows.{streams_fail, streams_more, streams_end_lem, stream_inside}
use Rattle.std.proofs.Common.{ap}
use Rattle.std.specs.Prelude.{not}
use Rattle.row_bytes.proofs.streams_fit.Goals as goal

-- src/lib.rt:85:5
pub loop-j-init : goal.loop-j-init
loop-j-init c = (omega arith, refl)

-- src/lib.rt:87:13
pub stream_fits-requires : goal.stream_fits-requires
stream_fits-requires c = (c.requires c.loop-j.j (omega arith), omega arith)

-- src/lib.rt:88:13
pub returns-then-not-stream_fits : goal.returns-then-not-stream_fits
returns-then-not-stream_fits c = let a = c.args in streams_fail a.s.now a.widths.now c.loop-j.at c.loop-j.j _ (omega arith) c.loop-j.invariant.1 c.stream_fits.ensures (ap not c.if-not-stream_fits.true)

-- src/lib.rt:90:17
pub get32-n-requires : goal.get32-n-requires
get32-n-requires c = let a = c.args in (stream_inside a.s.now c.loop-j.at (get_or a.widths.now c.loop-j.j 0) _ _ c.stream_fits.ensures (ap not c.if-not-stream_fits.false) refl).0

-- src/lib.rt:91:14
pub overflow_add-at : goal.overflow_add-at
overflow_add-at c = let a = c.args in let w = get_or a.widths.now c.loop-j.j 0 in let i = stream_inside a.s.now c.loop-j.at (get_or a.widths.now c.loop-j.j 0) c.get32-n.result _ c.stream_fits.ensures (ap not c.if-not-stream_fits.false) c.get32-n.ensures in let l : get_or a.widths.now c.loop-j.j 0 ≤ 32 = c.requires c.loop-j.j (omega arith) in omega (arith, i.0, i.1)

-- src/lib.rt:91:32
pub overflow_mul-at : goal.overflow_mul-at
overflow_mul-at c = let a = c.args in let w = get_or a.widths.now c.loop-j.j 0 in let i = stream_inside a.s.now c.loop-j.at (get_or a.widths.now c.loop-j.j 0) c.get32-n.result _ c.stream_fits.ensures (ap not c.if-not-stream_fits.false) c.get32-n.ensures in let l : get_or a.widths.now c.loop-j.j 0 ≤ 32 = c.requires c.loop-j.j (omega arith) in omega (arith, i.0, i.1)

-- src/lib.rt:91:28
pub overflow_add-at-in-loop-j : goal.overflow_add-at-in-loop-j
overflow_add-at-in-loop-j c = let a = c.args in let w = get_or a.widths.now c.loop-j.j 0 in let i = stream_inside a.s.now c.loop-j.at (get_or a.widths.now c.loop-j.j 0) c.get32-n.result _ c.stream_fits.ensures (ap not c.if-not-stream_fits.false) c.get32-n.ensures in let l : get_or a.widths.now c.loop-j.j 0 ≤ 32 = c.requires c.loop-j.j (omega arith) in omega (arith, i.0, i.1)

-- src/lib.rt:91:23
pub overflow_mul-at-in-loop-j : goal.overflow_mul-at-in-loop-j
overflow_mul-at-in-loop-j c = let a = c.args in let w = get_or a.widths.now c.loop-j.j 0 in let i = stream_inside a.s.now c.loop-j.at (get_or a.widths.now c.loop-j.j 0) c.get32-n.result _ c.stream_fits.ensures (ap not c.if-not-stream_fits.false) c.get32-n.ensures in let l : get_or a.widths.now c.loop-j.j 0 ≤ 32 = c.requires c.loop-j.j (omega arith) in omega (arith, i.0, i.1)

-- src/lib.rt:91:14
pub overflow_add-at-in-loop-j-2 : goal.overflow_add-at-in-loop-j-2
overflow_add-at-in-loop-j-2 c = let a = c.args in let w = get_or a.widths.now c.loop-j.j 0 in let i = stream_inside a.s.now c.loop-j.at (get_or a.widths.now c.loop-j.j 0) c.get32-n.result _ c.stream_fits.ensures (ap not c.if-not-stream_fits.false) c.get32-n.ensures in let l : get_or a.widths.now c.loop-j.j 0 ≤ 32 = c.requires c.loop-j.j (omega arith) in omega (arith, i.0, i.1)

-- src/lib.rt:85:5
pub loop-j-preserved : goal.loop-j-preserved
loop-j-preserved c = let a = c.args in let w = get_or a.widths.now c.loop-j.j 0 in let i = stream_inside a.s.now c.loop-j.at (get_or a.widths.now c.loop-j.j 0) c.get32-n.result _ c.stream_fits.ensures (ap not c.if-not-stream_fits.false) c.get32-n.ensures in let l : get_or a.widths.now c.loop-j.j 0 ≤ 32 = c.requires c.loop-j.j (omega arith) in (omega (arith, i.1), streams_more a.s.now a.widths.now c.loop-j.at c.loop-j.j c.get32-n.result _ (omega arith) c.loop-j.invariant.1 c.stream_fits.ensures (ap not c.if-not-stream_fits.false) c.get32-n.ensures)

-- src/lib.rt:79:1
pub returns : goal.returns
returns c = let a = c.args in streams_end_lem a.s.now a.widths.now c.loop-j.at c.loop-j.j (omega arith) c.loop-j.invariant.1
