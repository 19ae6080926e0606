use native.Mathlib.Omega.{arith}
use Prim.Native.Nat.{◌+◌, ◌*◌}
use Rattle.scan.specs.Below.{all_none}
use Rattle.row_bytes.specs.Rows.{few_bytes, row_inside, stream_short, stream_cut, stream_row, stream_end_lem, row_more}
use Rattle.std.proofs.Common.{ap}
use Rattle.std.specs.Prelude.{not}
use Rattle.row_bytes.proofs.stream_fits.Goals as goal

-- src/lib.rt:57:9
pub returns-then-s-at-lt4 : goal.returns-then-s-at-lt4
returns-then-s-at-lt4 c = let a = c.args in stream_short a.s.now a.at a.w (omega arith) (omega arith)

-- src/lib.rt:61:24
pub overflow_mul-end : goal.overflow_mul-end
overflow_mul-end c = let a = c.args in omega (arith, few_bytes c.get32-n.result a.w c.get32-n.type_inv (omega arith))

-- src/lib.rt:61:15
pub overflow_add-end-2 : goal.overflow_add-end-2
overflow_add-end-2 c = let a = c.args in omega (arith, few_bytes c.get32-n.result a.w c.get32-n.type_inv (omega arith))

-- src/lib.rt:63:9
pub returns-then-s-end : goal.returns-then-s-end
returns-then-s-end c = let a = c.args in stream_cut a.s.now a.at a.w c.get32-n.result (omega arith) c.get32-n.ensures (omega arith)

-- src/lib.rt:66:5
pub loop-i-init : goal.loop-i-init
loop-i-init c = (all_none _)

-- src/lib.rt:67:34
pub overflow_mul-i : goal.overflow_mul-i
overflow_mul-i c = let a = c.args in omega (arith, row_inside c.loop-i.i c.get32-n.result (4 + 8 * a.w) (omega arith))

-- src/lib.rt:67:25
pub overflow_add-at-in-loop-i : goal.overflow_add-at-in-loop-i
overflow_add-at-in-loop-i c = let a = c.args in omega (arith, row_inside c.loop-i.i c.get32-n.result (4 + 8 * a.w) (omega arith))

-- src/lib.rt:67:13
pub row_fits-requires : goal.row_fits-requires
row_fits-requires c = let a = c.args in (omega arith, omega (arith, row_inside c.loop-i.i c.get32-n.result (4 + 8 * a.w) (omega arith)))

-- src/lib.rt:68:13
pub returns-then-not-row_fits : goal.returns-then-not-row_fits
returns-then-not-row_fits c = let a = c.args in stream_row a.s.now a.at a.w c.get32-n.result c.loop-i.i _ (omega arith) c.get32-n.ensures (omega arith) (omega arith) c.row_fits.ensures (ap not c.if-not-row_fits.true)

-- src/lib.rt:66:5
pub loop-i-preserved : goal.loop-i-preserved
loop-i-preserved c = let a = c.args in (row_more a.s.now a.at a.w c.loop-i.i _ c.loop-i.invariant c.row_fits.ensures (ap not c.if-not-row_fits.false))

-- src/lib.rt:52:1
pub returns : goal.returns
returns c = let a = c.args in stream_end_lem a.s.now a.at a.w c.get32-n.result c.loop-i.i (omega arith) c.get32-n.ensures (omega arith) (omega arith) (omega arith) c.loop-i.invariant
