use native.Mathlib.Omega.{arith}
use Rattle.scan.specs.Below.{all_none}
use Rattle.row_bytes.specs.Rows.{row_set, row_cell, row_end, column_more}
use Rattle.std.proofs.Common.{ap}
use Rattle.std.specs.Prelude.{not}
use Rattle.row_bytes.proofs.row_fits.Goals as goal

-- src/lib.rt:39:9
pub returns-then-not-set_fits : goal.returns-then-not-set_fits
returns-then-not-set_fits c = let a = c.args in row_set a.s.now a.at a.w c.get32-nulls.result _ c.get32-nulls.ensures c.set_fits.ensures (ap not c.if-not-set_fits.true)

-- src/lib.rt:42:5
pub loop-c-init : goal.loop-c-init
loop-c-init c = (all_none _)

-- src/lib.rt:43:13
pub cell_fits-requires : goal.cell_fits-requires
cell_fits-requires c = (omega arith, omega arith)

-- src/lib.rt:44:13
pub returns-then-not-cell_fits : goal.returns-then-not-cell_fits
returns-then-not-cell_fits c = let a = c.args in row_cell a.s.now a.at a.w c.get32-nulls.result c.loop-c.c _ _ c.get32-nulls.ensures c.set_fits.ensures (ap not c.if-not-set_fits.false) (omega arith) c.cell_fits.ensures (ap not c.if-not-cell_fits.true)

-- src/lib.rt:42:5
pub loop-c-preserved : goal.loop-c-preserved
loop-c-preserved c = (column_more _ _ _ c.loop-c.c _ c.loop-c.invariant c.cell_fits.ensures (ap not c.if-not-cell_fits.false))

-- src/lib.rt:33:1
pub returns : goal.returns
returns c = let a = c.args in row_end a.s.now a.at a.w c.get32-nulls.result c.loop-c.c _ c.get32-nulls.ensures c.set_fits.ensures (ap not c.if-not-set_fits.false) (omega arith) (omega arith) c.loop-c.invariant
