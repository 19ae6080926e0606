use Rattle.row_bytes.specs.Rows.{cell_null, cell_plain}
use Rattle.row_bytes.proofs.cell_fits.Goals as goal

-- src/lib.rt:27:9
pub returns-then-nulls-c-eq1 : goal.returns-then-nulls-c-eq1
returns-then-nulls-c-eq1 c = let a = c.args in cell_null a.s.now a.at a.nulls a.c _ c.if-nulls-c-eq1.true c.all_zero.ensures

-- src/lib.rt:20:1
pub returns : goal.returns
returns c = let a = c.args in cell_plain a.s.now a.at a.nulls a.c c.if-nulls-c-eq1.false
