use Rattle.row_bytes.specs.Constants.{constant_in, constant_out}
use Rattle.row_bytes.proofs.constant_fits.Goals as goal

pub returns-then-has : goal.returns-then-has
returns-then-has c = let a = c.args in constant_in a.set a.s.now a.at a.w a.k a.c _ c.has.ensures _ c.if-has.true c.one_cell.ensures

pub returns : goal.returns
returns c = let a = c.args in constant_out a.set a.s.now a.at a.w a.k a.c _ c.has.ensures c.if-has.false
