use Rattle.row_writer.specs.Unsigned.{back_fits, back_cast, back_low, back_is, on_cast, on_is}
use Rattle.row_writer.proofs.unsigned_number.Goals as goal

pub overflow_sub-y : goal.overflow_sub-y
overflow_sub-y c = back_fits c.args.z c.ranges.z c.if-z-lt0.true

pub overflow_cast-result : goal.overflow_cast-result
overflow_cast-result c = back_cast c.args.z c.ranges.z c.if-z-lt0.true

pub overflow_sub-result : goal.overflow_sub-result
overflow_sub-result c = back_low c.args.z c.ranges.z c.if-z-lt0.true

pub returns-then-z-lt0 : goal.returns-then-z-lt0
returns-then-z-lt0 c = back_is c.args.z c.ranges.z c.if-z-lt0.true

pub overflow_cast-result-2 : goal.overflow_cast-result-2
overflow_cast-result-2 c = on_cast c.args.z c.ranges.z c.if-z-lt0.false

pub returns : goal.returns
returns c = on_is c.args.z c.ranges.z c.if-z-lt0.false
