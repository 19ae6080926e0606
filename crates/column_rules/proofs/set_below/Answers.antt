use Rattle.column_rules.specs.Laws.{wide_set}
use Rattle.column_rules.proofs.set_below.Goals as goal

pub returns-then-limit-ge32 : goal.returns-then-limit-ge32
returns-then-limit-ge32 c = wide_set c.args.x c.args.limit c.ranges.x.fits c.if-limit-ge32.true
