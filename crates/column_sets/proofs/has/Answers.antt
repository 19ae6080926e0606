use mathlib.Core.Path.{sym}
use Rattle.column_sets.specs.Bits.{masked, past}
use Rattle.column_sets.proofs.has.Goals as goal

pub returns-then-c-lt32 : goal.returns-then-c-lt32
returns-then-c-lt32 c = masked c.args.set c.args.c

pub returns-else-c-lt32 : goal.returns-else-c-lt32
returns-else-c-lt32 c = sym (past c.args.set c.args.c 32 c.ranges.set.fits c.if-c-lt32.false)
