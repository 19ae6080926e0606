use Rattle.column_sets.specs.Bits.{bit_moved, moved_out}
use Rattle.column_sets.proofs.moved_up.Goals as goal

pub returns-then-w-lt32 : goal.returns-then-w-lt32
returns-then-w-lt32 c = bit_moved c.args.set c.args.w

pub returns-else-w-lt32 : goal.returns-else-w-lt32
returns-else-w-lt32 c = λ d. moved_out c.args.set c.args.w d c.if-w-lt32.false
