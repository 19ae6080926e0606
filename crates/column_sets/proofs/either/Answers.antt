use Rattle.column_sets.specs.Bits.{bit-bit_or}
use Rattle.column_sets.proofs.either.Goals as goal

pub returns : goal.returns
returns c = bit-bit_or c.args.a c.args.b
