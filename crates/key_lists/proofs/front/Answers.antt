use native.Mathlib.Omega.{arith}
use Rattle.key_lists.specs.Lists.{take_keys}
use Rattle.key_lists.proofs.front.Goals as goal

pub returns : goal.returns
returns c = record { is = take_keys c.args.n c.args.k.len c.args.k.word c.requires.0; few = omega arith }
