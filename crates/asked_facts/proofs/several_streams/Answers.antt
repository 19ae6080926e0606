use mathlib.Core.Path.{ap}
use lib.Dec.{ltb}
use Rattle.asked_facts.proofs.several_streams.Goals as goal

pub returns : goal.returns
returns c = ap (λ n. ltb 1 n) c.get16.ensures
