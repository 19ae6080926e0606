use mathlib.Core.Path.{ap}
use lib.Dec.{eqb}
use Rattle.asked_facts.proofs.one_stream.Goals as goal

pub returns : goal.returns
returns c = ap (λ n. eqb n 1) c.get16.ensures
