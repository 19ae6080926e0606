use mathlib.Core.Path.{ap₂}
use mathlib.Core.Bool.{◌||◌}
use Rattle.asked_facts.proofs.keeps_order.Goals as goal

pub returns : goal.returns
returns c = ap₂ (λ x y. x || y) c.one_stream.ensures c.counts.ensures
