use mathlib.Core.Path.{ap₂}
use mathlib.Core.Bool.{◌&&◌}
use Rattle.asked_facts.proofs.counts.Goals as goal

pub returns : goal.returns
returns c = ap₂ (λ x y. c.args.preserve && (x && y)) c.is_ordered.ensures c.several_streams.ensures
