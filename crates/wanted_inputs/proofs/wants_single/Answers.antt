use mathlib.Core.Path.{ap, ◌∙◌}
use Rattle.semantics.specs.Properties.{is_single}
use Rattle.wanted_inputs.proofs.wants_single.Goals as goal

pub returns : goal.returns
returns c = c.is_single.ensures ∙ ap is_single c.wanted_distribution.ensures
