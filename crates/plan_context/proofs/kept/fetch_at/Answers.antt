use mathlib.Core.Path.{◌∙◌}
use Rattle.plan_context.proofs.kept.fetch_at.Goals as goal

pub returns : goal.returns
returns c = c.fetch_from.ensures ∙ c.summary-s.ensures.fetch
