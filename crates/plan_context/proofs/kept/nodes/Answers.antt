use mathlib.Core.Path.{ap, ◌∙◌}
use Rattle.scan.specs.Bytes.{le16}
use Rattle.plan_context.proofs.kept.nodes.Goals as goal

pub returns : goal.returns
returns c = c.get16.ensures ∙ ap (λ b. le16 b 106) c.row-b.ensures.0 ∙ c.requires.holds.summary.nodes
