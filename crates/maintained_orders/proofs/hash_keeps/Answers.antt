use mathlib.Core.Path.{ap, ◌∙◌}
use Rattle.semantics.specs.Properties.{kept_side}
use Rattle.maintained_orders.proofs.hash_keeps.Goals as goal

pub returns : goal.returns
returns c = c.keeps.ensures ∙ ap (λ k. kept_side k c.args.j) c.hash_kept.ensures
