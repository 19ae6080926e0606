use mathlib.Core.Path.{ap, ◌∙◌}
use Rattle.semantics.specs.Properties.{kept_side}
use Rattle.maintained_orders.proofs.sort_merge_keeps.Goals as goal

pub returns : goal.returns
returns c = c.keeps.ensures ∙ ap (λ k. kept_side k c.args.j) c.sort_merge_kept.ensures
