use mathlib.Core.Bool.{◌||◌}
use mathlib.Core.Path.{ap, ap₂, ◌∙◌}
use Rattle.key_lists.specs.Keys.{keys_of}
use Rattle.asked_facts.specs.Asked.{told}
use Rattle.semantics.specs.Facts as sem
use Rattle.sort_pushdown.proofs.sorts.unnecessary.Goals as goal

pub returns : goal.returns
returns c = let F = told c.args.own.now in
    ap₂ ◌||◌ c.meets.ensures
    (c.compatible.ensures ∙ ap (sem.compatible F (keys_of c.args.parent))
    (c.keys_in.ensures.is ∙ c.known_order.ensures.is))
