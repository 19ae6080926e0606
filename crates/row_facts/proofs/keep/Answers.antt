use mathlib.Core.Path.{ap, ◌∙◌}
use mathlib.Core.List.{◌++◌}
use lib.ListN.{drop}
use Rattle.row_facts.proofs.keep.Goals as goal

pub returns : goal.returns
returns c = ap (λ x. x ++ drop 48 c.args.own.now)
    (c.copy.ensures ∙ c.row-kept.ensures)
