use mathlib.Core.Path.{◌∙◌}
use Rattle.asked_facts.specs.Answers.{lowest_is, lowest_below}
use Rattle.asked_facts.proofs.lowest_equal.Goals as goal

pub returns : goal.returns
returns c = let e = c.wide.ensures ∙ lowest_is c.args.b.now c.args.c c.requires.0 c.requires.1 in
    (e, lowest_below c.args.b.now c.args.c c.wide.result c.requires.0 c.requires.1 e)
