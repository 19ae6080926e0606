use mathlib.Core.Path.{ap, ◌∙◌}
use lib.Dec.{eqb}
use lib.ListN.{get_or}
use Rattle.plan_context.specs.Records.{check_plan}
use Rattle.plan_context.specs.View.{tree_of}
use Rattle.plan_context.proofs.kept.passes.Goals as goal

pub returns : goal.returns
returns c = ap (λ b. eqb (get_or b 104 0) 1) c.row-b.ensures.0 ∙ c.requires.holds.summary.passes
    ∙ check_plan (tree_of c.args.m.now c.args.h)
