use mathlib.Core.Path.{sym, ap, ◌∙◌, subst}
use Rattle.arena.specs.Arena.{marked}
use Rattle.plan_context.specs.View.{tree_of, summary_in, Sums}
use Rattle.plan_context.specs.Summaries.{sums_mark}
use Rattle.plan_context.proofs.kept.summary.Goals as goal

pub returns : goal.returns
returns c = subst (Sums (tree_of c.args.m.now c.args.h)) (sym (c.load_summary.ensures ∙ ap summary_in c.row.ensures.0))
    (sums_mark (marked c.args.h) _ _ c.requires.holds.summary)
