use mathlib.Core.Path.{sym, ◌∙◌}
use Rattle.push_requirements.specs.Answers.{cond_yes, cond_no}
use Rattle.child_requirements.proofs.push_past_merge.Goals as goal

pub returns-then-pushdown_would_violate_requirements : goal.returns-then-pushdown_would_violate_requirements
returns-then-pushdown_would_violate_requirements c = λ m. cond_yes m _ _ _ _ (sym c.pushdown_would_violate_requirements.ensures ∙ c.if-pushdown_would_violate_requirements.true) tt

pub returns : goal.returns
returns c = λ m. cond_no m _ _ _ _ (sym c.pushdown_would_violate_requirements.ensures ∙ c.if-pushdown_would_violate_requirements.false)
    (c.handle_merge.ensures m)
