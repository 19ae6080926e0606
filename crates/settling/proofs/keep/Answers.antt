use borrow.Author.Rules.{rules}
use mathlib.Core.Path.{sym, ap, ◌∙◌, subst}
use Rattle.fact_slots.specs.Slots.{loaded}
use Rattle.facts.specs.Known.{known as told, Says}
use Rattle.plan_context.specs.View.{summary_in}
use Rattle.plan_context.specs.Storing.{summary_back, facts_stay}
use Rattle.settling.proofs.keep.Goals as goal

pub returns : goal.returns
returns c = let x = c.store in let y = c.store_summary in let l = x.auto.b ∙ c.requires.0 in (
  subst (λ z. Says (told c.args.f) z) (sym (ap loaded y.ensures ∙ facts_stay x.new.b c.args.s l)) x.ensures.says,
  ap summary_in y.ensures ∙ summary_back x.new.b c.args.s l c.requires.3 (search rules),
)
