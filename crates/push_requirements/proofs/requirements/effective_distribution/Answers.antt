use mathlib.Core.Path.{sym, ap, ◌∙◌}
use mathlib.Core.Bool.{Bool, cond}
use Rattle.plan.specs.declared.Distribution.TheVariants.{Unspecified}
use Rattle.push_requirements.proofs.requirements.effective_distribution.Goals as goal

pub returns-then-one_stream : goal.returns-then-one_stream
returns-then-one_stream c = sym (ap (λ (b : Bool). cond b Unspecified c.args.d) (sym c.one_stream.ensures ∙ c.if-one_stream.true))

pub returns : goal.returns
returns c = sym (ap (λ (b : Bool). cond b Unspecified c.args.d) (sym c.one_stream.ensures ∙ c.if-one_stream.false))
