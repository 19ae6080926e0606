use mathlib.Core.Path.{refl, ap, ◌∙◌}
use Rattle.semantics.specs.Check.{check}
use Rattle.plan_context.specs.Laws.{here}
use Rattle.plan_context.specs.Records.{plan_t, tree-held}
use Rattle.call_parts.proofs.check_in.Goals as goal

pub passes-requires : goal.passes-requires
passes-requires c = here _ c.args.u c.args.h c.settle_all.ensures.0 c.requires.1

pub returns : goal.returns
returns c = λ out short. (
  refl,
  c.passes.ensures ∙ ap (λ t. check (plan_t t)) (tree-held c.args.m.now c.settle_all.new.m
      c.args.h c.settle_all.ensures.1),
  refl,
)
