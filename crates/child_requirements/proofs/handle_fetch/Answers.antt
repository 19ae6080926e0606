use mathlib.Core.Path.{sym, ◌∙◌, subst⁻¹}
use borrow.Author.Tests.{not-true, not-false}
use Rattle.plan.specs.Op.{Op}
use Rattle.plan.specs.declared.Kind.TheVariants.{Projection}
use Rattle.key_lists.specs.Keys.{keys_of}
use Rattle.record_fields.specs.Kinds.{op_of, code-kind}
use Rattle.push_requirements.specs.Pushing.{HandsOn}
use Rattle.push_requirements.specs.Answers.{cond_yes, cond_no}
use Rattle.walks.specs.SortPushdown as walk
use Rattle.std.proofs.Common.{ap}
use Rattle.std.specs.Prelude.{not}
use Rattle.child_requirements.proofs.handle_fetch.Goals as goal

pub returns-then-not-order_allows : goal.returns-then-not-order_allows
returns-then-not-order_allows c = λ fs m. cond_no m _ _ _ _ (sym c.order_allows.ensures ∙ not-true _ (ap not c.if-not-order_allows.true)) tt

pub handle_projection_pushdown-requires : goal.handle_projection_pushdown-requires
handle_projection_pushdown-requires c = (c.requires.0, code-kind c.args.r.now Projection (sym c.is_projection.ensures ∙ c.if-is_projection.true), c.requires.2)

pub returns-then-is_projection : goal.returns-then-is_projection
returns-then-is_projection c = λ fs m. let r = c.args.r.now in
    let e = op_of r Projection (code-kind r Projection (sym c.is_projection.ensures ∙ c.if-is_projection.true)) in
    cond_yes m _ _ _ _ (sym c.order_allows.ensures ∙ not-false _ (ap not c.if-not-order_allows.false))
    (subst⁻¹ (λ (o : Op). HandsOn m (walk.child_required o fs (keys_of c.args.parent)) c.handle_projection_pushdown.result) e
    (c.handle_projection_pushdown.ensures _ m e))

pub returns : goal.returns
returns c = λ fs m. cond_yes m _ _ _ _ (sym c.order_allows.ensures
    ∙ not-false _ (ap not c.if-not-order_allows.false)) (cond_no m _ _ _ _ (sym c.is_projection.ensures ∙ c.if-is_projection.false)
    (c.handle_custom_pushdown.ensures m))
