use mathlib.Core.Path.{sym, ap, ◌∙◌, subst}
use Rattle.plan_codec.specs.Decode.{decode}
use Rattle.record_fields.specs.Proper.{Proper}
use Rattle.walks.specs.ParallelizeSorts.{bottleneck}
use Rattle.bottleneck_removal.specs.Shown.{node_proper}
use Rattle.bottleneck_removal.specs.Removing.{own, root_skips, root_lifted, root_opened}
use Rattle.bottleneck_removal.proofs.bottlenecks.remove_bottleneck_in_subplan.Goals as goal

pub is_bottleneck-requires : goal.is_bottleneck-requires
is_bottleneck-requires c = subst Proper (sym c.record_at.ensures)
    (node_proper _ _ (own c.args.m.now c.args.u
    c.args.h c.requires.0))

pub skip_same-k-requires : goal.skip_same-k-requires
skip_same-k-requires c = (
  c.requires.1,
  root_skips c.args.m.now
      c.args.u c.args.h
      c.requires.0 c.args.r.now
      c.is_bottleneck.result (c.is_bottleneck.ensures ∙ ap (λ x. bottleneck (decode x))
      c.record_at.ensures) c.if-is_bottleneck.true,
)

pub returns-then-is_bottleneck : goal.returns-then-is_bottleneck
returns-then-is_bottleneck c = root_lifted c.args.m.now
    c.args.u
    c.args.h
    c.requires.0
    c.args.r.now c.is_bottleneck.result
    (c.is_bottleneck.ensures ∙ ap (λ x. bottleneck (decode x)) c.record_at.ensures)
    c.if-is_bottleneck.true c.skip_same-k.result c.skip_same-k.ensures

pub returns : goal.returns
returns c = root_opened c.args.m.now
    c.args.u
    c.args.h
    c.requires.0
    c.args.r.now
    c.is_bottleneck.result (c.is_bottleneck.ensures
    ∙ ap (λ x. bottleneck (decode x)) c.record_at.ensures)
    c.if-is_bottleneck.false _ c.remove_bottleneck_in_subplan_impl.result
    c.remove_bottleneck_in_subplan_impl.ensures
