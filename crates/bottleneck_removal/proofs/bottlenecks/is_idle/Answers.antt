use native.Mathlib.Omega.{arith}
use mathlib.Core.Path.{refl, sym, ap, ◌∙◌, subst}
use borrow.Author.Tests.{not-true, not-false}
use Rattle.plan_codec.specs.Decode.{decode}
use Rattle.record_fields.specs.Proper.{Proper}
use Rattle.walks.specs.ParallelizeSorts.{same_partitioning}
use Rattle.plan_context.specs.View.{forest}
use Rattle.plan_updates.specs.ProperRecords.{over_proper}
use Rattle.bottleneck_removal.specs.IdleNodes.{not-idle, one_child, child_here, child_proper, idle_is}
use Rattle.std.specs.Prelude.{not}
use Rattle.bottleneck_removal.proofs.bottlenecks.is_idle.Goals as goal

pub is_repartition-requires : goal.is_repartition-requires
is_repartition-requires c = over_proper c.args.m.now c.args.r.now
    c.args.ks.now c.requires

pub returns-then-not-is_repartition : goal.returns-then-not-is_repartition
returns-then-not-is_repartition c = not-idle (decode c.args.r.now) (forest c.args.m.now c.args.ks.now)
    (sym c.is_repartition.ensures ∙ not-true _ (ap not c.if-not-is_repartition.true))

pub bounds-ks-0 : goal.bounds-ks-0
bounds-ks-0 c = let n = one_child c.args.m.now
    c.args.r.now c.args.ks.now
    c.requires (sym c.is_repartition.ensures
    ∙ not-false _ (ap not c.if-not-is_repartition.false)) in omega arith

pub streams_field-requires : goal.streams_field-requires
streams_field-requires c = over_proper c.args.m.now
    c.args.r.now c.args.ks.now
    c.requires

pub row-requires : goal.row-requires
row-requires c = child_here c.args.m.now
    c.args.r.now c.args.ks.now
    c.requires (sym c.is_repartition.ensures
    ∙ not-false _ (ap not c.if-not-is_repartition.false)) _ refl

pub streams-requires : goal.streams-requires
streams-requires c = c.row.ensures.1.row

pub hash_mark-requires : goal.hash_mark-requires
hash_mark-requires c = over_proper c.args.m.now
    c.args.r.now
    c.args.ks.now
    c.requires

pub record_at-requires : goal.record_at-requires
record_at-requires c = (child_here c.args.m.now
    c.args.r.now
    c.args.ks.now
    c.requires
    (sym c.is_repartition.ensures
    ∙ not-false _ (ap not c.if-not-is_repartition.false)) _ refl).slot

pub same_partitioning-requires : goal.same_partitioning-requires
same_partitioning-requires c = (
  over_proper c.args.m.now
      c.args.r.now
      c.args.ks.now
      c.requires,
  subst Proper (sym c.record_at.ensures)
      (child_proper c.args.m.now
      c.args.r.now
      c.args.ks.now
      c.requires
      (sym c.is_repartition.ensures
      ∙ not-false _ (ap not c.if-not-is_repartition.false)) _ refl),
)

pub returns : goal.returns
returns c = idle_is c.args.m.now
    c.args.r.now
    c.args.ks.now
    c.requires
    (sym c.is_repartition.ensures
    ∙ not-false _ (ap not c.if-not-is_repartition.false)) _ refl c.hash_mark.result
    c.hash_mark.ensures c.streams_field.result
    c.streams.result c.streams_field.ensures _
    c.row.ensures.1 c.streams.ensures c.same_partitioning.result
    (c.same_partitioning.ensures
    ∙ ap (λ x. same_partitioning (decode c.args.r.now)
    (decode x)) c.record_at.ensures)
