use mathlib.Core.Path.{sym, ap, ◌∙◌, subst}
use Rattle.plan_codec.specs.Decode.{decode}
use Rattle.record_fields.specs.Proper.{Proper}
use Rattle.walks.specs.ParallelizeSorts.{same_partitioning}
use Rattle.bottleneck_removal.specs.Shown.{room, node_proper}
use Rattle.bottleneck_removal.specs.Skipping.{skip_asks, skip_first, older, skip_asks_more, skip_more, skip_end}
use Rattle.bottleneck_removal.proofs.bottlenecks.skip_same.Goals as goal

pub child-k-requires : goal.child-k-requires
child-k-requires c = skip_asks c.args.m.now c.args.h c.requires.1
    (decode c.args.r.now)

pub loop-k-init : goal.loop-k-init
loop-k-init c = skip_first c.args.m.now c.args.h c.requires.1
    (decode c.args.r.now) c.child-k.result c.child-k.ensures

pub record_at-requires : goal.record_at-requires
record_at-requires c = room c.args.m.now _
    (older c.args.m.now c.args.h c.requires.1
    (decode c.args.r.now) c.loop-k.k c.loop-k.invariant)

pub same_partitioning-requires : goal.same_partitioning-requires
same_partitioning-requires c = (
  c.requires.0,
  subst Proper (sym c.record_at.ensures)
      (node_proper c.args.m.now _
      (older c.args.m.now c.args.h
      c.requires.1 (decode c.args.r.now) c.loop-k.k
      c.loop-k.invariant)),
)

pub child-k-requires-in-loop-k : goal.child-k-requires-in-loop-k
child-k-requires-in-loop-k c = skip_asks_more c.args.m.now
    c.args.h c.requires.1
    (decode c.args.r.now) c.loop-k.k
    c.loop-k.invariant c.same_partitioning.result
    (c.same_partitioning.ensures
    ∙ ap (λ x. same_partitioning (decode c.args.r.now) (decode x))
    c.record_at.ensures) c.loop-k-test.true

pub loop-k-smaller : goal.loop-k-smaller
loop-k-smaller c = (skip_more c.args.m.now
    c.args.h
    c.requires.1
    (decode c.args.r.now) c.loop-k.k
    c.loop-k.invariant c.same_partitioning.result (c.same_partitioning.ensures
    ∙ ap (λ x. same_partitioning (decode c.args.r.now) (decode x))
    c.record_at.ensures) c.loop-k-test.true c.child-k-in-loop-k.result c.child-k-in-loop-k.ensures).0

pub loop-k-preserved : goal.loop-k-preserved
loop-k-preserved c = (skip_more c.args.m.now
    c.args.h
    c.requires.1
    (decode c.args.r.now) c.loop-k.k
    c.loop-k.invariant c.same_partitioning.result (c.same_partitioning.ensures
    ∙ ap (λ x. same_partitioning (decode c.args.r.now) (decode x))
    c.record_at.ensures) c.loop-k-test.true c.child-k-in-loop-k.result c.child-k-in-loop-k.ensures).1

pub returns : goal.returns
returns c = (
  c.loop-k.invariant.low,
  skip_end c.args.m.now
      c.args.h c.requires.1
      (decode c.args.r.now) c.loop-k.k
      c.loop-k.invariant c.same_partitioning.result
      (c.same_partitioning.ensures
      ∙ ap (λ x. same_partitioning (decode c.args.r.now) (decode x))
      c.record_at.ensures) c.loop-k-test.false,
)
