use Rattle.plan_codec.specs.Decode.{decode}
use Rattle.plan_context.specs.View.{tree_of}
use Rattle.parallelize_sorts.specs.Exprs.{coalesced}
use Rattle.parallelize_sorts.specs.Cascading.{rebuilds_opens, rebuilds_proper, again_puts, again_grown}
use Rattle.parallelize_sorts.proofs.cascades.coalesce_again.Goals as goal

pub fetch-f-requires : goal.fetch-f-requires
fetch-f-requires c = rebuilds_proper c.args.m.now c.args.u c.args.r.now
    c.args.h c.requires.0

pub remove_bottleneck_in_subplan-a-requires : goal.remove_bottleneck_in_subplan-a-requires
remove_bottleneck_in_subplan-a-requires c = (
  rebuilds_opens c.args.m.now c.args.u
      c.args.r.now c.args.h c.requires.0,
  rebuilds_proper c.args.m.now c.args.u
      c.args.r.now c.args.h c.requires.0,
)

pub put_over-requires : goal.put_over-requires
put_over-requires c = again_puts c.args.m.now
    c.args.u
    c.args.r.now
    c.args.h
    c.requires.0
    (coalesced (decode c.args.r.now)
    (tree_of c.args.m.now
    c.args.h)
    c.requires.1).pass _
    c.remove_bottleneck_in_subplan-a.auto.m
    c.remove_bottleneck_in_subplan-a.result
    c.remove_bottleneck_in_subplan-a.ensures
    (coalesced (decode c.args.r.now)
    (tree_of c.args.m.now
    c.args.h)
    c.requires.1)
    c.fetch-f.result
    c.fetch-f.ensures _ c.coalesce_record-x.ensures

pub returns : goal.returns
returns c = again_grown c.args.m.now
    c.args.u
    c.args.r.now
    c.args.h
    c.requires.0
    (coalesced (decode c.args.r.now)
    (tree_of c.args.m.now
    c.args.h)
    c.requires.1).pass _
    c.remove_bottleneck_in_subplan-a.auto.m
    c.remove_bottleneck_in_subplan-a.result
    c.remove_bottleneck_in_subplan-a.ensures
    (coalesced (decode c.args.r.now)
    (tree_of c.args.m.now
    c.args.h)
    c.requires.1)
    c.fetch-f.result
    c.fetch-f.ensures _
    c.coalesce_record-x.ensures _ c.put_over.result
    c.put_over.ensures
