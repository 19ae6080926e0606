use mathlib.Core.Path.{sym}
use lib.Seq.{length-take-le}
use Rattle.bottleneck_removal.specs.IdleNodes.{node_older, lift_asks, lift_proper, lift_skips, few_wide, lift_puts, lift_grown}
use Rattle.bottleneck_removal.proofs.bottlenecks.lift_first.Goals as goal

pub child_count-n-requires : goal.child_count-n-requires
child_count-n-requires c = (lift_asks c.args.m.now c.args.u
    c.args.i c.args.r.now c.requires).0

pub child-k-requires : goal.child-k-requires
child-k-requires c = lift_asks c.args.m.now c.args.u
    c.args.i c.args.r.now
    c.requires

pub children_of-kids-requires : goal.children_of-kids-requires
children_of-kids-requires c = node_older c.args.m.now
    c.args.u c.args.i
    c.args.r.now c.requires

pub skip_same-requires : goal.skip_same-requires
skip_same-requires c = (
  lift_proper c.args.m.now
      c.args.u
      c.args.i
      c.args.r.now
      c.requires,
  lift_skips c.args.m.now
      c.args.u
      c.args.i
      c.args.r.now
      c.requires c.child-k.result
      c.child-k.ensures,
)

pub slice_bounds-kids-end : goal.slice_bounds-kids-end
slice_bounds-kids-end c = few_wide c.args.m.now
    c.args.u
    c.args.i
    c.args.r.now
    c.requires c.children_of-kids.result
    c.children_of-kids.ensures.0 c.children_of-kids.ensures.1
    c.child-k.result c.child-k.ensures
    c.skip_same.result c.skip_same.ensures c.child_count-n.result
    c.child_count-n.ensures

pub slice_bounds-without_idle-end : goal.slice_bounds-without_idle-end
slice_bounds-without_idle-end c = sym (length-take-le _ _ (few_wide c.args.m.now
    c.args.u
    c.args.i
    c.args.r.now
    c.requires
    c.children_of-kids.result c.children_of-kids.ensures.0
    c.children_of-kids.ensures.1 c.child-k.result
    c.child-k.ensures c.skip_same.result c.skip_same.ensures
    c.child_count-n.result
    c.child_count-n.ensures))

pub without_idle-requires : goal.without_idle-requires
without_idle-requires c = (
  lift_puts c.args.m.now
      c.args.u
      c.args.i
      c.args.r.now
      c.requires
      c.children_of-kids.result c.children_of-kids.ensures.0
      c.children_of-kids.ensures.1 c.child-k.result
      c.child-k.ensures c.skip_same.result c.skip_same.ensures
      c.child_count-n.result
      c.child_count-n.ensures,
  c.requires.low,
)

pub returns : goal.returns
returns c = lift_grown c.args.m.now c.args.u
    c.args.i
    c.args.r.now
    c.requires
    c.children_of-kids.result
    c.children_of-kids.ensures.0
    c.children_of-kids.ensures.1
    c.child-k.result
    c.child-k.ensures
    c.skip_same.result c.skip_same.ensures
    c.child_count-n.result
    c.child_count-n.ensures _
    c.without_idle.result c.without_idle.ensures
