use Rattle.parallelize_sorts.specs.Cascading.{rebuilds_opens, rebuilds_proper, is_cascaded, sort_asks, merge_puts, merge_grown}
use Rattle.parallelize_sorts.proofs.cascades.cascade.Goals as goal

pub get_sort_exprs-e-requires : goal.get_sort_exprs-e-requires
get_sort_exprs-e-requires c = rebuilds_proper c.args.m.now c.args.u c.args.r.now
    c.args.h c.requires.0

pub remove_bottleneck_in_subplan-a-requires : goal.remove_bottleneck_in_subplan-a-requires
remove_bottleneck_in_subplan-a-requires c = (
  rebuilds_opens c.args.m.now c.args.u
      c.args.r.now c.args.h
      c.requires.0,
  rebuilds_proper c.args.m.now
      c.args.u c.args.r.now
      c.args.h c.requires.0,
)

pub add_sort_above_with_check-s-requires : goal.add_sort_above_with_check-s-requires
add_sort_above_with_check-s-requires c = sort_asks c.args.m.now
    c.args.u
    c.args.r.now
    c.args.h
    c.requires.0
    (is_cascaded c.args.m.now
    c.args.u
    c.args.r.now
    c.args.h
    c.requires.0
    c.get_sort_exprs-e.result
    c.get_sort_exprs-e.ensures
    c.requires.1).pass _
    c.remove_bottleneck_in_subplan-a.auto.m c.remove_bottleneck_in_subplan-a.result
    c.remove_bottleneck_in_subplan-a.ensures c.get_sort_exprs-e.result
    (is_cascaded c.args.m.now
    c.args.u
    c.args.r.now
    c.args.h
    c.requires.0
    c.get_sort_exprs-e.result
    c.get_sort_exprs-e.ensures
    c.requires.1)

pub merge_record-x-requires : goal.merge_record-x-requires
merge_record-x-requires c = (is_cascaded
    c.args.m.now
    c.args.u
    c.args.r.now
    c.args.h
    c.requires.0
    c.get_sort_exprs-e.result
    c.get_sort_exprs-e.ensures
    c.requires.1).few

pub put_over-requires : goal.put_over-requires
put_over-requires c = merge_puts
    c.args.m.now
    c.args.u
    c.args.r.now
    c.args.h
    c.requires.0
    (is_cascaded c.args.m.now c.args.u
    c.args.r.now
    c.args.h
    c.requires.0
    c.get_sort_exprs-e.result
    c.get_sort_exprs-e.ensures
    c.requires.1).pass _
    c.remove_bottleneck_in_subplan-a.auto.m
    c.remove_bottleneck_in_subplan-a.result
    c.remove_bottleneck_in_subplan-a.ensures
    c.get_sort_exprs-e.result
    (is_cascaded c.args.m.now
    c.args.u
    c.args.r.now
    c.args.h
    c.requires.0
    c.get_sort_exprs-e.result
    c.get_sort_exprs-e.ensures
    c.requires.1) _
    c.add_sort_above_with_check-s.auto.m
    c.add_sort_above_with_check-s.result
    c.add_sort_above_with_check-s.ensures _ c.merge_record-x.ensures

pub returns : goal.returns
returns c = merge_grown c.args.m.now
    c.args.u c.args.r.now c.args.h
    c.requires.0 (is_cascaded c.args.m.now
    c.args.u c.args.r.now c.args.h
    c.requires.0 c.get_sort_exprs-e.result c.get_sort_exprs-e.ensures c.requires.1).pass _ c.remove_bottleneck_in_subplan-a.auto.m
    c.remove_bottleneck_in_subplan-a.result
    c.remove_bottleneck_in_subplan-a.ensures
    c.get_sort_exprs-e.result
    (is_cascaded c.args.m.now c.args.u
    c.args.r.now c.args.h c.requires.0
    c.get_sort_exprs-e.result
    c.get_sort_exprs-e.ensures
    c.requires.1) _ c.add_sort_above_with_check-s.auto.m
    c.add_sort_above_with_check-s.result
    c.add_sort_above_with_check-s.ensures _
    c.merge_record-x.ensures _ c.put_over.result c.put_over.ensures
