use Rattle.sort_connection.specs.Standing.{is_here, own_proper, kid_asks, kid_standing}
use Rattle.ensure_sorting.specs.Step.{marks_standing, sort_code, other_code, leaf_grown, first_some, loop_asks, loop_grown, other_kind, not-met, met_asks, met_grown}
use Rattle.ensure_sorting.proofs.ensure_marked.Goals as goal

pub returns-then-child_count-eq0 : goal.returns-then-child_count-eq0
returns-then-child_count-eq0 c = leaf_grown c.args.m.now c.args.u c.args.h c.requires _ c.child_count.ensures
    c.if-child_count-eq0.true

pub is_sort-requires : goal.is_sort-requires
is_sort-requires c = own_proper c.args.m.now c.args.u c.args.h (marks_standing c.args.m.now c.args.u c.args.h c.requires) _ c.record_at.ensures

pub child-k-requires : goal.child-k-requires
child-k-requires c = kid_asks c.args.m.now c.args.u c.args.h (marks_standing c.args.m.now c.args.u c.args.h c.requires) 0
    (first_some c.args.m.now c.args.u c.args.h c.requires _ c.child_count.ensures
    c.if-child_count-eq0.false)

pub row-requires : goal.row-requires
row-requires c = is_here c.args.m.now c.args.u _
    (kid_standing c.args.m.now c.args.u c.args.h (marks_standing c.args.m.now c.args.u c.args.h c.requires) 0
    (first_some c.args.m.now c.args.u c.args.h c.requires _
    c.child_count.ensures
    c.if-child_count-eq0.false) _ c.child-k.ensures)

pub row-requires-then-is_sort : goal.row-requires-then-is_sort
row-requires-then-is_sort c = is_here c.args.m.now c.args.u c.args.h (marks_standing c.args.m.now c.args.u c.args.h c.requires)

pub analyze_immediate_sort_removal-requires : goal.analyze_immediate_sort_removal-requires
analyze_immediate_sort_removal-requires c = met_asks c.args.m.now c.args.u c.args.h c.requires _
    c.child_count.ensures
    c.if-child_count-eq0.false
    (sort_code c.args.m.now c.args.u c.args.h c.requires _
    c.record_at.ensures _
    c.is_sort.ensures
    c.if-is_sort.true) _
    c.child-k.ensures _ c.row.ensures.1 _
    c.row-then-is_sort.ensures.1 _ c.known_order.ensures _ c.meets_order.ensures
    c.if-meets_order.true

pub returns-then-meets_order : goal.returns-then-meets_order
returns-then-meets_order c = met_grown c.args.m.now c.args.u c.args.h c.requires _
    c.child_count.ensures c.if-child_count-eq0.false
    (sort_code c.args.m.now c.args.u c.args.h c.requires _
    c.record_at.ensures _
    c.is_sort.ensures
    c.if-is_sort.true) _
    c.child-k.ensures _
    c.row.ensures.1 _
    c.row-then-is_sort.ensures.1 _
    c.known_order.ensures _ c.meets_order.ensures
    c.if-meets_order.true _ _ c.analyze_immediate_sort_removal.ensures

pub ensure_children-requires : goal.ensure_children-requires
ensure_children-requires c = loop_asks c.args.m.now c.args.u c.args.h c.requires _
    c.child_count.ensures
    c.if-child_count-eq0.false
    (not-met c.args.m.now c.args.u c.args.h c.requires _
    c.child_count.ensures
    c.if-child_count-eq0.false
    (sort_code c.args.m.now c.args.u c.args.h c.requires _
    c.record_at.ensures _
    c.is_sort.ensures
    c.if-is_sort.true) _
    c.child-k.ensures _ c.row.ensures.1 _
    c.row-then-is_sort.ensures.1 _ c.known_order.ensures _ c.meets_order.ensures
    c.if-meets_order.false)

pub returns-then-is_sort : goal.returns-then-is_sort
returns-then-is_sort c = loop_grown c.args.m.now c.args.u c.args.h c.requires _
    c.child_count.ensures c.if-child_count-eq0.false
    (not-met c.args.m.now c.args.u c.args.h c.requires _
    c.child_count.ensures c.if-child_count-eq0.false
    (sort_code c.args.m.now c.args.u c.args.h c.requires _
    c.record_at.ensures _
    c.is_sort.ensures
    c.if-is_sort.true) _
    c.child-k.ensures _
    c.row.ensures.1 _
    c.row-then-is_sort.ensures.1 _
    c.known_order.ensures _ c.meets_order.ensures
    c.if-meets_order.false) _ _ c.ensure_children.ensures

pub ensure_children-requires-2 : goal.ensure_children-requires-2
ensure_children-requires-2 c = loop_asks c.args.m.now c.args.u c.args.h c.requires _ c.child_count.ensures
    c.if-child_count-eq0.false
    (other_kind c.args.m.now c.args.u c.args.h c.requires _ c.child_count.ensures
    c.if-child_count-eq0.false
    (other_code c.args.m.now c.args.u c.args.h c.requires _ c.record_at.ensures _
    c.is_sort.ensures c.if-is_sort.false))

pub returns : goal.returns
returns c = loop_grown c.args.m.now c.args.u c.args.h c.requires _
    c.child_count.ensures
    c.if-child_count-eq0.false
    (other_kind c.args.m.now c.args.u c.args.h c.requires _
    c.child_count.ensures
    c.if-child_count-eq0.false
    (other_code c.args.m.now c.args.u c.args.h c.requires _ c.record_at.ensures _
    c.is_sort.ensures c.if-is_sort.false)) _ _
    c.ensure_children-2.ensures
