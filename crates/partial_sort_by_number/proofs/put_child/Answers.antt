use native.Mathlib.Omega.{arith}
use mathlib.Core.Path.{ap, ◌∙◌}
use lib.ListN.{length}
use Rattle.sort_connection.specs.Standing.{view, slot_room}
use Rattle.partial_sort_by_number.specs.ByNumber.{taken_long, taken_puts, taken_grown}
use Rattle.partial_sort_by_number.proofs.put_child.Goals as goal

pub record_at-requires : goal.record_at-requires
record_at-requires c = slot_room c.args.m.now c.args.u c.args.h c.requires.0

pub read64-r-requires : goal.read64-r-requires
read64-r-requires c = ap length c.record_at.ensures ∙ (view c.args.m.now c.args.u c.args.h c.requires.0).long

pub child_count-c-requires : goal.child_count-c-requires
child_count-c-requires c = slot_room c.args.m.now c.args.u c.args.h c.requires.0

pub slice_bounds-kids-end : goal.slice_bounds-kids-end
slice_bounds-kids-end c = let f = (view c.args.m.now c.args.u c.args.h c.requires.0).few in let e = c.child_count-c.ensures
    ∙ (view c.args.m.now c.args.u c.args.h c.requires.0).count in let w = c.with_child-kids.ensures.0 in omega arith

pub slice_bounds-put_again-end-2 : goal.slice_bounds-put_again-end-2
slice_bounds-put_again-end-2 c = taken_long c.args.m.now c.args.u c.args.h c.requires.0 c.args.j c.args.k c.requires.2 _
    (c.child_count-c.ensures ∙ (view c.args.m.now c.args.u c.args.h c.requires.0).count) _
    c.with_child-kids.ensures.0 c.with_child-kids.ensures.1

pub put_again-requires : goal.put_again-requires
put_again-requires c = taken_puts c.args.m.now c.args.u c.args.h c.requires.0 c.args.j c.args.k c.requires.2 _
    (c.child_count-c.ensures ∙ (view c.args.m.now c.args.u c.args.h c.requires.0).count) _
    c.with_child-kids.ensures.0 c.with_child-kids.ensures.1 _
    (c.read64-r.ensures
    ∙ c.record_at.ensures)

pub returns : goal.returns
returns c = taken_grown c.args.m.now c.args.u c.args.h c.requires.0 c.args.j c.args.k c.requires.2 _
    (c.child_count-c.ensures ∙ (view c.args.m.now c.args.u c.args.h
    c.requires.0).count) _ c.with_child-kids.ensures.0
    c.with_child-kids.ensures.1 _
    (c.read64-r.ensures
    ∙ c.record_at.ensures) _ _
    c.put_again.ensures
