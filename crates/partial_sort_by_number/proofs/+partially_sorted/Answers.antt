use native.Mathlib.Omega.{arith}
use mathlib.Core.Path.{refl, sym, subst, ◌∙◌}
use Rattle.sort_connection.specs.Standing.{slot_room, kid_asks}
use Rattle.partial_sort_by_number.specs.AtNumber.{AnswersPartial}
use Rattle.partial_sort_by_number.specs.ByNumber.{standing, step_past, step_low, step_asks, step_missing, step_puts, step_became}
use Rattle.partial_sort_by_number.proofs.+partially_sorted.Goals as goal

pub replace_node-requires : goal.replace_node-requires
replace_node-requires t c = c.requires

pub shape_of-m-then-n-eq0 : goal.shape_of-m-then-n-eq0
shape_of-m-then-n-eq0 t c = c.replace_node.auto.m

pub returns-then-n-eq0 : goal.returns-then-n-eq0
returns-then-n-eq0 t c = subst
    (λ i. AnswersPartial c.args.m.now c.args.u c.replace_node.new.m c.args.h i c.replace_node.result)
    (sym c.if-n-eq0.true) c.replace_node.ensures

pub overflow_sub-n : goal.overflow_sub-n
overflow_sub-n t c = let z = c.if-n-eq0.false in omega arith

pub locate-p-requires : goal.locate-p-requires
locate-p-requires t c = standing c.args.m.now c.args.u c.args.h c.requires

pub child_count-requires : goal.child_count-requires
child_count-requires t c = slot_room c.args.m.now c.args.u c.args.h (standing c.args.m.now c.args.u c.args.h c.requires)

pub shape_of-m-then-j-child_count : goal.shape_of-m-then-j-child_count
shape_of-m-then-j-child_count t c = refl

pub returns-then-j-child_count : goal.returns-then-j-child_count
returns-then-j-child_count t c = step_past c.args.m.now c.args.u c.args.h c.requires c.args.n c.if-n-eq0.false _
    c.locate-p.ensures _ c.child_count.ensures c.if-j-child_count.true c.args.m.now

pub child-k-requires : goal.child-k-requires
child-k-requires t c = kid_asks c.args.m.now c.args.u c.args.h (standing c.args.m.now c.args.u c.args.h c.requires) _
    (step_low c.args.m.now c.args.u c.args.h c.requires c.args.n c.if-n-eq0.false _
    c.locate-p.ensures _ c.child_count.ensures c.if-j-child_count.false)

pub partially_sorted-requires : goal.partially_sorted-requires
partially_sorted-requires t c = let q = step_asks c.args.m.now c.args.u c.args.h c.requires c.args.n
    c.if-n-eq0.false _ c.locate-p.ensures _
    c.child_count.ensures c.if-j-child_count.false _ c.child-k.ensures in let q₀ = q.0 in
    let g = c.decreases in (omega arith, q.1)

pub put_child-top-requires : goal.put_child-top-requires
put_child-top-requires t c = step_puts c.args.m.now c.args.u c.args.h c.requires c.args.n
    c.if-n-eq0.false _
    c.locate-p.ensures _
    c.child_count.ensures
    c.if-j-child_count.false _
    c.child-k.ensures _ _
    c.partially_sorted.ensures
    c.partially_sorted.auto.m _ c.in_ok-below.was

pub shape_of-m-in_err-below : goal.shape_of-m-in_err-below
shape_of-m-in_err-below t c = c.partially_sorted.auto.m

pub returns-in_err-below : goal.returns-in_err-below
returns-in_err-below t c = rw c.from_residual.ensures (step_missing c.args.m.now c.args.u c.args.h c.requires c.args.n
    c.if-n-eq0.false _
    c.locate-p.ensures _
    c.child_count.ensures
    c.if-j-child_count.false _ c.child-k.ensures _ _
    c.partially_sorted.ensures c.in_err-below.was)

pub shape_of-m : goal.shape_of-m
shape_of-m t c = c.put_child-top.auto.m
    ∙ c.partially_sorted.auto.m

pub returns : goal.returns
returns t c = step_became c.args.m.now c.args.u c.args.h c.requires c.args.n
    c.if-n-eq0.false _ c.locate-p.ensures _ c.child_count.ensures
    c.if-j-child_count.false _
    c.child-k.ensures _ _
    c.partially_sorted.ensures
    c.partially_sorted.auto.m _
    c.in_ok-below.was _ _ c.put_child-top.ensures
