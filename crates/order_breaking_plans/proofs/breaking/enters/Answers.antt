use mathlib.Core.Path.{sym, ap, ◌∙◌, subst}
use lib.Dec.{eqb}
use Rattle.plan.specs.Numbers.{code}
use Rattle.plan_codec.specs.Decode.{decode}
use Rattle.record_fields.specs.Proper.{Proper}
use borrow.Author.Tests.{not-true, not-false}
use Rattle.arena.specs.Arena.{slot}
use Rattle.walks.specs.Marks.{known}
use Rattle.plan_context.specs.View.{forest}
use Rattle.order_preservation_marks.specs.Nodes.{slot_proper, child_asks, kid_here, kid_facts}
use Rattle.order_breaking_plans.specs.Breaking.{enters_lost, enters_merge, enters_unasked, enters-asked}
use Rattle.std.specs.Prelude.{not}
use Rattle.order_breaking_plans.proofs.breaking.enters.Goals as goal

pub returns-then-not-maintains_input_order : goal.returns-then-not-maintains_input_order
returns-then-not-maintains_input_order c = let m = c.args.m.now in let i = c.args.i in let j = c.args.j in let o = decode (slot m i).rec in
    let fs = known (forest m (slot m i).kids) in enters_lost o fs j _ c.maintains_input_order.ensures (not-true _ (ap not c.if-not-maintains_input_order.true))

pub is_sort_preserving_merge-requires : goal.is_sort_preserving_merge-requires
is_sort_preserving_merge-requires c = let m = c.args.m.now in let i = c.args.i in let a = c.requires.0 in
    subst Proper (sym c.record_at-r.ensures) (slot_proper m i a)

pub returns-then-is_sort_preserving_merge : goal.returns-then-is_sort_preserving_merge
returns-then-is_sort_preserving_merge c = let m = c.args.m.now in let i = c.args.i in let j = c.args.j in
    let o = decode (slot m i).rec in let fs = known (forest m (slot m i).kids) in
    enters_merge o fs j _ c.maintains_input_order.ensures (not-false _ (ap not c.if-not-maintains_input_order.false)) _
    (c.is_sort_preserving_merge.ensures ∙ ap (λ x. eqb (code (decode x)) 8) c.record_at-r.ensures) c.if-is_sort_preserving_merge.true

pub wanted_order-order-requires : goal.wanted_order-order-requires
wanted_order-order-requires c = let m = c.args.m.now in let i = c.args.i in
    let a = c.requires.0 in subst Proper (sym c.record_at-r.ensures) (slot_proper m i a)

pub returns-in_default : goal.returns-in_default
returns-in_default c = let m = c.args.m.now in let i = c.args.i in
    let j = c.args.j in let o = decode (slot m i).rec in let fs = known (forest m (slot m i).kids) in
    enters_unasked o fs j _ c.maintains_input_order.ensures
    (not-false _ (ap not c.if-not-maintains_input_order.false)) _ (c.is_sort_preserving_merge.ensures
    ∙ ap (λ x. eqb (code (decode x)) 8) c.record_at-r.ensures) c.if-is_sort_preserving_merge.false _
    (rw c.record_at-r.ensures at c.wanted_order-order.ensures) c.in_default.is

pub child-k-requires : goal.child-k-requires
child-k-requires c = let m = c.args.m.now in
    let i = c.args.i in let j = c.args.j in let a = c.requires.0 in child_asks m i a j c.requires.1

pub row-requires : goal.row-requires
row-requires c = let m = c.args.m.now in
    let i = c.args.i in let j = c.args.j in let a = c.requires.0 in kid_here m i a j c.requires.1 _ c.child-k.ensures

pub returns : goal.returns
returns c = let m = c.args.m.now in let i = c.args.i in let j = c.args.j in let a = c.requires.0 in let o = decode (slot m i).rec in
    let fs = known (forest m (slot m i).kids) in
    enters-asked o fs j _ c.maintains_input_order.ensures
    (not-false _ (ap not c.if-not-maintains_input_order.false)) _
    (c.is_sort_preserving_merge.ensures ∙ ap (λ x. eqb (code (decode x)) 8)
    c.record_at-r.ensures)
    c.if-is_sort_preserving_merge.false _
    (rw c.record_at-r.ensures at
    c.wanted_order-order.ensures) _ c.in-Some.is _
    (c.row.ensures.1.is ∙ kid_facts m i a j c.requires.1 _ c.child-k.ensures) _ c.meets.ensures
