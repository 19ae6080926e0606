use mathlib.Core.Path.{refl, sym, ap, ◌∙◌}
use Rattle.plan.specs.Numbers.{code}
use Rattle.plan_codec.specs.Decode.{decode}
use Rattle.sort_connection.specs.Standing.{own_proper, is_code, not_code}
use Rattle.sort_removal.specs.Removing.{overs_at, overs_puts, other_grown, merge_some, merge_small, merge_grown, part_puts, part_grown}
use Rattle.sort_removal.proofs.remove_corresponding_sort_from_sub_plan.remove_over.Goals as goal

pub is_sort_preserving_merge-requires : goal.is_sort_preserving_merge-requires
is_sort_preserving_merge-requires c = own_proper c.args.m.now c.args.u c.args.h (overs_at c.args.m.now c.args.u c.args.h c.args.ks.now c.args.updated
    c.requires.0) _ c.requires.1

pub bounds-ks-0 : goal.bounds-ks-0
bounds-ks-0 c = merge_some c.args.m.now c.args.u c.args.h c.args.ks.now c.args.updated c.requires.0
    (sym (ap (λ y. code (decode y)) c.requires.1) ∙ is_code (decode c.args.r.now) 8 _ c.is_sort_preserving_merge.ensures
    c.if-is_sort_preserving_merge.true)

pub set_mark-k-requires : goal.set_mark-k-requires
set_mark-k-requires c = merge_small c.args.m.now c.args.u c.args.h c.args.ks.now c.args.updated c.requires.0
    (sym (ap (λ y. code (decode y)) c.requires.1) ∙ is_code (decode c.args.r.now) 8 _ c.is_sort_preserving_merge.ensures
    c.if-is_sort_preserving_merge.true)

pub returns-then-is_sort_preserving_merge : goal.returns-then-is_sort_preserving_merge
returns-then-is_sort_preserving_merge c = merge_grown c.args.m.now c.args.u c.args.h c.args.ks.now c.args.updated c.requires.0
    (sym (ap (λ y. code (decode y)) c.requires.1) ∙ is_code (decode c.args.r.now) 8 _ c.is_sort_preserving_merge.ensures
    c.if-is_sort_preserving_merge.true) _ refl _ c.set_mark-k.ensures

pub is_repartition-requires : goal.is_repartition-requires
is_repartition-requires c = own_proper c.args.m.now c.args.u c.args.h (overs_at c.args.m.now c.args.u c.args.h c.args.ks.now c.args.updated
    c.requires.0) _ c.requires.1

pub with_mark-x-requires : goal.with_mark-x-requires
with_mark-x-requires c = (own_proper c.args.m.now c.args.u c.args.h (overs_at c.args.m.now c.args.u c.args.h c.args.ks.now c.args.updated
    c.requires.0) _ c.requires.1).long

pub put_again-a-requires : goal.put_again-a-requires
put_again-a-requires c = part_puts c.args.m.now c.args.u c.args.h c.args.ks.now c.args.updated c.requires.0
    (sym (ap (λ y. code (decode y)) c.requires.1) ∙ is_code (decode c.args.r.now) 5 _ c.is_repartition.ensures
    c.if-is_repartition.true) _ c.requires.1 _ c.with_mark-x.ensures

pub returns-then-is_repartition : goal.returns-then-is_repartition
returns-then-is_repartition c = part_grown c.args.m.now c.args.u c.args.h c.args.ks.now c.args.updated c.requires.0
    (sym (ap (λ y. code (decode y)) c.requires.1) ∙ is_code (decode c.args.r.now) 5 _
    c.is_repartition.ensures
    c.if-is_repartition.true) _ c.requires.1 _
    c.with_mark-x.ensures _ _ c.put_again-a.ensures _ refl _
    c.set_mark-k-then-is_repartition.ensures

pub update_plan_from_children-a-requires : goal.update_plan_from_children-a-requires
update_plan_from_children-a-requires c = overs_puts c.args.m.now c.args.u c.args.h c.args.ks.now c.args.updated c.requires.0 _ c.requires.1

pub returns : goal.returns
returns c = other_grown c.args.m.now c.args.u c.args.h c.args.ks.now c.args.updated c.requires.0
    (λ e. not_code (decode c.args.r.now) 5 _ c.is_repartition.ensures
    c.if-is_repartition.false (ap (λ y. code (decode y)) c.requires.1 ∙ e))
    (λ e. c.requires.2 (ap (λ y. code (decode y)) c.requires.1 ∙ e))
    (λ e. not_code (decode c.args.r.now) 8 _ c.is_sort_preserving_merge.ensures
    c.if-is_sort_preserving_merge.false (ap (λ y. code (decode y)) c.requires.1 ∙ e)) _ c.requires.1 _ _
    c.update_plan_from_children-a.ensures _ refl _ c.set_mark-k-2.ensures
