use native.Mathlib.Omega.{arith}
use mathlib.Core.Path.{sym, ap, ◌∙◌}
use lib.Dec.{eqb}
use lib.ListN.{get_or, length}
use Rattle.arena.specs.Arena.{slot}
use Rattle.plan_context.specs.Laws.{here}
use Rattle.asked_facts.specs.Asked.{told}
use Rattle.plan.specs.declared.Kind.TheVariants.{Repartition}
use Rattle.plan.specs.Numbers.{kind_of}
use Rattle.record_fields.specs.Kinds.{number_is, number_differs}
use Rattle.step_nodes.specs.Manners.{unmarked, one_child, mark_is}
use Rattle.step_nodes.specs.Laying.{shown, kind_byte_lem, kids_ok, child_asks, child_there, child_facts}
use Rattle.step_nodes.proofs.mark_counts.Goals as goal

pub bounds-r-0 : goal.bounds-r-0
bounds-r-0 c = let z = (shown c.args.m.now c.args.u c.args.i c.requires.0 c.requires.1).long in
    rw c.record_at-r.ensures (omega arith)

pub child-c-requires : goal.child-c-requires
child-c-requires c = let m = c.args.m.now in let i = c.args.i in let a = c.requires.0 in let l = c.requires.1 in
    let e = ap (λ n. eqb n 5) (kind_byte_lem m c.args.u i a l) ∙ sym (number_is (slot m i).rec Repartition
    (c.in-Repartition.ensures ∙ ap (λ r. kind_of (get_or r 0 0)) c.record_at-r.ensures)) in
    let x = one_child (slot m i).rec (kind_byte_lem m c.args.u i a l) e (length (slot m i).kids) (kids_ok m c.args.u i a l) in
    let y = (shown m c.args.u i a l).count in child_asks m c.args.u i a l 0 (omega arith)

pub preserves-requires : goal.preserves-requires
preserves-requires c = ap length c.record_at-r.ensures ∙ (shown c.args.m.now c.args.u c.args.i c.requires.0 c.requires.1).long

pub row-requires : goal.row-requires
row-requires c = let m = c.args.m.now in let u = c.args.u in let i = c.args.i in let a = c.requires.0 in let l = c.requires.1 in
    let e = ap (λ n. eqb n 5) (kind_byte_lem m u i a l) ∙ sym (number_is (slot m i).rec Repartition
    (c.in-Repartition.ensures ∙ ap (λ r. kind_of (get_or r 0 0)) c.record_at-r.ensures)) in
    let x = one_child (slot m i).rec (kind_byte_lem m u i a l) e (length (slot m i).kids) (kids_ok m u i a l) in
    let j = c.child-c.result in here m u j a (child_there m u i a l 0 (omega arith) j c.child-c.ensures)

pub returns-in-Repartition : goal.returns-in-Repartition
returns-in-Repartition c = let m = c.args.m.now in let u = c.args.u in let i = c.args.i in let a = c.requires.0 in let l = c.requires.1 in
    let e = ap (λ n. eqb n 5) (kind_byte_lem m u i a l) ∙ sym (number_is (slot m i).rec Repartition
    (c.in-Repartition.ensures ∙ ap (λ r. kind_of (get_or r 0 0)) c.record_at-r.ensures)) in
    let k = kind_byte_lem m u i a l in
    let x = one_child (slot m i).rec k e (length (slot m i).kids) (kids_ok m u i a l) in
    let p = c.preserves.result in
    let j = c.child-c.result in
    mark_is (slot m i).rec k e _ p c.counts.result (told c.row.result.now)
    (rw c.record_at-r.ensures at c.preserves.ensures)
    (child_facts m u i a l 0 (omega arith) j c.child-c.ensures _ c.row.ensures.1.is) c.counts.ensures

pub returns-in_default : goal.returns-in_default
returns-in_default c = let m = c.args.m.now in let u = c.args.u in let i = c.args.i in let a = c.requires.0 in let l = c.requires.1 in
    unmarked (slot m i).rec _ (kind_byte_lem m u i a l) (ap (λ n. eqb n 5) (kind_byte_lem m u i a l) ∙ sym (number_differs (slot m i).rec Repartition _
    (c.kind_of.ensures ∙ ap (λ r. kind_of (get_or r 0 0)) c.record_at-r.ensures) c.in_default.not-Repartition))
