use mathlib.Core.Path.{sym, ap, ap₂, ◌∙◌, subst}
use lib.Dec.{eqb}
use Rattle.plan.specs.Numbers.{code}
use Rattle.plan_codec.specs.Decode.{decode}
use Rattle.record_fields.specs.Proper.{Proper}
use mathlib.Core.Bool.{not, ◌&&◌, ◌||◌}
use Rattle.semantics.specs.Facts.{is_nil, known_order}
use Rattle.order_preservation_marks.specs.Nodes.{slot_proper, child_asks, kid_here, kid_facts}
use Rattle.order_preservation_marks.proofs.marking.initiates.Goals as goal

pub child-k-requires : goal.child-k-requires
child-k-requires c = let m = c.args.m.now in let i = c.args.i in let a = c.requires.0 in child_asks m i a 0 c.requires.1

pub is_repartition-requires : goal.is_repartition-requires
is_repartition-requires c = let m = c.args.m.now in let i = c.args.i in let a = c.requires.0 in
    subst Proper (sym c.record_at-r.ensures) (slot_proper m i a)

pub is_coalesce_partitions-requires : goal.is_coalesce_partitions-requires
is_coalesce_partitions-requires c = let m = c.args.m.now in let i = c.args.i in
    let a = c.requires.0 in subst Proper (sym c.record_at-r.ensures) (slot_proper m i a)

pub row-requires : goal.row-requires
row-requires c = let m = c.args.m.now in let i = c.args.i in let a = c.requires.0 in
    kid_here m i a 0 c.requires.1 _ c.child-k.ensures

pub returns : goal.returns
returns c = let m = c.args.m.now in let i = c.args.i in
    let a = c.requires.0 in ap₂ ◌||◌
    (ap₂ (λ x y. x && not y) (c.is_repartition.ensures ∙ ap (λ x. eqb (code (decode x)) 5)
    c.record_at-r.ensures) c.maintains_input_order.ensures)
    (ap₂ ◌&&◌ (c.is_coalesce_partitions.ensures ∙ ap (λ x. eqb (code (decode x)) 6)
    c.record_at-r.ensures)
    (c.is_ordered.ensures ∙ ap (λ F. not (is_nil (known_order F)))
    (c.row.ensures.1.is ∙ kid_facts m i a 0 c.requires.1 _ c.child-k.ensures)))
