use mathlib.Core.Path.{sym, ap, ap₂, ◌∙◌, subst}
use lib.Dec.{eqb}
use Rattle.plan.specs.Numbers.{code}
use Rattle.plan_codec.specs.Decode.{decode}
use Rattle.record_fields.specs.Proper.{Proper}
use mathlib.Core.Bool.{◌||◌}
use Rattle.order_preservation_marks.specs.Nodes.{slot_proper}
use Rattle.order_preservation_marks.proofs.marking.inspect_child.Goals as goal

pub is_coalesce_partitions-requires : goal.is_coalesce_partitions-requires
is_coalesce_partitions-requires c = let m = c.args.m.now in let i = c.args.i in let a = c.requires.0 in
    subst Proper (sym c.record_at-r.ensures) (slot_proper m i a)

pub is_repartition-requires : goal.is_repartition-requires
is_repartition-requires c = let m = c.args.m.now in let i = c.args.i in let a = c.requires.0 in
    subst Proper (sym c.record_at-r.ensures) (slot_proper m i a)

pub returns : goal.returns
returns c = ap₂ ◌||◌ c.maintains_input_order.ensures
    (ap₂ ◌||◌ (c.is_coalesce_partitions.ensures ∙ ap (λ x. eqb (code (decode x)) 6) c.record_at-r.ensures)
    (c.is_repartition.ensures ∙ ap (λ x. eqb (code (decode x)) 5) c.record_at-r.ensures))
