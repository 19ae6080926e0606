use mathlib.Core.Path.{refl, ap, ◌∙◌}
use Rattle.scan.specs.ByteLaws.{cut}
use Rattle.record_fields.specs.Fields.{packed_keys}
use Rattle.source_rows.specs.Declared.{source_disordered, source_ordered, keys_count, fits_as}
use Rattle.std.specs.Prelude.{not}
use Rattle.source_rows.proofs.source_kept.Goals as goal

pub slice_bounds-source_in_order-end : goal.slice_bounds-source_in_order-end
slice_bounds-source_in_order-end c = keys_count c.args.plan.now c.args.j c.record_start-a.result c.byte_of-m.result c.packed_keys-keys.result c.requires.proper c.record_start-a.ensures c.byte_of-m.ensures c.requires.inside c.packed_keys-keys.ensures

pub source_in_order-requires : goal.source_in_order-requires
source_in_order-requires c = fits_as c.args.plan.now c.args.j c.args.rows.now c.args.at _ _ c.requires c.streams_of-k.ensures c.byte_of-w.ensures

pub returns-then-not-source_in_order : goal.returns-then-not-source_in_order
returns-then-not-source_in_order c = source_disordered c.args.plan.now c.args.rows.now c.args.j c.args.at _ _ _ _ _ _ c.requires.proper c.record_start-a.ensures c.streams_of-k.ensures c.byte_of-w.ensures c.byte_of-m.ensures (c.packed_keys-keys.ensures ∙ ap packed_keys (cut c.args.plan.now c.record_start-a.result 64)) _ c.source_in_order.ensures (ap not c.if-not-source_in_order.true) refl

pub constants_fit-requires : goal.constants_fit-requires
constants_fit-requires c = fits_as c.args.plan.now c.args.j c.args.rows.now c.args.at _ _ c.requires c.streams_of-k.ensures c.byte_of-w.ensures

pub returns : goal.returns
returns c = source_ordered c.args.plan.now c.args.rows.now c.args.j c.args.at _ _ _ _ _ _ c.requires.proper c.record_start-a.ensures c.streams_of-k.ensures c.byte_of-w.ensures c.byte_of-m.ensures (c.packed_keys-keys.ensures ∙ ap packed_keys (cut c.args.plan.now c.record_start-a.result 64)) _ _ c.source_in_order.ensures (ap not c.if-not-source_in_order.false) c.get32-constants.ensures c.constants_fit.ensures
