use mathlib.Core.Path.{sym, ap, ◌∙◌}
use mathlib.Core.Bool.{cond}
use lib.ListN.{length}
use Rattle.plan.specs.Op.{merge_op, global_limit, local_limit}
use Rattle.key_lists.specs.Keys.{keys_of}
use Rattle.sort_connection.specs.Standing.{view, slot_room, is_here, own_proper, kid_asks}
use Rattle.immediate_sort_removal.specs.Immediate.{standing, sort_some, sort_kid, sort-small, place_puts, place_grown, merge_is, goes_asks, goes_grown, limit_is}
use Rattle.immediate_sort_removal.proofs.analyze_immediate_sort_removal.analyze_immediate_sort_removal.Goals as goal

pub record_at-requires : goal.record_at-requires
record_at-requires c = slot_room c.args.m.now c.args.u c.args.h (standing c.args.m.now c.args.u c.args.h c.requires)

pub read64-r-requires : goal.read64-r-requires
read64-r-requires c = ap length c.record_at.ensures ∙ (view c.args.m.now c.args.u c.args.h
    (standing c.args.m.now c.args.u c.args.h c.requires)).long

pub child-k-requires : goal.child-k-requires
child-k-requires c = kid_asks c.args.m.now c.args.u c.args.h (standing c.args.m.now c.args.u c.args.h c.requires) 0
    (sort_some c.args.m.now c.args.u c.args.h c.requires)

pub keys-own_keys-requires : goal.keys-own_keys-requires
keys-own_keys-requires c = own_proper c.args.m.now c.args.u c.args.h (standing c.args.m.now c.args.u c.args.h c.requires) _
    (c.read64-r.ensures ∙ c.record_at.ensures)

pub fetch_field-fetch-requires : goal.fetch_field-fetch-requires
fetch_field-fetch-requires c = own_proper c.args.m.now c.args.u c.args.h (standing c.args.m.now c.args.u c.args.h c.requires) _
    (c.read64-r.ensures ∙ c.record_at.ensures)

pub preserve_mark-preserve-requires : goal.preserve_mark-preserve-requires
preserve_mark-preserve-requires c = own_proper c.args.m.now c.args.u c.args.h (standing c.args.m.now c.args.u c.args.h c.requires) _
    (c.read64-r.ensures
    ∙ c.record_at.ensures)

pub row-below-requires : goal.row-below-requires
row-below-requires c = is_here c.args.m.now c.args.u _
    (sort_kid c.args.m.now c.args.u c.args.h c.requires _ c.child-k.ensures)

pub set_mark-bare-requires : goal.set_mark-bare-requires
set_mark-bare-requires c = sort-small c.args.m.now c.args.u c.args.h c.requires _
    c.child-k.ensures

pub put_over-requires : goal.put_over-requires
put_over-requires c = place_puts c.args.m.now c.args.u c.args.h c.requires _
    c.child-k.ensures
    (merge_op (keys_of c.keys-own_keys.result)
    c.fetch_field-fetch.result)
    (merge_is c.args.m.now c.args.u c.args.h c.requires _
    c.child-k.ensures _
    c.row-below.ensures.1 _
    c.several_streams-several.ensures _
    (c.read64-r.ensures ∙ c.record_at.ensures) _ c.preserve_mark-preserve.ensures _
    c.fetch_field-fetch.ensures _
    c.keys-own_keys.ensures
    c.if-preserve-several.true) _ c.set_mark-bare.ensures _ c.merge_record-x.ensures

pub returns-then-preserve-several : goal.returns-then-preserve-several
returns-then-preserve-several c = place_grown c.args.m.now c.args.u c.args.h c.requires _
    c.child-k.ensures (merge_op (keys_of
    c.keys-own_keys.result)
    c.fetch_field-fetch.result)
    (merge_is c.args.m.now c.args.u c.args.h c.requires _
    c.child-k.ensures _ c.row-below.ensures.1 _
    c.several_streams-several.ensures _
    (c.read64-r.ensures
    ∙ c.record_at.ensures) _
    c.preserve_mark-preserve.ensures _
    c.fetch_field-fetch.ensures _
    c.keys-own_keys.ensures
    c.if-preserve-several.true) _ c.set_mark-bare.ensures _
    c.merge_record-x.ensures _ _ c.put_over.ensures

pub row-requires : goal.row-requires
row-requires c = is_here c.args.m.now c.args.u c.args.h (standing c.args.m.now c.args.u c.args.h c.requires)

pub put_over-requires-then-is_some : goal.put_over-requires-then-is_some
put_over-requires-then-is_some c = place_puts c.args.m.now c.args.u c.args.h c.requires _
    c.child-k.ensures
    (cond c.one_stream-single.result
    (global_limit 0 c.fetch_field-fetch.result (keys_of c.normal_form-note.result))
    (local_limit c.fetch_field-fetch.result (keys_of c.normal_form-note.result)))
    (limit_is c.args.m.now c.args.u c.args.h c.requires _
    c.child-k.ensures _ c.row-below.ensures.1
    _ c.several_streams-several.ensures _
    (c.read64-r.ensures
    ∙ c.record_at.ensures) _
    c.preserve_mark-preserve.ensures _
    c.fetch_field-fetch.ensures _ c.keys-own_keys.ensures c.if-preserve-several.false
    (sym c.is_some.ensures ∙ c.if-is_some.true) _
    c.row.ensures.1 _ c.one_stream-single.ensures _
    c.normal_form-note.ensures) _
    c.set_mark-bare.ensures _ c.limit_record-x.ensures

pub returns-then-is_some : goal.returns-then-is_some
returns-then-is_some c = place_grown c.args.m.now c.args.u c.args.h c.requires _
    c.child-k.ensures (cond c.one_stream-single.result
    (global_limit 0 c.fetch_field-fetch.result
    (keys_of c.normal_form-note.result))
    (local_limit c.fetch_field-fetch.result
    (keys_of c.normal_form-note.result)))
    (limit_is c.args.m.now c.args.u c.args.h c.requires _
    c.child-k.ensures _
    c.row-below.ensures.1 _
    c.several_streams-several.ensures _
    (c.read64-r.ensures
    ∙ c.record_at.ensures) _
    c.preserve_mark-preserve.ensures _ c.fetch_field-fetch.ensures _
    c.keys-own_keys.ensures c.if-preserve-several.false
    (sym c.is_some.ensures
    ∙ c.if-is_some.true) _
    c.row.ensures.1 _ c.one_stream-single.ensures
    _ c.normal_form-note.ensures) _
    c.set_mark-bare.ensures _
    c.limit_record-x.ensures _ _ c.put_over-then-is_some.ensures

pub unmark_children-requires : goal.unmark_children-requires
unmark_children-requires c = goes_asks c.args.m.now c.args.u c.args.h c.requires _
    c.child-k.ensures _
    c.row-below.ensures.1 _
    c.several_streams-several.ensures _
    (c.read64-r.ensures ∙ c.record_at.ensures) _ c.preserve_mark-preserve.ensures _
    c.fetch_field-fetch.ensures _
    c.keys-own_keys.ensures
    c.if-preserve-several.false

pub returns : goal.returns
returns c = goes_grown c.args.m.now c.args.u c.args.h c.requires _
    c.child-k.ensures _ c.row-below.ensures.1 _
    c.several_streams-several.ensures _
    (c.read64-r.ensures
    ∙ c.record_at.ensures) _
    c.preserve_mark-preserve.ensures _
    c.fetch_field-fetch.ensures _
    c.keys-own_keys.ensures
    c.if-preserve-several.false (sym c.is_some.ensures
    ∙ c.if-is_some.false) _ _ c.unmark_children.ensures
