use mathlib.Core.Path.{ap, ◌∙◌}
use lib.ListN.{length}
use Rattle.sort_connection.specs.Standing.{view, slot_room, own_proper, kid_asks}
use Rattle.partial_sort_by_number.specs.ByNumber.{standing, partial_some, partial_puts, partial_became}
use Rattle.partial_sort_by_number.proofs.put_partial.Goals as goal

pub record_at-requires : goal.record_at-requires
record_at-requires c = slot_room c.args.m.now c.args.u c.args.h (standing c.args.m.now c.args.u c.args.h c.requires.0)

pub read64-r-requires : goal.read64-r-requires
read64-r-requires c = ap length c.record_at.ensures ∙ (view c.args.m.now c.args.u c.args.h
    (standing c.args.m.now c.args.u c.args.h c.requires.0)).long

pub child-k-requires : goal.child-k-requires
child-k-requires c = kid_asks c.args.m.now c.args.u c.args.h (standing c.args.m.now c.args.u c.args.h c.requires.0) 0
    (partial_some c.args.m.now c.args.u c.args.h c.requires.0 c.args.n c.requires.1 c.requires.2 c.requires.3)

pub preserve_mark-requires : goal.preserve_mark-requires
preserve_mark-requires c = own_proper c.args.m.now c.args.u c.args.h (standing c.args.m.now c.args.u c.args.h c.requires.0) _
    (c.read64-r.ensures ∙ c.record_at.ensures)

pub keys-requires : goal.keys-requires
keys-requires c = own_proper c.args.m.now c.args.u c.args.h (standing c.args.m.now c.args.u c.args.h c.requires.0) _
    (c.read64-r.ensures ∙ c.record_at.ensures)

pub fetch_field-requires : goal.fetch_field-requires
fetch_field-requires c = own_proper c.args.m.now c.args.u c.args.h (standing c.args.m.now c.args.u c.args.h c.requires.0) _
    (c.read64-r.ensures
    ∙ c.record_at.ensures)

pub put_over-requires : goal.put_over-requires
put_over-requires c = partial_puts c.args.m.now c.args.u c.args.h c.requires.0 c.args.n c.requires.1 c.requires.2 c.requires.3 _
    (c.read64-r.ensures
    ∙ c.record_at.ensures) _
    c.child-k.ensures _
    c.preserve_mark.ensures _ c.keys.ensures _
    c.fetch_field.ensures _ c.partial_sort_record-x.ensures

pub returns : goal.returns
returns c = partial_became c.args.m.now c.args.u c.args.h c.requires.0 c.args.n c.requires.1 c.requires.2 c.requires.3 _
    (c.read64-r.ensures
    ∙ c.record_at.ensures) _
    c.child-k.ensures _
    c.preserve_mark.ensures _
    c.keys.ensures _
    c.fetch_field.ensures _ c.partial_sort_record-x.ensures _
    _ c.put_over.ensures
