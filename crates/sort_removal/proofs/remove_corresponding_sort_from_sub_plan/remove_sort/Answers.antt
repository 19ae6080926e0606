use mathlib.Core.Path.{sym, ap, ◌∙◌}
use Rattle.plan.specs.Numbers.{code}
use Rattle.std.specs.Prelude.{is_some}
use Rattle.plan_codec.specs.Decode.{decode, from_bytes}
use Rattle.sort_connection.specs.Standing.{own_proper, kid_asks}
use Rattle.sort_removal.specs.Recursion.{standing, stays_asks, stays_grown, sort_some, goes_asks, goes_grown}
use Rattle.sort_removal.proofs.remove_corresponding_sort_from_sub_plan.remove_sort.Goals as goal

pub fetch_field-requires : goal.fetch_field-requires
fetch_field-requires c = own_proper c.args.m.now c.args.u c.args.h (standing c.args.m.now c.args.u c.args.h c.requires.0) _ c.requires.2

pub with_single_stream-requires : goal.with_single_stream-requires
with_single_stream-requires c = stays_asks c.args.m.now c.args.u c.args.h c.requires.0 c.args.single c.requires.1
    (sym (ap (λ y. code (decode y)) c.requires.2) ∙ c.requires.3) (ap (λ y. is_some (from_bytes y).fetch) (sym c.requires.2)
    ∙ sym (c.is_some.ensures ∙ ap is_some c.fetch_field.ensures) ∙ c.if-is_some.true)

pub returns-then-is_some : goal.returns-then-is_some
returns-then-is_some c = stays_grown c.args.m.now c.args.u c.args.h c.requires.0 c.args.single c.requires.1
    (sym (ap (λ y. code (decode y)) c.requires.2) ∙ c.requires.3) (ap (λ y. is_some (from_bytes y).fetch) (sym c.requires.2)
    ∙ sym (c.is_some.ensures
    ∙ ap is_some c.fetch_field.ensures) ∙ c.if-is_some.true) _ _
    c.with_single_stream.ensures

pub child-k-requires : goal.child-k-requires
child-k-requires c = kid_asks c.args.m.now c.args.u c.args.h (standing c.args.m.now c.args.u c.args.h c.requires.0) 0
    (sort_some c.args.m.now c.args.u c.args.h c.requires.0 c.args.single c.requires.1
    (sym (ap (λ y. code (decode y)) c.requires.2) ∙ c.requires.3))

pub with_single_stream-requires-2 : goal.with_single_stream-requires-2
with_single_stream-requires-2 c = goes_asks c.args.m.now c.args.u c.args.h c.requires.0 c.args.single c.requires.1
    (sym (ap (λ y. code (decode y)) c.requires.2) ∙ c.requires.3) (ap (λ y. is_some (from_bytes y).fetch) (sym c.requires.2)
    ∙ sym (c.is_some.ensures ∙ ap is_some c.fetch_field.ensures)
    ∙ c.if-is_some.false) _ c.child-k.ensures

pub returns : goal.returns
returns c = goes_grown c.args.m.now c.args.u c.args.h c.requires.0 c.args.single c.requires.1
    (sym (ap (λ y. code (decode y)) c.requires.2) ∙ c.requires.3) (ap (λ y. is_some (from_bytes y).fetch) (sym c.requires.2)
    ∙ sym (c.is_some.ensures
    ∙ ap is_some c.fetch_field.ensures)
    ∙ c.if-is_some.false) _ c.child-k.ensures _ _
    c.with_single_stream-2.ensures
