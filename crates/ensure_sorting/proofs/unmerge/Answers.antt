use mathlib.Core.Path.{sym, ◌∙◌}
use Rattle.ensure_sorting.specs.Finishing.{end_proper, merge_some, merge_here, goes_grown, limit_puts, limit_grown}
use Rattle.ensure_sorting.proofs.unmerge.Goals as goal

pub fetch_field-fetch-requires : goal.fetch_field-fetch-requires
fetch_field-fetch-requires c = end_proper c.args.m.now c.args.u c.args.h c.args.r.now c.args.ks.now
    c.requires.0

pub bounds-ks-0 : goal.bounds-ks-0
bounds-ks-0 c = merge_some c.args.m.now c.args.u c.args.h c.args.r.now c.args.ks.now c.requires.0 c.requires.1

pub row-requires : goal.row-requires
row-requires c = merge_here c.args.m.now c.args.u c.args.h c.args.r.now c.args.ks.now c.requires.0 c.requires.1

pub keys-requires : goal.keys-requires
keys-requires c = end_proper c.args.m.now c.args.u c.args.h c.args.r.now c.args.ks.now c.requires.0

pub put-requires : goal.put-requires
put-requires c = limit_puts c.args.m.now c.args.u c.args.h c.args.r.now c.args.ks.now c.requires.0 c.requires.1 _
    c.fetch_field-fetch.ensures
    (sym c.is_some.ensures
    ∙ c.if-is_some.true) c.requires.2 _
    c.row.ensures.1 _ c.keys.ensures _
    c.normal_form-note.ensures _ c.local_limit_record-x.ensures

pub returns-then-is_some : goal.returns-then-is_some
returns-then-is_some c = limit_grown c.args.m.now c.args.u c.args.h c.args.r.now c.args.ks.now c.requires.0 c.requires.1 _
    c.fetch_field-fetch.ensures
    (sym c.is_some.ensures
    ∙ c.if-is_some.true) c.requires.2 _
    c.row.ensures.1 _
    c.keys.ensures _ c.normal_form-note.ensures _
    c.local_limit_record-x.ensures _ _ c.put.ensures

pub bounds-ks-0-2 : goal.bounds-ks-0-2
bounds-ks-0-2 c = merge_some c.args.m.now c.args.u c.args.h c.args.r.now c.args.ks.now c.requires.0 c.requires.1

pub returns : goal.returns
returns c = goes_grown c.args.m.now c.args.u c.args.h c.args.r.now c.args.ks.now c.requires.0 c.requires.1 _
    c.fetch_field-fetch.ensures (sym c.is_some.ensures ∙ c.if-is_some.false)
