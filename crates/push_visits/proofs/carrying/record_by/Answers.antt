use mathlib.Core.Path.{ap, ◌∙◌, subst⁻¹}
use lib.ListN.{length}
use Rattle.record_fields.specs.Proper.{Proper}
use Rattle.push_visits.specs.Visiting.{shown, proper_at}
use Rattle.push_visits.specs.Carrying.{record_rebuilt, record_kept}
use Rattle.push_visits.proofs.carrying.record_by.Goals as goal

pub preserve_mark-requires : goal.preserve_mark-requires
preserve_mark-requires c = let a = c.args.a.now in let ua = c.args.ua in let i = c.args.i in
    let g = c.requires.0 in let l = c.requires.1 in subst⁻¹ Proper c.record_at-r.ensures (proper_at a ua i g l)

pub with_mark-requires : goal.with_mark-requires
with_mark-requires c = let a = c.args.a.now in let ua = c.args.ua in
    let i = c.args.i in let g = c.requires.0 in let l = c.requires.1 in ap length c.record_at-r.ensures
    ∙ (shown a ua i g l).long

pub returns-then-rebuilds : goal.returns-then-rebuilds
returns-then-rebuilds c = let a = c.args.a.now in let ua = c.args.ua in let i = c.args.i in
    let g = c.requires.0 in let l = c.requires.1 in
    record_rebuilt a ua i g l _ _ c.child_row.ensures c.record_at-r.ensures _
    c.if-rebuilds.true c.preserve_mark.result c.counts-p.result
    c.preserve_mark.ensures c.counts-p.ensures _ c.with_mark.ensures

pub read64-requires : goal.read64-requires
read64-requires c = let a = c.args.a.now in let ua = c.args.ua in let i = c.args.i in let g = c.requires.0 in
    let l = c.requires.1 in ap length c.record_at-r.ensures ∙ (shown a ua i g l).long

pub returns : goal.returns
returns c = let a = c.args.a.now in let ua = c.args.ua in let i = c.args.i in let g = c.requires.0 in
    let l = c.requires.1 in record_kept a ua i g l _ c.record_at-r.ensures _ c.if-rebuilds.false _ c.read64.ensures
