use mathlib.Core.Path.{refl}
use mathlib.Core.List.{List}
use Rattle.row_order.specs.Iso.{Key}
use Rattle.plan.specs.Op.{sort_op}
use Rattle.key_lists.specs.Keys.{keys_of}
use Rattle.walks.specs.Utils.{new_sort}
use Rattle.push_visits.specs.Carrying.{top_none, top_puts, top_grown, top_few, sort_is}
use Rattle.push_visits.proofs.carrying.sort_over.Goals as goal

pub returns-in_default : goal.returns-in_default
returns-in_default c = let b = c.args.b.now in let u = c.args.u in let h = c.args.h in let o = c.args.order in
    top_none b u h o _ (λ (l : List Key). new_sort c.args.preserve l c.args.fetch) c.requires c.in_default.is refl refl

pub sort_record-r-requires : goal.sort_record-r-requires
sort_record-r-requires c = top_few c.args.order _ c.requires.real c.in-Some.is

pub put_over-requires : goal.put_over-requires
put_over-requires c = let b = c.args.b.now in let u = c.args.u in
    let h = c.args.h in let o = c.args.order in
    top_puts b u h o _ c.requires (sort_op c.args.preserve (keys_of c.in-Some.k) c.args.fetch)
    (sort_is o _ c.requires.real c.in-Some.is c.args.preserve c.args.fetch) _
    c.sort_record-r.ensures

pub returns : goal.returns
returns c = let b = c.args.b.now in let u = c.args.u in
    let h = c.args.h in let o = c.args.order in
    top_grown b u h o _ c.requires (sort_op c.args.preserve (keys_of c.in-Some.k)
    c.args.fetch) (sort_is o _ c.requires.real c.in-Some.is c.args.preserve
    c.args.fetch) _ c.sort_record-r.ensures _ c.put_over.result
    c.put_over.ensures
