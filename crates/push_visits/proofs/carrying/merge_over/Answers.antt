use mathlib.Core.Path.{refl}
use mathlib.Core.List.{List}
use Rattle.row_order.specs.Iso.{Key}
use Rattle.plan.specs.Op.{merge_op}
use Rattle.key_lists.specs.Keys.{keys_of}
use Rattle.walks.specs.Utils.{new_merge}
use Rattle.push_visits.specs.Carrying.{top_none, top_puts, top_grown, top_few, merge_is}
use Rattle.push_visits.proofs.carrying.merge_over.Goals as goal

pub returns-in_default : goal.returns-in_default
returns-in_default c = let b = c.args.b.now in let u = c.args.u in let h = c.args.h in let o = c.args.order in
    top_none b u h o _ (λ (l : List Key). new_merge l c.args.fetch) c.requires c.in_default.is refl refl

pub merge_record-r-requires : goal.merge_record-r-requires
merge_record-r-requires c = top_few c.args.order _ c.requires.real c.in-Some.is

pub put_over-requires : goal.put_over-requires
put_over-requires c = let b = c.args.b.now in let u = c.args.u in
    let h = c.args.h in let o = c.args.order in
    top_puts b u h o _ c.requires (merge_op (keys_of c.in-Some.k) c.args.fetch)
    (merge_is o _ c.requires.real c.in-Some.is c.args.fetch) _ c.merge_record-r.ensures

pub returns : goal.returns
returns c = let b = c.args.b.now in let u = c.args.u in
    let h = c.args.h in let o = c.args.order in
    top_grown b u h o _ c.requires (merge_op (keys_of c.in-Some.k) c.args.fetch)
    (merge_is o _ c.requires.real c.in-Some.is c.args.fetch) _
    c.merge_record-r.ensures _ c.put_over.result c.put_over.ensures
