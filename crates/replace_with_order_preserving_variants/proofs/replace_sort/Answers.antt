use Rattle.plan_context.specs.Laws.{here}
use Rattle.replace_with_order_preserving_variants.specs.Step.{sort_order, sorting, sorting_asks, accept_asks, sort_gone, stay_puts, sort_stays}
use Rattle.replace_with_order_preserving_variants.proofs.replace_sort.Goals as goal

pub use_order_preserving_variant-better-requires : goal.use_order_preserving_variant-better-requires
use_order_preserving_variant-better-requires c = let m = c.args.m.now in let u = c.args.u in
    let r = c.args.r.now in let h = c.args.h in let i = c.args.i in let p = c.requires in sorting m u r h i p

pub row-requires : goal.row-requires
row-requires c = let m = c.args.m.now in let u = c.args.u in let r = c.args.r.now in
    let h = c.args.h in let i = c.args.i in let p = c.requires in (sorting m u r h i p).here

pub keys-requires : goal.keys-requires
keys-requires c = let m = c.args.m.now in let u = c.args.u in
    let r = c.args.r.now in let h = c.args.h in let i = c.args.i in let p = c.requires in (sorting m u r h i p).proper

pub fetch-requires : goal.fetch-requires
fetch-requires c = let m = c.args.m.now in
    let u = c.args.u in let r = c.args.r.now in let h = c.args.h in let i = c.args.i in let p = c.requires in (sorting m u r h i p).proper

pub plan_with_order_preserving_variants-a-requires : goal.plan_with_order_preserving_variants-a-requires
plan_with_order_preserving_variants-a-requires c = let m = c.args.m.now in let u = c.args.u in
    let r = c.args.r.now in let h = c.args.h in let i = c.args.i in let p = c.requires in sorting_asks m u r h i p c.args.s _ c.fetch.ensures

pub row-requires-2 : goal.row-requires-2
row-requires-2 c = let g = c.plan_with_order_preserving_variants-a.ensures in here _ _ _ g.arena g.here

pub accept-requires : goal.accept-requires
accept-requires c = let m = c.args.m.now in let u = c.args.u in let r = c.args.r.now in let h = c.args.h in let i = c.args.i in
    let p = c.requires in accept_asks m u r h i p c.args.s _ c.fetch.ensures _
    c.use_order_preserving_variant-better.ensures _ c.plan_with_order_preserving_variants-a.auto.m
    c.plan_with_order_preserving_variants-a.result
    c.plan_with_order_preserving_variants-a.ensures _
    c.row-2.ensures.1
    c.normal_form-order.result
    (sort_order m r h (sorting m u r h i p) _
    c.row.ensures.1 _
    c.keys.ensures _
    c.normal_form-order.ensures) _
    c.meets.ensures

pub returns-then-meets : goal.returns-then-meets
returns-then-meets c = let m = c.args.m.now in let u = c.args.u in let r = c.args.r.now in
    let h = c.args.h in let i = c.args.i in let p = c.requires in
    sort_gone m u r h i p c.args.s _ c.fetch.ensures _
    c.use_order_preserving_variant-better.ensures _
    c.plan_with_order_preserving_variants-a.auto.m
    c.plan_with_order_preserving_variants-a.result
    c.plan_with_order_preserving_variants-a.ensures _
    c.row-2.ensures.1
    c.normal_form-order.result
    (sort_order m r h (sorting m u r h i p) _
    c.row.ensures.1 _ c.keys.ensures
    _ c.normal_form-order.ensures) _
    c.meets.ensures c.if-meets.true _ c.accept.result
    c.accept.ensures

pub put_again-requires : goal.put_again-requires
put_again-requires c = let m = c.args.m.now in let u = c.args.u in let r = c.args.r.now in let h = c.args.h in let i = c.args.i in
    let p = c.requires in (
      stay_puts m u r h i p c.args.s _ c.fetch.ensures _
          c.use_order_preserving_variant-better.ensures _
          c.plan_with_order_preserving_variants-a.auto.m
          c.plan_with_order_preserving_variants-a.result
          c.plan_with_order_preserving_variants-a.ensures _
          c.row-2.ensures.1
          c.normal_form-order.result
          (sort_order m r h (sorting m u r h i p) _
          c.row.ensures.1 _
          c.keys.ensures _
          c.normal_form-order.ensures) _
          c.meets.ensures,
      p.hint,
    )

pub returns : goal.returns
returns c = let m = c.args.m.now in let u = c.args.u in let r = c.args.r.now in
    let h = c.args.h in let i = c.args.i in let p = c.requires in
    sort_stays m u r h i p c.args.s _
    c.fetch.ensures _
    c.use_order_preserving_variant-better.ensures _
    c.plan_with_order_preserving_variants-a.auto.m
    c.plan_with_order_preserving_variants-a.result
    c.plan_with_order_preserving_variants-a.ensures _
    c.row-2.ensures.1
    c.normal_form-order.result
    (sort_order m r h (sorting m u r h i p) _
    c.row.ensures.1 _ c.keys.ensures _ c.normal_form-order.ensures) _ c.meets.ensures
    c.if-meets.false _ c.put_again.result c.put_again.ensures
