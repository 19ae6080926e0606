use native.Mathlib.Omega.{arith}
use mathlib.Core.Path.{sym, ◌∙◌}
use Rattle.scan.specs.Below.{and_left, and_right}
use Rattle.replace_with_order_preserving_variants.specs.Step.{few, step_updating, step_proper, counted, step_puts, step_hint, step_sorting, step_sort, step_other}
use Rattle.replace_with_order_preserving_variants.proofs.replace_with_order_preserving_variants.Goals as goal

pub update_order_preservation_ctx_children_data-c-requires : goal.update_order_preservation_ctx_children_data-c-requires
update_order_preservation_ctx_children_data-c-requires c = let m = c.args.m.now in let u = c.args.u in
    let r = c.args.r.now in let ks = c.args.ks.now in let i = c.args.i in let p = c.requires in step_updating m u r ks i p

pub is_sort-requires : goal.is_sort-requires
is_sort-requires c = let m = c.args.m.now in let u = c.args.u in
    let r = c.args.r.now in let ks = c.args.ks.now in let i = c.args.i in let p = c.requires in step_proper m u r ks i p

pub replace_sort-requires : goal.replace_sort-requires
replace_sort-requires c = let m = c.args.m.now in let u = c.args.u in let r = c.args.r.now in let ks = c.args.ks.now in let i = c.args.i in let p = c.requires in
    step_sorting m u r ks i p c.args.s _ _ _
    c.update_order_preservation_ctx_children_data-c.ensures
    (sym c.is_sort.ensures ∙ and_left _ _ c.if-is_sort-is_marked.true)
    (sym c.is_marked.ensures ∙ and_right c.is_sort.result _ c.if-is_sort-is_marked.true)

pub returns-then-is_sort-is_marked : goal.returns-then-is_sort-is_marked
returns-then-is_sort-is_marked c = let m = c.args.m.now in let u = c.args.u in let r = c.args.r.now in let ks = c.args.ks.now in let i = c.args.i in let p = c.requires in
    step_sort m u r ks i p c.args.s _ _ _
    c.update_order_preservation_ctx_children_data-c.ensures
    (sym c.is_sort.ensures ∙ and_left _ _ c.if-is_sort-is_marked.true) _
    c.replace_sort.result c.replace_sort.ensures

pub slice_bounds-kids-end : goal.slice_bounds-kids-end
slice_bounds-kids-end c = let m = c.args.m.now in let u = c.args.u in let r = c.args.r.now in let ks = c.args.ks.now in let i = c.args.i in let p = c.requires in
    let f = few m u r ks i p in let z =
    c.update_order_preservation_ctx_children_data-c.ensures.made.wide in omega arith

pub slice_bounds-put_again-end : goal.slice_bounds-put_again-end
slice_bounds-put_again-end c = let m = c.args.m.now in let u = c.args.u in let r = c.args.r.now in let ks = c.args.ks.now in let i = c.args.i in let p = c.requires in
    sym (counted m u r ks i p c.args.s _ _ _
    c.update_order_preservation_ctx_children_data-c.ensures)

pub put_again-requires : goal.put_again-requires
put_again-requires c = let m = c.args.m.now in let u = c.args.u in let r = c.args.r.now in let ks = c.args.ks.now in let i = c.args.i in let p = c.requires in (
  step_puts m u r ks i p c.args.s _ _ _
      c.update_order_preservation_ctx_children_data-c.ensures,
  step_hint m u r ks i p
      c.args.s _ _ _ c.update_order_preservation_ctx_children_data-c.ensures,
)

pub returns : goal.returns
returns c = let m = c.args.m.now in let u = c.args.u in let r = c.args.r.now in let ks = c.args.ks.now in let i = c.args.i in let p = c.requires in
    step_other m u r ks i p c.args.s _ _ _
    c.update_order_preservation_ctx_children_data-c.ensures _ _
    c.is_sort.ensures c.is_marked.ensures
    c.if-is_sort-is_marked.false _ c.put_again.result c.put_again.ensures
