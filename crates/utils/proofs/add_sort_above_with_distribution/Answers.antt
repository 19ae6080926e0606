use mathlib.Core.Path.{sym, ap₂, ◌∙◌}
use Rattle.key_lists.specs.Keys.{keys_of}
use Rattle.plan_context.specs.Laws.{here}
use Rattle.utils.specs.Sorting.{few_keys, under_less, gathered_not, gathered_puts, gathered_grown}
use mathlib.Core.Bool.{◌&&◌}
use Rattle.scan.specs.Below.{and_left, and_right}
use borrow.Author.Tests.{ltb-true, lt-ltb}
use Rattle.row_order.proofs.Order.{no_bool}
use Rattle.utils.proofs.add_sort_above_with_distribution.Goals as goal

pub row-own-requires : goal.row-own-requires
row-own-requires c = let m = c.args.m.now in let u = c.args.u in let h = c.args.h in let p = c.requires.0 in
    here m u h p.arena p.here

pub fresh_keys-fresh-requires : goal.fresh_keys-fresh-requires
fresh_keys-fresh-requires c = let f = c.args.fetch in let q = c.requires.1 in
    record { fact_row = c.row-own.ensures.1.row; len_bound = few_keys _ c.args.keys f q }

pub add_sort_above-s-requires : goal.add_sort_above-s-requires
add_sort_above-s-requires c = let m = c.args.m.now in let u = c.args.u in
    let h = c.args.h in let p = c.requires.0 in let q = c.requires.1 in (under_less m u h p, q)

pub put_over-requires : goal.put_over-requires
put_over-requires c = let m = c.args.m.now in
    let u = c.args.u in let h = c.args.h in let ks = keys_of c.args.keys in let f = c.args.fetch in let p = c.requires.0 in let q = c.requires.1 in
    gathered_puts m u h ks f c.args.d p q _
    c.row-own.ensures.1
    c.fresh_keys-fresh.result
    c.fresh_keys-fresh.ensures _
    c.add_sort_above-s.auto.m
    c.add_sort_above-s.result
    c.add_sort_above-s.ensures _
    (ap₂ ◌&&◌ c.several_streams.ensures
    c.is_single.ensures)
    (ltb-true 0 _ (and_right (c.several_streams.result
    && c.is_single.result) _ c.if-gathers-fresh.true)) _
    c.merge_record-r.ensures

pub returns-then-gathers-fresh : goal.returns-then-gathers-fresh
returns-then-gathers-fresh c = let m = c.args.m.now in let u = c.args.u in let h = c.args.h in let ks = keys_of c.args.keys in let f = c.args.fetch in
    let p = c.requires.0 in let q = c.requires.1 in
    gathered_grown m u h ks f c.args.d p q _
    c.row-own.ensures.1
    c.fresh_keys-fresh.result
    c.fresh_keys-fresh.ensures _
    c.add_sort_above-s.auto.m
    c.add_sort_above-s.result
    c.add_sort_above-s.ensures _
    (ap₂ ◌&&◌ c.several_streams.ensures
    c.is_single.ensures)
    (ltb-true 0 _ (and_right (c.several_streams.result && c.is_single.result) _
    c.if-gathers-fresh.true)) _ c.merge_record-r.ensures
    (and_left (c.several_streams.result
    && c.is_single.result) _
    c.if-gathers-fresh.true) _ c.put_over.result c.put_over.ensures

pub returns : goal.returns
returns c = let m = c.args.m.now in
    let u = c.args.u in let h = c.args.h in let ks = keys_of c.args.keys in let f = c.args.fetch in let p = c.requires.0 in let q = c.requires.1 in
    gathered_not m u h ks f c.args.d p q _ c.row-own.ensures.1
    c.fresh_keys-fresh.result
    c.fresh_keys-fresh.ensures _ c.add_sort_above-s.auto.m
    c.add_sort_above-s.result c.add_sort_above-s.ensures _
    (ap₂ ◌&&◌ c.several_streams.ensures
    c.is_single.ensures) (λ e n. no_bool (sym c.if-gathers-fresh.false ∙ ap₂ ◌&&◌ e (lt-ltb 0 _ n)))
