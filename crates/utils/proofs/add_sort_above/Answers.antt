use native.Mathlib.Omega.{arith}
use native.Mathlib.Omega.{arith}
use Rattle.key_lists.specs.Keys.{keys_of}
use Rattle.plan_context.specs.Laws.{here}
use Rattle.utils.specs.Sorting.{few_keys, above_none, above_puts, above_grown}
use Rattle.utils.proofs.add_sort_above.Goals as goal

pub row-own-requires : goal.row-own-requires
row-own-requires c = let m = c.args.m.now in let u = c.args.u in let h = c.args.h in let p = c.requires.0 in
    here m u h p.arena p.here

pub fresh_keys-fresh-requires : goal.fresh_keys-fresh-requires
fresh_keys-fresh-requires c = let f = c.args.fetch in let q = c.requires.1 in
    record { fact_row = c.row-own.ensures.1.row; len_bound = few_keys _ c.args.keys f q }

pub returns-then-fresh-eq0 : goal.returns-then-fresh-eq0
returns-then-fresh-eq0 c = let m = c.args.m.now in let u = c.args.u in let h = c.args.h in
    let ks = keys_of c.args.keys in let f = c.args.fetch in let p = c.requires.0 in let q = c.requires.1 in
    above_none m u h ks f p.arena p.here q _ c.row-own.ensures.1 c.fresh_keys-fresh.result
    c.fresh_keys-fresh.ensures c.if-fresh-eq0.true

pub put_over-requires : goal.put_over-requires
put_over-requires c = let m = c.args.m.now in
    let u = c.args.u in let h = c.args.h in let ks = keys_of c.args.keys in let f = c.args.fetch in let p = c.requires.0 in let q = c.requires.1 in
    above_puts m u h ks f p.arena p.here q _ c.row-own.ensures.1
    c.fresh_keys-fresh.result c.fresh_keys-fresh.ensures
    (let z = c.if-fresh-eq0.false in omega arith) c.several_streams.result _
    c.sort_record-r.ensures p

pub returns : goal.returns
returns c = let m = c.args.m.now in let u = c.args.u in let h = c.args.h in let ks = keys_of c.args.keys in let f = c.args.fetch in let p = c.requires.0 in
    let q = c.requires.1 in above_grown m u h ks f p.arena p.here q _
    c.row-own.ensures.1
    c.fresh_keys-fresh.result
    c.fresh_keys-fresh.ensures
    (let z = c.if-fresh-eq0.false in
    omega arith) c.several_streams.result _
    c.sort_record-r.ensures p c.several_streams.ensures _
    c.put_over.result c.put_over.ensures
