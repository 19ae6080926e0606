use native.Mathlib.Omega.{arith}
use mathlib.Core.Path.{◌≡◌}
use mathlib.Core.Bool.{cond}
use lib.ListN.{length, length-drop}
use Rattle.semantics.specs.Facts as sem
use Rattle.facts.specs.Known.{known}
use Rattle.join_facts.specs.Joining.{on_of}
use Rattle.record_fields.specs.Fields.{packed_keys, tail_columns}
use Rattle.record_fields.specs.Decoded.{length-packed}
use Rattle.node_facts.specs.Ready.{count, type_in}
use Rattle.record_fields.specs.Fronts.{counted}
use Rattle.node_facts.specs.Lending.{joinable_lent, says_joined}
use Rattle.node_facts.proofs.sort_merge_joined.Goals as goal

pub slice_bounds-sort_merge_join_facts-end : goal.slice_bounds-sort_merge_join_facts-end
slice_bounds-sort_merge_join_facts-end c = let p = c.requires.1 in
    let e = c.wide-n.ensures in
    counted c.packed_keys-keys.result (packed_keys c.args.r.now) 8
    c.wide-n.result c.packed_keys-keys.ensures
    (length-packed c.args.r.now c.requires.0) (omega arith)

pub slice_bounds-sort_merge_join_facts-end-2 : goal.slice_bounds-sort_merge_join_facts-end-2
slice_bounds-sort_merge_join_facts-end-2 c = let p = c.requires.1 in
    let q = c.requires.0 in let e = c.wide-n.ensures in
    let l : length (tail_columns c.args.r.now) ≡ 32 = omega (arith, length-drop 32 c.args.r.now) in
    counted c.tail_columns-cols.result (tail_columns c.args.r.now) 32
    c.wide-n.result c.tail_columns-cols.ensures l (omega arith)

pub sort_merge_join_facts-requires : goal.sort_merge_join_facts-requires
sort_merge_join_facts-requires c = joinable_lent c.join_type_of-t.result (type_in c.args.r.now) c.wide-n.result
    (count c.args.r.now) c.packed_keys-keys.result (packed_keys c.args.r.now)
    c.tail_columns-cols.result (tail_columns c.args.r.now)
    c.join_type_of-t.ensures c.wide-n.ensures
    c.packed_keys-keys.ensures
    c.tail_columns-cols.ensures c.args.a c.args.b c.requires.2

pub returns : goal.returns
returns c = says_joined c.join_type_of-t.result (type_in c.args.r.now) c.wide-n.result
    (count c.args.r.now) c.packed_keys-keys.result (packed_keys c.args.r.now)
    c.tail_columns-cols.result (tail_columns c.args.r.now)
    c.join_type_of-t.ensures c.wide-n.ensures
    c.packed_keys-keys.ensures
    c.tail_columns-cols.ensures
    (λ t ks cs. sem.join_facts t (sem.smj_kept t) (on_of ks cs) (known c.args.a) (known c.args.b)
    (cond (sem.by_right t) c.args.b.streams c.args.a.streams)) c.sort_merge_join_facts.result c.sort_merge_join_facts.ensures
