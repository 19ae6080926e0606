use borrow.Author.Rules.{rules}
use native.Mathlib.Omega.{arith}
use mathlib.Core.Path.{refl, sym, ap, ◌∙◌}
use Rattle.scan.specs.Below.{and_left}
use Rattle.plan.specs.WellFormed.{keys_fit}
use Rattle.plan.specs.declared.Kind.TheVariants.{Source, Filter, Projection, Union, Repartition, Coalesce, Sort, Merge, GlobalLimit, LocalLimit, HashJoin, OutputRequirement, PartialSort, Aggregate}
use lib.ListN.{length, take}
use Rattle.semantics.specs.Facts as sem
use Rattle.plan_codec.specs.Decode.{from_bytes}
use Rattle.key_lists.specs.Lists.{length_keys}
use Rattle.key_lists.specs.Keys.{keys_of}
use Rattle.facts.specs.Known.{known}
use Rattle.fact_slots.specs.Slots.{loaded}
use Rattle.node_facts.specs.Rules.{few, unary_keys}
use Rattle.std.proofs.Common.{[], ◌∷◌}
use lib.ListN.{get_or}
use Rattle.semantics.specs.Properties.{wanted_orders}
use Rattle.plan.specs.Numbers.{kind_of}
use Rattle.record_fields.specs.Kinds.{op_of, asked_of_each}
use Rattle.node_facts.specs.Wants.{no_want, one_want, both_want, prefix_inside, prefix_want}
use Rattle.row_wants.proofs.wants_met.Goals as goal

pub key_list-requires : goal.key_list-requires
key_list-requires c = let r = c.args.r.now in let h = c.requires.2 in
    (h.long, few r h.rules)

pub meets-requires : goal.meets-requires
meets-requires c = let h = c.requires.2 in
    record { long = c.requires.0; fine = h.first }

pub key_list-requires-in-SortMergeJoin : goal.key_list-requires-in-SortMergeJoin
key_list-requires-in-SortMergeJoin c = let r = c.args.r.now in let h = c.requires.2 in
    (h.long, few r h.rules)

pub meets-requires-in-SortMergeJoin : goal.meets-requires-in-SortMergeJoin
meets-requires-in-SortMergeJoin c = let h = c.requires.2 in
    record { long = c.requires.0; fine = h.first }

pub right_key_list-requires : goal.right_key_list-requires
right_key_list-requires c = let r = c.args.r.now in
    let h = c.requires.2 in (h.long, few r h.rules)

pub meets-requires-in-SortMergeJoin-2 : goal.meets-requires-in-SortMergeJoin-2
meets-requires-in-SortMergeJoin-2 c = let h = c.requires.2 in
    record { long = c.requires.1; fine = h.second }

pub key_list-requires-in-OutputRequirement : goal.key_list-requires-in-OutputRequirement
key_list-requires-in-OutputRequirement c = let r = c.args.r.now in let h = c.requires.2 in
    (h.long, few r h.rules)

pub meets-requires-in-OutputRequirement : goal.meets-requires-in-OutputRequirement
meets-requires-in-OutputRequirement c = let h = c.requires.2 in
    record { long = c.requires.0; fine = h.first }

pub key_list-requires-in-PartialSort : goal.key_list-requires-in-PartialSort
key_list-requires-in-PartialSort c = let r = c.args.r.now in let h = c.requires.2 in
    (h.long, few r h.rules)

pub front-requires : goal.front-requires
front-requires c = let r = c.args.r.now in
    let f = loaded c.args.first.now in let g = loaded c.args.second.now in let h = c.requires.2 in
    let e = sym c.kind_of.ensures ∙ c.in-PartialSort.is in
    let k = c.key_list-in-PartialSort.result in
    let n = sym (length_keys k.len k.word) ∙ ap length (c.key_list-in-PartialSort.ensures.is ∙ unary_keys r f g h PartialSort e (λ n. refl)
    (λ z. z)) in (omega (arith, prefix_inside r f g h e, c.wide.ensures), c.key_list-in-PartialSort.ensures.few)

pub meets-requires-in-PartialSort : goal.meets-requires-in-PartialSort
meets-requires-in-PartialSort c = record { long = c.requires.0; fine = c.requires.2.first }

pub returns-in-Merge : goal.returns-in-Merge
returns-in-Merge c = let r = c.args.r.now in
    let f = loaded c.args.first.now in let g = loaded c.args.second.now in let h = c.requires.2 in
    let e = sym c.kind_of.ensures ∙ c.in-Merge.is in
    one_want r f g h Merge e (λ n. refl) (keys_of c.key_list.result) (from_bytes r).keys refl
    (c.key_list.ensures.is ∙ unary_keys r f g h Merge e (λ n. refl) (λ z. z)) c.meets.result c.meets.ensures

pub returns-in-SortMergeJoin : goal.returns-in-SortMergeJoin
returns-in-SortMergeJoin c = let r = c.args.r.now in
    let f = loaded c.args.first.now in let g = loaded c.args.second.now in let h = c.requires.2 in
    let e = sym c.kind_of.ensures ∙ c.in-SortMergeJoin.is in
    both_want r f g h e c.meets-in-SortMergeJoin.result c.meets-in-SortMergeJoin-2.result
    (c.meets-in-SortMergeJoin.ensures ∙ ap (sem.met (known f)) c.key_list-in-SortMergeJoin.ensures.is)
    (c.meets-in-SortMergeJoin-2.ensures ∙ ap (sem.met (known g)) c.right_key_list.ensures.is)

pub returns-in-OutputRequirement : goal.returns-in-OutputRequirement
returns-in-OutputRequirement c = let r = c.args.r.now in
    let f = loaded c.args.first.now in let g = loaded c.args.second.now in let h = c.requires.2 in
    let e = sym c.kind_of.ensures ∙ c.in-OutputRequirement.is in
    one_want r f g h OutputRequirement e (λ n. refl) (keys_of c.key_list-in-OutputRequirement.result) (from_bytes r).keys refl
    (c.key_list-in-OutputRequirement.ensures.is ∙ unary_keys r f g h OutputRequirement e (λ n. refl) (λ z. and_left (keys_fit f.width (from_bytes r).keys) _ z))
    c.meets-in-OutputRequirement.result c.meets-in-OutputRequirement.ensures

pub returns-in-PartialSort : goal.returns-in-PartialSort
returns-in-PartialSort c = let r = c.args.r.now in
    let f = loaded c.args.first.now in let g = loaded c.args.second.now in let h = c.requires.2 in
    let e = sym c.kind_of.ensures
    ∙ c.in-PartialSort.is in let k = keys_of c.key_list-in-PartialSort.result in
    prefix_want r f g h e k c.key_list-in-PartialSort.ensures.is c.meets-in-PartialSort.result
    (c.meets-in-PartialSort.ensures ∙ ap (sem.met (known f)) c.front.ensures.is ∙ ap (λ n. sem.met (known f) (take n k))
    c.wide.ensures)

pub returns-in-Source : goal.returns-in-Source
returns-in-Source c = let r = c.args.r.now in
    no_want r (loaded c.args.first.now) (loaded c.args.second.now) c.requires.2 (kind_of (get_or r 0 0)) refl
    (sym (asked_of_each wanted_orders r (Source ∷ Filter ∷ Projection ∷ Union ∷ Repartition ∷ Coalesce ∷ Sort ∷ GlobalLimit ∷ LocalLimit ∷ HashJoin ∷ Aggregate ∷ []) _ c.kind_of.ensures c.in-Source.is [] (search rules)
    ∙ ap wanted_orders (op_of r _ refl)))
