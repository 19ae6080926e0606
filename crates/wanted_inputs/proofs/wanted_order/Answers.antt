use native.Mathlib.Omega.{arith}
use mathlib.Core.Path.{refl, sym, ap₂, ◌∙◌}
use lib.ListN.{get_or, take}
use Rattle.plan.specs.declared.Kind.TheVariants.{Source, Filter, Projection, Union, Repartition, Coalesce, Sort, Merge, GlobalLimit, LocalLimit, SortMergeJoin, HashJoin, OutputRequirement, PartialSort, Aggregate}
use Rattle.plan_codec.specs.Decode.{from_bytes}
use Rattle.key_lists.specs.Keys.{keys_of}
use Rattle.wanted_inputs.specs.Wanted.{keys_count, prefix_inside, wants_this, wants_first}
use Rattle.std.proofs.Common.{[], ◌∷◌, ap, subst, rules}
use Rattle.key_lists.specs.Keys.{Ordered}
use Rattle.semantics.specs.Properties.{wanted}
use Rattle.record_fields.specs.Kinds.{keys_are, asked_of_each}
use Rattle.wanted_inputs.proofs.wanted_order.Goals as goal

pub key_list-requires : goal.key_list-requires
key_list-requires c = (c.requires.long, c.requires.few)

pub of_side-requires : goal.of_side-requires
of_side-requires c = (c.requires, sym c.kind_of.ensures ∙ c.in-SortMergeJoin.is)

pub key_list-requires-in-PartialSort : goal.key_list-requires-in-PartialSort
key_list-requires-in-PartialSort c = (c.requires.long, c.requires.few)

pub front-requires : goal.front-requires
front-requires c = let r = c.args.r.now in
    let k = c.key_list-in-PartialSort.result in let n = keys_count r c.requires k c.key_list-in-PartialSort.ensures in (
      omega (
        arith,
        prefix_inside r c.requires (sym c.kind_of.ensures
            ∙ c.in-PartialSort.is),
        c.wide.ensures,
      ),
      c.key_list-in-PartialSort.ensures.few,
    )

pub returns-in-SortMergeJoin : goal.returns-in-SortMergeJoin
returns-in-SortMergeJoin c = let r = c.args.r.now in
    let e = (sym c.kind_of.ensures ∙ c.in-SortMergeJoin.is) in
    wants_this r SortMergeJoin e c.args.j c.of_side.result c.of_side.ensures

pub returns-in-PartialSort : goal.returns-in-PartialSort
returns-in-PartialSort c = let r = c.args.r.now in
    let e = (sym c.kind_of.ensures
    ∙ c.in-PartialSort.is) in
    wants_first r PartialSort e c.args.j (keys_of c.front.result) (take (get_or r 14 0) (from_bytes r).keys) c.of_first-in-PartialSort.result
    (c.front.ensures.is ∙ ap₂ take c.wide.ensures (c.key_list-in-PartialSort.ensures.is
    ∙ keys_are r c.requires)) refl c.of_first-in-PartialSort.ensures

pub returns-in-Source : goal.returns-in-Source
returns-in-Source c = record {
  is = asked_of_each (λ o. wanted o c.args.j) c.args.r.now (Source ∷ Filter ∷ Projection ∷ Union ∷ Repartition ∷ Coalesce ∷ Sort ∷ GlobalLimit ∷ LocalLimit ∷ HashJoin ∷ Aggregate ∷ []) _
      c.kind_of.ensures c.in-Source.is [] (search rules);
  real = tt;
}

pub returns-in-Merge : goal.returns-in-Merge
returns-in-Merge c = let r = c.args.r.now in let j = c.args.j in
    subst (λ ks. Ordered ks c.of_first.result)
    (ap (λ l. get_or (l ∷ []) j []) (c.key_list.ensures.is ∙ keys_are r c.requires)
    ∙ asked_of_each (λ o. wanted o j) r (Merge ∷ OutputRequirement ∷ []) _ c.kind_of.ensures c.in-Merge.is (get_or ((from_bytes r).keys ∷ []) j []) (refl, refl))
    c.of_first.ensures
