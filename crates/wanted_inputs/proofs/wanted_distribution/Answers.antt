use mathlib.Core.Path.{refl, sym, ap, ◌∙◌}
use Rattle.plan.specs.declared.Kind.TheVariants.{Source, Filter, Projection, Union, Repartition, Coalesce, Sort, Merge, GlobalLimit, LocalLimit, SortMergeJoin, HashJoin, OutputRequirement, PartialSort, Aggregate}
use Rattle.std.proofs.Common.{[], ◌∷◌, rules}
use Rattle.record_fields.specs.Kinds.{asked_of, asked_of_each}
use Rattle.semantics.specs.Properties.{dist_of, sort_dist}
use Rattle.plan_codec.specs.Decode.{distribution_of}
use Rattle.wanted_inputs.specs.Wanted.{tail_set}
use lib.ListN.{get_or}
use Rattle.wanted_inputs.proofs.wanted_distribution.Goals as goal

pub by_side-requires : goal.by_side-requires
by_side-requires c = (c.requires, sym c.kind_of.ensures ∙ c.in-SortMergeJoin.is)

pub returns-in-GlobalLimit : goal.returns-in-GlobalLimit
returns-in-GlobalLimit c = let r = c.args.r.now in
    asked_of (λ o. dist_of o c.args.j) r GlobalLimit
    (sym c.kind_of.ensures ∙ c.in-GlobalLimit.is) _ refl

pub returns-in-SortMergeJoin : goal.returns-in-SortMergeJoin
returns-in-SortMergeJoin c = let r = c.args.r.now in
    asked_of (λ o. dist_of o c.args.j) r SortMergeJoin
    (sym c.kind_of.ensures ∙ c.in-SortMergeJoin.is) _ c.by_side.ensures

pub returns-in-HashJoin : goal.returns-in-HashJoin
returns-in-HashJoin c = let r = c.args.r.now in
    asked_of (λ o. dist_of o c.args.j) r HashJoin (sym c.kind_of.ensures
    ∙ c.in-HashJoin.is) _ c.left_single.ensures

pub returns-in-OutputRequirement : goal.returns-in-OutputRequirement
returns-in-OutputRequirement c = let r = c.args.r.now in
    asked_of (λ o. dist_of o c.args.j) r OutputRequirement
    (sym c.kind_of.ensures ∙ c.in-OutputRequirement.is) _
    (c.distribution_from.ensures ∙ ap (distribution_of (get_or r 14 0)) (c.get32.ensures ∙ tail_set r))

pub returns-in-Source : goal.returns-in-Source
returns-in-Source c = asked_of_each (λ o. dist_of o c.args.j) c.args.r.now (Source ∷ Filter ∷ Projection ∷ Union ∷ Repartition ∷ Coalesce ∷ Merge ∷ LocalLimit ∷ Aggregate ∷ []) _
    c.kind_of.ensures c.in-Source.is _ (search rules)

pub returns-in-Sort : goal.returns-in-Sort
returns-in-Sort c = let e = c.sort_distribution.ensures ∙ ap sort_dist c.preserves.ensures in
    asked_of_each (λ o. dist_of o c.args.j) c.args.r.now (Sort ∷ PartialSort ∷ []) _ c.kind_of.ensures c.in-Sort.is _ (e, e)
