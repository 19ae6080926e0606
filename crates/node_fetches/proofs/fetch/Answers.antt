use Rattle.std.proofs.Common.{[], ◌∷◌, rules}
use Rattle.plan.specs.declared.Kind.TheVariants.{Coalesce, Sort, Merge, GlobalLimit, LocalLimit, OutputRequirement, PartialSort, Source, Filter, Projection, Union, Repartition, SortMergeJoin, HashJoin, Aggregate}
use Rattle.record_fields.specs.Kinds.{asked_of_each}
use Rattle.semantics.specs.Properties.{cuts}
use Rattle.node_fetches.proofs.fetch.Goals as goal

pub returns-in-Coalesce : goal.returns-in-Coalesce
returns-in-Coalesce c = asked_of_each (λ o. (cuts o).fetch) c.args.r.now (Coalesce ∷ Sort ∷ Merge ∷ GlobalLimit ∷ LocalLimit ∷ OutputRequirement ∷ PartialSort ∷ []) _ c.kind_of.ensures c.in-Coalesce.is _
    (search (rules, c.fetch_field.ensures))

pub returns-in-Source : goal.returns-in-Source
returns-in-Source c = asked_of_each (λ o. (cuts o).fetch) c.args.r.now (Source ∷ Filter ∷ Projection ∷ Union ∷ Repartition ∷ SortMergeJoin ∷ HashJoin ∷ Aggregate ∷ []) _ c.kind_of.ensures c.in-Source.is _
    (search rules)
