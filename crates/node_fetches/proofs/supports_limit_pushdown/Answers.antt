use Rattle.std.proofs.Common.{[], ◌∷◌, rules}
use Rattle.plan.specs.declared.Kind.TheVariants.{Projection, Union, Coalesce, Merge, GlobalLimit, LocalLimit, Source, Filter, Repartition, Sort, SortMergeJoin, HashJoin, OutputRequirement, PartialSort, Aggregate}
use Rattle.record_fields.specs.Kinds.{asked_of_each}
use Rattle.semantics.specs.Properties.{supports_limit_pushdown}
use Rattle.node_fetches.proofs.supports_limit_pushdown.Goals as goal

pub returns-in-Projection : goal.returns-in-Projection
returns-in-Projection c = asked_of_each supports_limit_pushdown c.args.r.now (Projection ∷ Coalesce ∷ Merge ∷ GlobalLimit ∷ LocalLimit ∷ Union ∷ []) _ c.kind_of.ensures c.in-Projection.is _
    (search rules)

pub returns-in-Source : goal.returns-in-Source
returns-in-Source c = asked_of_each supports_limit_pushdown c.args.r.now (Source ∷ Filter ∷ Repartition ∷ Sort ∷ SortMergeJoin ∷ HashJoin ∷ OutputRequirement ∷ PartialSort ∷ Aggregate ∷ []) _ c.kind_of.ensures c.in-Source.is _
    (search rules)
