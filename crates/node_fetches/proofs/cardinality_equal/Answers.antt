use Rattle.std.proofs.Common.{[], ◌∷◌, sym, ap, ◌∙◌, rules, not}
use Rattle.std.proofs.Math.Bool.{not-not}
use Rattle.std.specs.Prelude.{is_some}
use Rattle.plan.specs.declared.Kind.TheVariants.{Projection, Coalesce, Merge, Source, Filter, Union, Repartition, Sort, GlobalLimit, LocalLimit, SortMergeJoin, HashJoin, OutputRequirement, PartialSort, Aggregate}
use Rattle.record_fields.specs.Kinds.{asked_of_each}
use Rattle.semantics.specs.Properties.{cardinality_equal}
use Rattle.node_fetches.proofs.cardinality_equal.Goals as goal

pub returns-in-Projection : goal.returns-in-Projection
returns-in-Projection c = asked_of_each cardinality_equal c.args.r.now (Projection ∷ []) _ c.kind_of.ensures c.in-Projection.is _
    (search rules)

pub returns-in-Coalesce : goal.returns-in-Coalesce
returns-in-Coalesce c = asked_of_each cardinality_equal c.args.r.now (Coalesce ∷ Merge ∷ []) _ c.kind_of.ensures c.in-Coalesce.is _
    (let e = sym (not-not _) ∙ ap not (sym c.is_none.ensures ∙ ap is_some c.fetch_field.ensures) in (e, e))

pub returns-in-Source : goal.returns-in-Source
returns-in-Source c = asked_of_each cardinality_equal c.args.r.now (Source ∷ Filter ∷ Union ∷ Repartition ∷ Sort ∷ GlobalLimit ∷ LocalLimit ∷ SortMergeJoin ∷ HashJoin ∷ OutputRequirement ∷ PartialSort ∷ Aggregate ∷ []) _ c.kind_of.ensures c.in-Source.is _
    (search rules)
