use native.Mathlib.Omega.{arith}
use mathlib.Core.Path.{sym, ◌∙◌}
use Rattle.plan.specs.declared.Kind.TheVariants.{Source, Filter, Projection, Union, Repartition, Coalesce, GlobalLimit, LocalLimit, PartialSort}
use Rattle.record_fields.specs.Kinds.{op_of}
use Rattle.push_requirements.specs.Joins.{hash_room}
use Rattle.child_requirements.specs.Children.{by_kind, by_sort, by_merge, by_requirement, by_join, by_hash}
use Rattle.child_requirements.proofs.push_by_kind.Goals as goal

pub handle_projection_pushdown-requires : goal.handle_projection_pushdown-requires
handle_projection_pushdown-requires c = (c.requires.proper, (sym c.kind_of-kind.ensures ∙ c.in-Projection.is), c.requires.few)

pub handle_custom_pushdown-requires : goal.handle_custom_pushdown-requires
handle_custom_pushdown-requires c = c.requires.few

pub handle_sort-requires : goal.handle_sort-requires
handle_sort-requires c = (c.requires.proper, c.requires.first, c.requires.few)

pub push_past_merge-requires : goal.push_past_merge-requires
push_past_merge-requires c = (c.requires.proper, c.requires.here, c.requires.few)

pub handle_custom_pushdown-requires-in-GlobalLimit : goal.handle_custom_pushdown-requires-in-GlobalLimit
handle_custom_pushdown-requires-in-GlobalLimit c = c.requires.few

pub handle_custom_pushdown-requires-in-LocalLimit : goal.handle_custom_pushdown-requires-in-LocalLimit
handle_custom_pushdown-requires-in-LocalLimit c = c.requires.few

pub join_type-requires : goal.join_type-requires
join_type-requires c = c.requires.proper

pub try_pushdown_requirements_to_join-requires : goal.try_pushdown_requirements_to_join-requires
try_pushdown_requirements_to_join-requires c = (
  c.requires.merged _ (c.join_type.ensures.merged (sym c.kind_of-kind.ensures ∙ c.in-SortMergeJoin.is)),
  c.requires.few,
  c.requires.inside,
)

pub join_type-requires-in-HashJoin : goal.join_type-requires-in-HashJoin
join_type-requires-in-HashJoin c = c.requires.proper

pub width-requires : goal.width-requires
width-requires c = c.requires.here

pub width-requires-in-HashJoin : goal.width-requires-in-HashJoin
width-requires-in-HashJoin c = c.requires.second

pub handle_hash_join-requires : goal.handle_hash_join-requires
handle_hash_join-requires c = let x = c.width.ensures in let y = c.width-in-HashJoin.ensures.0 in
    let z = c.requires.hashed _ (c.join_type-in-HashJoin.ensures.hashed (sym c.kind_of-kind.ensures
    ∙ c.in-HashJoin.is)) in (
      c.requires.few,
      x.1,
      λ d. let l = hash_room c.join_type-in-HashJoin.result _ _ _ z d in
          omega (arith, x.0, y),
    )

pub push_past_output_requirement-requires : goal.push_past_output_requirement-requires
push_past_output_requirement-requires c = (c.requires.proper, c.requires.few)

pub handle_aggregate_pushdown-requires : goal.handle_aggregate_pushdown-requires
handle_aggregate_pushdown-requires c = (c.requires.proper, (sym c.kind_of-kind.ensures ∙ c.in-Aggregate.is), c.requires.here, c.requires.first, c.requires.few)

pub returns-in-Source : goal.returns-in-Source
returns-in-Source c = λ o fs m s. let r = c.args.r.now in
    by_kind r fs m _ _ Source (sym c.kind_of-kind.ensures ∙ c.in-Source.is) tt

pub returns-in-Filter : goal.returns-in-Filter
returns-in-Filter c = λ o fs m s. let r = c.args.r.now in
    by_kind r fs m _ _ Filter (sym c.kind_of-kind.ensures ∙ c.in-Filter.is) tt

pub returns-in-Projection : goal.returns-in-Projection
returns-in-Projection c = λ o fs m s. let r = c.args.r.now in
    by_kind r fs m _ _ Projection (sym c.kind_of-kind.ensures ∙ c.in-Projection.is)
    (c.handle_projection_pushdown.ensures _ m (op_of r Projection (sym c.kind_of-kind.ensures ∙ c.in-Projection.is)))

pub returns-in-Union : goal.returns-in-Union
returns-in-Union c = λ o fs m s. let r = c.args.r.now in
    by_kind r fs m _ _ Union (sym c.kind_of-kind.ensures ∙ c.in-Union.is) (c.handle_custom_pushdown.ensures m)

pub returns-in-Repartition : goal.returns-in-Repartition
returns-in-Repartition c = λ o fs m s. let r = c.args.r.now in
    by_kind r fs m _ _ Repartition (sym c.kind_of-kind.ensures ∙ c.in-Repartition.is) tt

pub returns-in-Coalesce : goal.returns-in-Coalesce
returns-in-Coalesce c = λ o fs m s. let r = c.args.r.now in
    by_kind r fs m _ _ Coalesce (sym c.kind_of-kind.ensures ∙ c.in-Coalesce.is) tt

pub returns-in-Sort : goal.returns-in-Sort
returns-in-Sort c = λ o fs m s. let r = c.args.r.now in
    by_sort r fs m _ _ o _ _ _ s (sym c.kind_of-kind.ensures ∙ c.in-Sort.is) (c.handle_sort.ensures m)

pub returns-in-Merge : goal.returns-in-Merge
returns-in-Merge c = λ o fs m s. let r = c.args.r.now in
    by_merge r fs m _ _ o _ _ _ s (sym c.kind_of-kind.ensures ∙ c.in-Merge.is) (c.push_past_merge.ensures m)

pub returns-in-GlobalLimit : goal.returns-in-GlobalLimit
returns-in-GlobalLimit c = λ o fs m s. let r = c.args.r.now in
    by_kind r fs m _ _ GlobalLimit (sym c.kind_of-kind.ensures ∙ c.in-GlobalLimit.is)
    (c.handle_custom_pushdown-in-GlobalLimit.ensures m)

pub returns-in-LocalLimit : goal.returns-in-LocalLimit
returns-in-LocalLimit c = λ o fs m s. let r = c.args.r.now in
    by_kind r fs m _ _ LocalLimit (sym c.kind_of-kind.ensures ∙ c.in-LocalLimit.is)
    (c.handle_custom_pushdown-in-LocalLimit.ensures m)

pub returns-in-SortMergeJoin : goal.returns-in-SortMergeJoin
returns-in-SortMergeJoin c = λ o fs m s. let r = c.args.r.now in
    by_join r fs m _ _ o _ _ _ s c.join_type.result
    (c.join_type.ensures.merged (sym c.kind_of-kind.ensures ∙ c.in-SortMergeJoin.is))
    c.try_pushdown_requirements_to_join.ensures

pub returns-in-HashJoin : goal.returns-in-HashJoin
returns-in-HashJoin c = λ o fs m s. let r = c.args.r.now in
    by_hash r fs m _ _ o _ _ _ s c.join_type-in-HashJoin.result
    (c.join_type-in-HashJoin.ensures.hashed (sym c.kind_of-kind.ensures
    ∙ c.in-HashJoin.is)) _ _ c.width.ensures.0 c.width-in-HashJoin.ensures.0
    (c.handle_hash_join.ensures m)

pub returns-in-OutputRequirement : goal.returns-in-OutputRequirement
returns-in-OutputRequirement c = λ o fs m s. let r = c.args.r.now in
    by_requirement r fs m _ _ o _ _ _ s (sym c.kind_of-kind.ensures ∙ c.in-OutputRequirement.is)
    (c.push_past_output_requirement.ensures m)

pub returns-in-PartialSort : goal.returns-in-PartialSort
returns-in-PartialSort c = λ o fs m s. let r = c.args.r.now in
    by_kind r fs m _ _ PartialSort (sym c.kind_of-kind.ensures ∙ c.in-PartialSort.is) tt

pub returns-in-Aggregate : goal.returns-in-Aggregate
returns-in-Aggregate c = λ o fs m s. c.handle_aggregate_pushdown.ensures o fs m _ s
