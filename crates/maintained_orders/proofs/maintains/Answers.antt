use mathlib.Core.Path.{sym, ap, ◌∙◌}
use Rattle.plan.specs.declared.Kind.TheVariants.{Source, Filter, Projection, Coalesce, Sort, Merge, GlobalLimit, LocalLimit, SortMergeJoin, HashJoin, OutputRequirement, PartialSort}
use Rattle.semantics.specs.Facts.{smj_kept, hash_kept}
use Rattle.semantics.specs.Properties.{maintains, kept_side}
use Rattle.asked_facts.specs.Asked.{told}
use Rattle.std.proofs.Common.{[], ◌∷◌, rules}
use Rattle.record_fields.specs.Kinds.{asked_of, asked_of_each}
use Rattle.maintained_orders.specs.Maintaining.{union_maintains, repartition_maintains, aggregate_maintains}
use Rattle.maintained_orders.proofs.maintains.Goals as goal

pub returns-in-Union : goal.returns-in-Union
returns-in-Union c fs a = let r = c.args.r.now in
    let e = (sym c.kind_of.ensures ∙ c.in-Union.is) in
    union_maintains r fs c.args.j (told c.args.own.now) (told c.args.child.now) a e c.is_ordered.result c.equally_long.result
    c.is_ordered.ensures c.equally_long.ensures

pub returns-in-Repartition : goal.returns-in-Repartition
returns-in-Repartition c fs a = let r = c.args.r.now in
    let e = (sym c.kind_of.ensures ∙ c.in-Repartition.is) in
    repartition_maintains r fs c.args.j (told c.args.own.now) (told c.args.child.now) a e c.keeps_order.result
    c.preserves.result c.preserves.ensures c.keeps_order.ensures

pub returns-in-SortMergeJoin : goal.returns-in-SortMergeJoin
returns-in-SortMergeJoin c fs a = let r = c.args.r.now in
    let e = (sym c.kind_of.ensures ∙ c.in-SortMergeJoin.is) in
    asked_of (λ o. maintains o fs c.args.j) r SortMergeJoin e _ (c.sort_merge_keeps.ensures ∙ ap (λ t. kept_side (smj_kept t) c.args.j)
    c.join_type_of.ensures)

pub returns-in-HashJoin : goal.returns-in-HashJoin
returns-in-HashJoin c fs a = let r = c.args.r.now in
    let e = (sym c.kind_of.ensures ∙ c.in-HashJoin.is) in
    asked_of (λ o. maintains o fs c.args.j) r HashJoin e _
    (c.hash_keeps.ensures ∙ ap (λ t. kept_side (hash_kept t) c.args.j) c.join_type_of-in-HashJoin.ensures)

pub returns-in-Aggregate : goal.returns-in-Aggregate
returns-in-Aggregate c fs a = let r = c.args.r.now in
    let e = (sym c.kind_of.ensures ∙ c.in-Aggregate.is) in
    aggregate_maintains r fs c.args.j (told c.args.own.now) (told c.args.child.now) a e c.is_ordered-in-Aggregate.result c.is_ordered-in-Aggregate.ensures

pub returns-in-Source : goal.returns-in-Source
returns-in-Source c fs a = asked_of_each (λ o. maintains o fs c.args.j) c.args.r.now (Source ∷ Coalesce ∷ Sort ∷ PartialSort ∷ []) _ c.kind_of.ensures c.in-Source.is _
    (search rules)

pub returns-in-Filter : goal.returns-in-Filter
returns-in-Filter c fs a = asked_of_each (λ o. maintains o fs c.args.j) c.args.r.now (Filter ∷ Projection ∷ Merge ∷ GlobalLimit ∷ LocalLimit ∷ OutputRequirement ∷ []) _ c.kind_of.ensures c.in-Filter.is _
    (search rules)
