use mathlib.Core.Path.{refl, sym, ap, subst, ◌∙◌}
use mathlib.Core.Bool.{cond}
use mathlib.Core.List.{[]}
use lib.ListN.{get_or, drop}
use Rattle.row_order.specs.Packed.{bit}
use Rattle.plan.specs.declared.Kind.TheVariants.{Filter, Projection, Coalesce, Sort, Merge, GlobalLimit, LocalLimit, SortMergeJoin, HashJoin, OutputRequirement, PartialSort}
use Rattle.semantics.specs.Facts as sem
use Rattle.plan_codec.specs.Decode.{decode}
use Rattle.facts.specs.Known.{known, Says}
use Rattle.fact_slots.specs.Slots.{loaded}
use Rattle.node_facts.specs.Ready.{kids_of}
use Rattle.node_facts.specs.Rules.{few, small, unary}
use Rattle.node_facts.specs.Joins.{joinable}
use Rattle.node_facts.specs.Kinds.{projected_below, sorted_says, repartition_says, grouped_below, grouped_wide, aggregate_says, sort_merge_says, hash_says}
use Rattle.fact_slots.specs.Copies.{kept_says}
use Rattle.row_facts.proofs.node_into.Goals as goal

pub project-requires : goal.project-requires
project-requires c = let r = c.args.r.now in
    let f = loaded c.args.first.now in let g = loaded c.args.second.now in let h = c.requires.ready in
    let e = sym c.kind_of-kind.ensures ∙ c.in-Projection.is in
    (c.requires.room, h.long, small r h.rules, c.requires.first, h.first, projected_below r f g h e, c.requires.few)

pub sort-requires : goal.sort-requires
sort-requires c = let r = c.args.r.now in
    let h = c.requires.ready in (c.requires.room, h.long, few r h.rules, record { long = c.requires.first; fine = h.first })

pub sort-requires-in-Merge : goal.sort-requires-in-Merge
sort-requires-in-Merge c = let r = c.args.r.now in
    let h = c.requires.ready in (c.requires.room, h.long, few r h.rules, record { long = c.requires.first; fine = h.first })

pub join_sorted-requires : goal.join_sorted-requires
join_sorted-requires c = let r = c.args.r.now in
    let f = loaded c.args.first.now in let g = loaded c.args.second.now in let h = c.requires.ready in
    let e = sym c.kind_of-kind.ensures ∙ c.in-SortMergeJoin.is in (
      c.requires.room,
      h.long,
      few r h.rules,
      c.requires.first,
      c.requires.second,
      joinable r f g h SortMergeJoin e (λ n. refl) (λ w v. refl) (λ w v. refl),
      c.requires.few,
      c.requires.fewer,
    )

pub join_hashed-requires : goal.join_hashed-requires
join_hashed-requires c = let r = c.args.r.now in
    let f = loaded c.args.first.now in let g = loaded c.args.second.now in let h = c.requires.ready in
    let e = sym c.kind_of-kind.ensures ∙ c.in-HashJoin.is in (
      c.requires.room,
      h.long,
      few r h.rules,
      c.requires.first,
      c.requires.second,
      joinable r f g h HashJoin e (λ n. refl) (λ w v. refl) (λ w v. refl),
      c.requires.fewer,
    )

pub sort-requires-in-PartialSort : goal.sort-requires-in-PartialSort
sort-requires-in-PartialSort c = let r = c.args.r.now in
    let h = c.requires.ready in (c.requires.room, h.long, few r h.rules, record { long = c.requires.first; fine = h.first })

pub aggregate-requires : goal.aggregate-requires
aggregate-requires c = let r = c.args.r.now in
    let f = loaded c.args.first.now in let g = loaded c.args.second.now in let h = c.requires.ready in
    let e = sym c.kind_of-kind.ensures ∙ c.in-Aggregate.is in (
      c.requires.room,
      h.long,
      few r h.rules,
      c.requires.first,
      h.first,
      grouped_below r f g h e,
      grouped_wide r f g h e,
      c.requires.few,
    )

pub returns-in-Source : goal.returns-in-Source
returns-in-Source c = let e = sym c.kind_of-kind.ensures ∙ c.in-Source.is in
    absurd (c.requires.child e)

pub returns-in-Filter : goal.returns-in-Filter
returns-in-Filter c = let r = c.args.r.now in
    let f = loaded c.args.first.now in let g = loaded c.args.second.now in let h = c.requires.ready in
    let e = sym c.kind_of-kind.ensures ∙ c.in-Filter.is in
    subst (λ o. Says (sem.facts_op (decode r) (kids_of r f g)) (loaded o)) (sym c.keep-in-Filter.ensures)
    (kept_says _ c.args.first.now (drop 48 c.args.own.now) c.requires.first
    (unary r f g h Filter e (λ n. refl) _ f refl (record { is = refl; fine = h.first })))

pub returns-in-Projection : goal.returns-in-Projection
returns-in-Projection c = let r = c.args.r.now in
    let f = loaded c.args.first.now in let g = loaded c.args.second.now in let h = c.requires.ready in
    let e = sym c.kind_of-kind.ensures ∙ c.in-Projection.is in
    unary r f g h Projection e (λ n. refl) _ (loaded c.project.new.own) refl c.project.ensures

pub returns-in-Union : goal.returns-in-Union
returns-in-Union c = let e = sym c.kind_of-kind.ensures ∙ c.in-Union.is in
    absurd (c.requires.inner e)

pub returns-in-Repartition : goal.returns-in-Repartition
returns-in-Repartition c = let r = c.args.r.now in let f = loaded c.args.first.now in let g = loaded c.args.second.now in let h = c.requires.ready in
    let e = sym c.kind_of-kind.ensures
    ∙ c.in-Repartition.is in
    repartition_says r f g h e c.preserves.result (get_or r 2 0) c.preserves.ensures
    refl (loaded c.restream.new.own)
    (subst (λ b. Says (sem.ordered (known f) (get_or r 2 0) (cond b (known f).order [])) (loaded c.restream.new.own))
    c.keeps_order.ensures c.restream.ensures)

pub returns-in-Coalesce : goal.returns-in-Coalesce
returns-in-Coalesce c = let r = c.args.r.now in
    let f = loaded c.args.first.now in let g = loaded c.args.second.now in let h = c.requires.ready in
    let e = sym c.kind_of-kind.ensures ∙ c.in-Coalesce.is in
    unary r f g h Coalesce e (λ n. refl) _ (loaded c.restream-in-Coalesce.new.own) refl c.restream-in-Coalesce.ensures

pub returns-in-Sort : goal.returns-in-Sort
returns-in-Sort c = let r = c.args.r.now in let f = loaded c.args.first.now in let g = loaded c.args.second.now in let h = c.requires.ready in
    let e = sym c.kind_of-kind.ensures
    ∙ c.in-Sort.is in
    sorted_says r f g h Sort e (λ n. refl) refl (sem.sort_streams c.preserves-in-Sort.result (known f))
    (sem.sort_streams (bit (get_or r 3 0) 0) (known f)) (ap (λ p. sem.sort_streams p (known f)) c.preserves-in-Sort.ensures) refl
    (loaded c.sort.new.own) c.sort.ensures

pub returns-in-Merge : goal.returns-in-Merge
returns-in-Merge c = let r = c.args.r.now in
    let f = loaded c.args.first.now in let g = loaded c.args.second.now in let h = c.requires.ready in
    let e = sym c.kind_of-kind.ensures ∙ c.in-Merge.is in
    sorted_says r f g h Merge e (λ n. refl) refl 1 1 refl refl (loaded c.sort-in-Merge.new.own) c.sort-in-Merge.ensures

pub returns-in-GlobalLimit : goal.returns-in-GlobalLimit
returns-in-GlobalLimit c = let r = c.args.r.now in let f = loaded c.args.first.now in let g = loaded c.args.second.now in let h = c.requires.ready in
    let e = sym c.kind_of-kind.ensures
    ∙ c.in-GlobalLimit.is in
    unary r f g h GlobalLimit e (λ n. refl) _ (loaded c.restream-in-GlobalLimit.new.own)
    (ap (λ b. sem.ordered (known f) 1 (cond b (known f).order [])) c.one_stream.ensures)
    c.restream-in-GlobalLimit.ensures

pub returns-in-LocalLimit : goal.returns-in-LocalLimit
returns-in-LocalLimit c = let r = c.args.r.now in
    let f = loaded c.args.first.now in let g = loaded c.args.second.now in let h = c.requires.ready in
    let e = sym c.kind_of-kind.ensures ∙ c.in-LocalLimit.is in
    subst (λ o. Says (sem.facts_op (decode r) (kids_of r f g)) (loaded o)) (sym c.keep-in-LocalLimit.ensures)
    (kept_says _ c.args.first.now (drop 48 c.args.own.now) c.requires.first
    (unary r f g h LocalLimit e (λ n. refl) _ f refl (record { is = refl; fine = h.first })))

pub returns-in-SortMergeJoin : goal.returns-in-SortMergeJoin
returns-in-SortMergeJoin c = let r = c.args.r.now in
    let f = loaded c.args.first.now in let g = loaded c.args.second.now in let h = c.requires.ready in
    let e = sym c.kind_of-kind.ensures ∙ c.in-SortMergeJoin.is in
    sort_merge_says r f g h e (loaded c.join_sorted.new.own) c.join_sorted.ensures

pub returns-in-HashJoin : goal.returns-in-HashJoin
returns-in-HashJoin c = let r = c.args.r.now in
    let f = loaded c.args.first.now in let g = loaded c.args.second.now in let h = c.requires.ready in
    let e = sym c.kind_of-kind.ensures ∙ c.in-HashJoin.is in
    hash_says r f g h e (loaded c.join_hashed.new.own) c.join_hashed.ensures

pub returns-in-OutputRequirement : goal.returns-in-OutputRequirement
returns-in-OutputRequirement c = let r = c.args.r.now in
    let f = loaded c.args.first.now in let g = loaded c.args.second.now in let h = c.requires.ready in
    let e = sym c.kind_of-kind.ensures ∙ c.in-OutputRequirement.is in
    subst (λ o. Says (sem.facts_op (decode r) (kids_of r f g)) (loaded o)) (sym c.keep-in-OutputRequirement.ensures)
    (kept_says _ c.args.first.now (drop 48 c.args.own.now) c.requires.first
    (unary r f g h OutputRequirement e (λ n. refl) _ f refl (record { is = refl; fine = h.first })))

pub returns-in-PartialSort : goal.returns-in-PartialSort
returns-in-PartialSort c = let r = c.args.r.now in let f = loaded c.args.first.now in let g = loaded c.args.second.now in let h = c.requires.ready in
    let e = sym c.kind_of-kind.ensures
    ∙ c.in-PartialSort.is in
    sorted_says r f g h PartialSort e (λ n. refl) refl (sem.sort_streams c.preserves-in-PartialSort.result (known f))
    (sem.sort_streams (bit (get_or r 3 0) 0) (known f)) (ap (λ p. sem.sort_streams p (known f)) c.preserves-in-PartialSort.ensures) refl
    (loaded c.sort-in-PartialSort.new.own) c.sort-in-PartialSort.ensures

pub returns-in-Aggregate : goal.returns-in-Aggregate
returns-in-Aggregate c = let r = c.args.r.now in
    let f = loaded c.args.first.now in let g = loaded c.args.second.now in let h = c.requires.ready in
    let e = sym c.kind_of-kind.ensures ∙ c.in-Aggregate.is in
    aggregate_says r f g h e (loaded c.aggregate.new.own) c.aggregate.ensures
