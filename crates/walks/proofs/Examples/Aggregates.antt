-- Aggregates in the walks, by computation (02, P1). None of them treats an aggregate apart but pushing, which leaves the sort over it.
use Rattle.std.specs.Prelude.{◌≡◌, refl, true, false, List, [], ◌∷◌, ℕ, None}
use Rattle.row_order.specs.Iso.{Key}
use Rattle.plan.specs.Op.{aggregate, coalesce, merge_op, Plan, projection}
use Rattle.plan.specs.Samples.{by}
use Rattle.semantics.specs.Facts.{facts}
use Rattle.semantics.specs.Check.{check}
use Rattle.walks.specs.Counted.{answered, ensured, parallelized, preserved, pushed}
use Rattle.walks.specs.SortPushdown.{goes, push_by_kind, stop}
use Rattle.walks.specs.Terms.{clear}
use Rattle.walks.proofs.Examples.Samples.{by_two, on, output, pair, settings, sort, sort_each, src}

-- grouped by column c, with an aggregate column
abbrev grouped : ℕ → Plan → Plan
grouped c f = on (aggregate (by c) 1) f

-- the known order goes past the group columns, in their places, and no further
pub order_past :
    (check (output (by 0) (grouped 1 (src 1 (by_two 1 0)))) ≡ true)
    × (check (output (by 0) (grouped 1 (src 1 (by_two 0 1)))) ≡ false)
    × (check (output (by 1) (grouped 1 (src 1 (by_two 1 0)))) ≡ false)
    × (check (output (by_two 1 0) (on (aggregate (by_two 1 0) 0) (src 1 (by_two 0 1)))) ≡ true)
order_past = (refl, refl, refl, refl)

-- ensuring puts a sort over an aggregate, and takes one below that it does not maintain
pub ensure_aggregate :
    (ensured (output (by 0) (grouped 1 (src 1 []))) ≡ answered (output (by 0) (sort 0 (grouped 1 (src 1 [])))))
    × (ensured (output (by 0) (grouped 1 (src 1 (by 1)))) ≡ answered (output (by 0) (grouped 1 (src 1 (by 1)))))
    × (ensured (grouped 0 (sort 1 (src 2 []))) ≡ answered (grouped 0 (src 2 [])))
ensure_aggregate = (refl, refl, refl)

-- parallelizing goes through it: so the groups of one stream become those of two (02: rows are promised without aggregates)
pub parallelize_aggregate :
    (parallelized (sort 0 (grouped 0 (on (coalesce None) (src 2 [])))) ≡ answered (on (merge_op (by 0) None) (sort_each 0 (grouped 0 (src 2 [])))))
    × (clear (sort 0 (grouped 0 (src 2 []))) ≡ false)
parallelize_aggregate = (refl, refl)

-- order-preserving: over a coalesce the aggregate knows no order, so no connection passes it
pub preserve_aggregate :
    preserved (settings true true true) (sort 0 (grouped 0 (on (coalesce None) (src 2 (by 0)))))
    ≡ answered (sort 0 (grouped 0 (on (coalesce None) (src 2 (by 0)))))
preserve_aggregate = refl

-- pushing leaves a sort over it
pub push_aggregate :
    (pushed (output (by 0) (sort 0 (grouped 0 (src 1 [])))) ≡ answered (output (by 0) (sort 0 (grouped 0 (src 1 [])))))
    × (pushed (output (by 1) (sort 1 (grouped 0 (src 1 (by 0))))) ≡ answered (output (by 1) (sort 1 (grouped 0 (src 1 (by 0))))))
push_aggregate = (refl, refl)

-- handle_aggregate_pushdown by itself: to the child where that has the order already, the list as it is mapped and not its normal form; not for an
-- aggregate column, though its place is read as column 0; not where the child has a part of the order; nor where the aggregate maintains nothing,
-- though a constant's order is met, whether or not the child is ordered
pub handled :
    (push_by_kind (aggregate (by 1) 1) (facts (src 1 (by 1))) (by 0) ≡ goes (λ i. by 1))
    × (push_by_kind (aggregate (by_two 1 0) 1) (facts (pair 1 (by 1) 1)) (by_two 0 1) ≡ goes (λ i. by_two 1 0))
    × (push_by_kind (aggregate (by 1) 1) (facts (src 1 (by_two 1 0))) (by_two 0 1) ≡ stop)
    × (push_by_kind (aggregate (by_two 1 0) 1) (facts (src 1 (by 1))) (by_two 0 1) ≡ stop)
    × (push_by_kind (aggregate (by 1) 1) (facts (pair 1 [] 2)) (by 0) ≡ stop)
    × (push_by_kind (aggregate (by 1) 1) (facts (pair 1 (by 0) 2)) (by 0) ≡ stop)
handled = (refl, refl, refl, refl, refl, refl)

-- 02: "A surveyor may order by a column that the list doesn't show": by a group column where the list shows the aggregate column, or the other way
-- round. Ensuring leaves the sort where it is; where the aggregate has that order already the sort goes, or becomes a merge of the streams
abbrev shown : ℕ → Plan → Plan
shown c f = on (projection (c ∷ [])) f

abbrev stockpiles : ℕ → List Key → Plan
stockpiles n known = on (aggregate (by_two 0 1) 1) (src n known)

abbrev merged : ℕ → Plan → Plan
merged c f = on (merge_op (by c) None) f

pub surveyed :
    (ensured (shown 2 (sort 1 (stockpiles 1 []))) ≡ answered (shown 2 (sort 1 (stockpiles 1 []))))
    × (ensured (shown 2 (sort 1 (stockpiles 1 (by_two 0 1)))) ≡ answered (shown 2 (sort 1 (stockpiles 1 (by_two 0 1)))))
    × (ensured (shown 0 (sort 2 (stockpiles 1 (by_two 0 1)))) ≡ answered (shown 0 (sort 2 (stockpiles 1 (by_two 0 1)))))
    × (ensured (shown 2 (sort 1 (stockpiles 1 (by 1)))) ≡ answered (shown 2 (stockpiles 1 (by 1))))
    × (ensured (shown 2 (sort 1 (stockpiles 2 (by 1)))) ≡ answered (shown 2 (merged 1 (stockpiles 2 (by 1)))))
surveyed = (refl, refl, refl, refl, refl)

-- what is fed in order there: an operator that wants the unshown order, and the merge; not where the groups begin in another order
pub surveyed_passes :
    (check (shown 2 (output (by 1) (sort 1 (stockpiles 1 [])))) ≡ true)
    × (check (shown 2 (output (by 1) (stockpiles 1 []))) ≡ false)
    × (check (shown 2 (merged 1 (stockpiles 2 (by 1)))) ≡ true)
    × (check (shown 2 (merged 1 (stockpiles 2 (by 0)))) ≡ false)
surveyed_passes = (refl, refl, refl, refl)
