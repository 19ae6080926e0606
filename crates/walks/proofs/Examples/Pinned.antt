-- Small plans, by computation: refusals, ensuring, parallelizing, order-preserving and partial sorting; pushing is in PinnedPush. Each pins a
-- branch: where the definition went another way there, it would fail; 'not:' names the wrong definition that a plan tells from the right one.
-- Beyond what the theorems say, these plans alone settle which tree these walks answer, and no further than they go: a definition that
-- differs on none of them and keeps the theorems would not be refused here.
use Rattle.std.specs.Prelude.{◌≡◌, refl, Bool, true, false, List, [], ◌∷◌, map, ℕ, Option, Some, None}
use Rattle.row_order.specs.Iso.{Key}
use Rattle.plan.specs.Forest.{none, size, tree}
use Rattle.plan.specs.Op.{coalesce, filter, global_limit, hash_join, local_limit, merge_op, Op, output_requirement, partial_sort, Plan, projection, repartition, sort_op}
use Rattle.plan.specs.Samples.{by, source_of, up}
use Rattle.plan.specs.WellFormed.{well_formed}
use Rattle.plan.specs.declared.Distribution.TheVariants.{Single, Unspecified}
use Rattle.plan.specs.declared.JoinType.TheVariants.{Inner, LeftSemi}
use Rattle.plan.specs.declared.Refusal.TheVariants.{HasPartialSort, TooManyNodes}
use Rattle.semantics.proofs.Examples.Examples.{kinds}
use Rattle.walks.specs.Marks.{bare, node, op_t, strip, Tree}
use Rattle.walks.specs.OrderPreserving.{plan_with_order_breaking_variants}
use Rattle.walks.specs.Counted.{answered, ensured, parallelized, partially_sorted, preserved, pushed, refused}
use Rattle.walks.specs.Terms.{◌⊕◌, clear, clear_op}
use Rattle.walks.proofs.Examples.Samples.{besides, by_two, endless_src, filtered, on, output, pair, settings, single, sort, sort_each, src, stack}

-- column c descending; nulls first
abbrev falling : ℕ → Key
falling c = record { col = c; desc = true; first = false }

abbrev nulls_first : ℕ → Key
nulls_first c = record { col = c; desc = false; first = true }

-- ---- the refusals
-- 126 nodes are not too many. Four chains of filters beside each other, 97 nodes with n more: they know their facts sooner than one chain
abbrev wide : ℕ → Plan
wide n = besides (besides (filtered 30 (src 1 [])) (filtered 30 (src 1 []))) (besides (filtered 30 (src 1 [])) (filtered n (src 1 [])))

pub most_answered :
    (well_formed (wide 29) ≡ true)
    × (size (wide 29) ≡ 126)
    × (ensured (wide 29) ≡ answered (wide 29))
    × (parallelized (wide 29) ≡ answered (wide 29))
    × (preserved (settings true true true) (wide 29) ≡ answered (wide 29))
    × (pushed (wide 29) ≡ answered (wide 29))
    × (partially_sorted 125 (wide 29) ≡ answered (wide 29))
most_answered = (refl, refl, refl, refl, refl, refl, refl)

-- nor are they after a step; 127 are
abbrev growing : Plan → ℕ → Plan
growing f n = besides (output (by 0) f) (wide n)

abbrev below : ℕ → Plan
below n = output (by 0) (filtered n (src 1 []))

pub most_after :
    (size (growing (src 1 []) 25) ≡ 125)
    × (ensured (growing (src 1 []) 25) ≡ answered (growing (sort 0 (src 1 [])) 25))
    × (ensured (growing (src 1 []) 26) ≡ refused TooManyNodes)
    × (size (below 123) ≡ 125)
    × (pushed (below 123) ≡ answered (output (by 0) (sort 0 (filtered 123 (src 1 [])))))
    × (pushed (below 124) ≡ refused TooManyNodes)
most_after = (refl, refl, refl, refl, refl, refl)

-- 21 wherever the partial sort stands
abbrev with_partial : Plan
with_partial = besides (src 1 []) (on filter (on (partial_sort false (by_two 0 1) 1 None) (src 1 (by 0))))

pub has_partial :
    (ensured with_partial ≡ refused HasPartialSort)
    × (parallelized with_partial ≡ refused HasPartialSort)
    × (preserved (settings false false false) with_partial ≡ refused HasPartialSort)
    × (pushed with_partial ≡ refused HasPartialSort)
    × (partially_sorted 2 with_partial ≡ answered with_partial)
has_partial = (refl, refl, refl, refl, refl)

-- ---- ensuring
-- no sort where the order is met
pub ensure_met : ensured (output (by 0) (src 1 (by 0))) ≡ answered (output (by 0) (src 1 (by 0)))
ensure_met = refl

-- kind 13's fetch is the new sort's
pub ensure_output_fetch :
    ensured (on (output_requirement (by 0) Unspecified (Some 3)) (src 1 []))
    ≡ answered (on (output_requirement (by 0) Unspecified (Some 3)) (on (sort_op false (by 0) (Some 3)) (src 1 [])))
ensure_output_fetch = refl

-- a merge over one stream and a preserving sort that is met leave their fetch as a local limit
pub ensure_merge_fetch : ensured (on (merge_op (by 0) (Some 3)) (src 1 (by 0))) ≡ answered (on (local_limit (Some 3) (by 0)) (src 1 (by 0)))
ensure_merge_fetch = refl

pub ensure_sort_fetch : ensured (on (sort_op true (by 0) (Some 3)) (src 2 (by 0))) ≡ answered (on (local_limit (Some 3) (by 0)) (src 2 (by 0)))
ensure_sort_fetch = refl

-- not: the note of a limit that stands in a sort's place is the sort's keys as written
abbrev ends_in_constant : Plan
ends_in_constant = tree (source_of 3 1 2 (by 2) false) none none

pub ensure_note : ensured (on (sort_op false (by_two 2 1) (Some 5)) ends_in_constant) ≡ answered (on (global_limit 0 (Some 5) (by 2)) ends_in_constant)
ensure_note = refl

-- 01's trap, any maintained input with any connected child: the union's first child is connected, its second maintained
abbrev crossed : Plan
crossed = besides (on (sort_op false (by_two 0 1) (Some 3)) (src 1 [])) (src 1 (by 0))

pub ensure_crossed : ensured (sort 1 crossed) ≡ answered (sort 1 (on (merge_op (by 0) None) crossed))
ensure_crossed = refl

-- round robin of two streams, with the preserve mark p
abbrev round_robin : Bool → Op
round_robin p = repartition p 2 false []

-- both output columns carry column 0
abbrev doubled : Op
doubled = projection (0 ∷ 0 ∷ [])

-- not: where no order is known, the coalesce that is put in takes the plan's fetch, as a merge does
pub ensure_coalesce_unfetched :
    ensured (stack (sort_op false (by 1) (Some 2) ∷ doubled ∷ sort_op true (by_two 1 0) (Some 2) ∷ []) (pair 2 (by 1) 0))
    ≡ answered (stack (sort_op false (by 1) (Some 2) ∷ coalesce None ∷ doubled ∷ sort_op true (by_two 1 0) (Some 2) ∷ []) (pair 2 (by 1) 0))
ensure_coalesce_unfetched = refl

-- not: a repartition keeps its preserve mark where sorts are removed
pub ensure_mark_loosened :
    ensured (stack (single (by_two 0 1) ∷ round_robin true ∷ sort_op true (by 1) (Some 2) ∷ []) (pair 2 [] 0))
    ≡ answered (stack (single (by_two 0 1) ∷ sort_op false (by_two 0 1) None ∷ coalesce None ∷ round_robin false ∷ [])
    (on (sort_op true (by 1) (Some 2)) (pair 2 [] 0)))
ensure_mark_loosened = refl

-- not: a limit carries the connection to a sort
pub ensure_limit_unconnected :
    ensured (stack (sort_op true (by_two 1 0) (Some 2) ∷ merge_op (by 0) (Some 2) ∷ []) (pair 1 [] 0))
    ≡ answered (stack (sort_op true (by_two 1 0) (Some 2) ∷ local_limit (Some 2) (by 0) ∷ sort_op false (by 0) None ∷ []) (pair 1 [] 0))
ensure_limit_unconnected = refl

-- not: a child that knows no order is stripped of its sorts before its own sort comes
pub ensure_unordered_kept :
    ensured (stack (single (by 0) ∷ doubled ∷ sort_op false (by_two 1 0) None ∷ []) (pair 2 (by 1) 0))
    ≡ answered (stack (single (by 0) ∷ sort_op false (by 0) None ∷ doubled ∷ sort_op false (by_two 1 0) None ∷ []) (pair 2 (by 1) 0))
ensure_unordered_kept = refl

-- not: where no order is wanted, a child that knows none keeps its sorts
pub ensure_unordered_stripped :
    ensured (stack (repartition false 2 true (by 0) ∷ doubled ∷ sort_op true (by 1) None ∷ []) (pair 1 (by 0) 0))
    ≡ answered (stack (repartition false 2 true (by 0) ∷ doubled ∷ []) (pair 1 (by 0) 0))
ensure_unordered_stripped = refl

-- ---- parallelizing
pub parallelize_merge :
    parallelized (on (merge_op (by 0) None) (on (coalesce None) (src 2 [])))
    ≡ answered (on (merge_op (by 0) None) (sort_each 0 (src 2 [])))
parallelize_merge = refl

pub parallelize_coalesce :
    parallelized (on (coalesce None) (on filter (on (coalesce None) (src 2 []))))
    ≡ answered (on (coalesce None) (on filter (src 2 [])))
parallelize_coalesce = refl

-- a fetched coalesce is no bottleneck
pub parallelize_fetched : parallelized (sort 0 (on (coalesce (Some 3)) (src 2 []))) ≡ answered (sort 0 (on (coalesce (Some 3)) (src 2 [])))
parallelize_fetched = refl

-- equal partitionings have equal keys (reading 5): hash2[0] over hash2[1] is not idle, over hash2[0] it is;
-- below a bottleneck all its equals go
abbrev hashed : ℕ → Plan → Plan
hashed c f = on (repartition false 2 true (by c)) f

abbrev parted : Plan → Plan
parted f = on (merge_op (by 2) None) (sort_each 2 f)

pub parallelize_hashed :
    (parallelized (sort 2 (hashed 0 (hashed 1 (on (coalesce None) (src 2 []))))) ≡ answered (parted (hashed 0 (hashed 1 (src 2 [])))))
    × (parallelized (sort 2 (hashed 0 (hashed 0 (on (coalesce None) (src 2 []))))) ≡ answered (parted (hashed 0 (src 2 []))))
    × (parallelized (sort 2 (hashed 0 (on (coalesce None) (hashed 1 (src 2 []))))) ≡ answered (parted (hashed 0 (hashed 1 (src 2 [])))))
    × (parallelized (sort 2 (hashed 0 (on (coalesce None) (hashed 0 (hashed 0 (src 2 [])))))) ≡ answered (parted (hashed 0 (src 2 []))))
parallelize_hashed = (refl, refl, refl, refl)

-- not: keys are equal where one list begins the other: hash2[0] is no equal of hash2[0,1]
abbrev hashed_by_two : Plan → Plan
hashed_by_two f = on (repartition false 2 true (by_two 0 1)) f

pub parallelize_whole_keys :
    (parallelized (sort 2 (hashed 0 (on (coalesce None) (hashed_by_two (src 2 []))))) ≡ answered (parted (hashed 0 (hashed_by_two (src 2 [])))))
    × (parallelized (sort 2 (hashed_by_two (on (coalesce None) (hashed 0 (src 2 []))))) ≡ answered (parted (hashed_by_two (hashed 0 (src 2 [])))))
parallelize_whole_keys = (refl, refl)

-- not: the sort under the new merge comes though its input meets its keys
pub parallelize_checked : parallelized (sort 1 (on (coalesce None) (pair 2 (by 1) 1))) ≡ answered (on (merge_op (by 1) None) (pair 2 (by 1) 1))
parallelize_checked = refl

-- not: the coalesce that is put back has no fetch
pub parallelize_coalesce_fetched :
    parallelized (stack (coalesce (Some 2) ∷ coalesce None ∷ []) (pair 2 [] 0))
    ≡ answered (on (coalesce (Some 2)) (pair 2 [] 0))
parallelize_coalesce_fetched = refl

-- not: sorts of several streams are taken apart too
abbrev sorted_each : Plan
sorted_each = sort_each 1 (stack (round_robin false ∷ coalesce None ∷ []) (pair 2 [] 1))

pub parallelize_one_stream : parallelized sorted_each ≡ answered sorted_each
parallelize_one_stream = refl

-- not: a bottleneck goes where a single stream is wanted, below a child that has one (the first), as the first child (the second)
abbrev semi_join : Plan → Plan → Plan
semi_join f g = on (hash_join LeftSemi (record { key = up 0; other = 0 } ∷ [])) (f ⊕ g)

abbrev gathering : Plan
gathering =
    semi_join (stack (repartition false 2 true (by 0) ∷ coalesce None ∷ round_robin false ∷ []) (pair 2 [] 3))
    (on (coalesce None) (tree (source_of 2 2 0 (up 1 ∷ nulls_first 0 ∷ []) true) none none))

abbrev collecting : Plan
collecting = semi_join (on (coalesce None) (pair 2 [] 2)) (on (coalesce None) (pair 2 (nulls_first 0 ∷ []) 3))

abbrev top_three : Plan → Plan
top_three f = on (sort_op false (by 0) (Some 3)) f

pub parallelize_single_kept :
    (parallelized (on (sort_op false (by_two 1 0) (Some 3)) gathering) ≡ answered (on (merge_op (by_two 1 0) (Some 3)) gathering))
    × (parallelized (top_three collecting) ≡ answered (on (merge_op (by 0) (Some 3)) (top_three collecting)))
parallelize_single_kept = (refl, refl)

-- not: a node that wants a single stream carries the connection
abbrev unlinked : Plan
unlinked = stack (sort_op true (by 0) (Some 2) ∷ output_requirement [] Single None ∷ coalesce None ∷ []) (pair 2 (by 0) 0)

pub parallelize_unlinked : parallelized unlinked ≡ answered unlinked
parallelize_unlinked = refl

-- ---- order-preserving
-- a repartition's mark comes where spr is better, existing orders are preferred, or the rows do not end
abbrev spread : Bool → Plan → Plan
spread p f = on (repartition p 4 false []) f

pub preserve_better : preserved (settings true false false) (sort_each 0 (spread false (src 2 (by 0)))) ≡ answered (spread true (src 2 (by 0)))
preserve_better = refl

pub preserve_preferred : preserved (settings false false true) (sort_each 0 (spread false (src 2 (by 0)))) ≡ answered (spread true (src 2 (by 0)))
preserve_preferred = refl

pub preserve_not : preserved (settings false true false) (sort_each 0 (spread false (src 2 (by 0)))) ≡ answered (sort_each 0 (spread false (src 2 (by 0))))
preserve_not = refl

pub preserve_endless : preserved (settings false false false) (sort_each 0 (spread false (endless_src 2 (by 0)))) ≡ answered
    (spread true (endless_src 2 (by 0)))
preserve_endless = refl

-- not: a merge comes by its own setting alone, and not where existing orders are preferred
pub preserve_merge_preferred :
    preserved (settings false false true) (sort 0 (on (coalesce None) (src 2 (by 0))))
    ≡ answered (on (merge_op (by 0) None) (src 2 (by 0)))
preserve_merge_preferred = refl

-- not: a coalesce initiates a connection where no order is lost: a sort by a constant stays over it
abbrev over_unordered : Plan
over_unordered = sort 0 (on (coalesce None) (pair 2 [] 1))

pub preserve_unordered : preserved (settings false false false) over_unordered ≡ answered over_unordered
preserve_unordered = refl

-- not: a node is connected by its first child alone: here the repartition stands below the join's second
abbrev probed : Bool → Plan
probed p = on (hash_join Inner (record { key = up 1; other = 1 } ∷ [])) (src 1 [] ⊕ spread p (src 2 (by 0)))

pub preserve_second_child : preserved (settings true false false) (sort_each 3 (probed false)) ≡ answered (probed true)
preserve_second_child = refl

-- not: a repartition that maintains initiates a connection too: no order is lost there, and the sort stays, needless as it is
abbrev kept_order : Plan
kept_order = sort_each 0 (on (round_robin false) (src 1 (by 0)))

pub preserve_maintained : preserved (settings true true true) kept_order ≡ answered kept_order
preserve_maintained = refl

-- not: the path is cut at a repartition that does not maintain
abbrev spread_twice : Bool → Plan
spread_twice p = spread p (on (repartition p 3 false []) (src 2 (by 0)))

pub preserve_path : preserved (settings true false false) (sort_each 0 (spread_twice false)) ≡ answered (spread_twice true)
preserve_path = refl

-- a fetched coalesce carries no connection, so that even a sort by a constant stays over it; one without a fetch does
abbrev constant_sorted : Option ℕ → Plan
constant_sorted f = sort 0 (on (coalesce f) (tree (source_of 3 2 1 (by 1) false) none none))

pub preserve_fetched : preserved (settings false false false) (constant_sorted (Some 3)) ≡ answered (constant_sorted (Some 3))
preserve_fetched = refl

pub preserve_unfetched :
    preserved (settings false false false) (constant_sorted None)
    ≡ answered (on (coalesce None) (tree (source_of 3 2 1 (by 1) false) none none))
preserve_unfetched = refl

-- not: variants are used over unbounded rows though the sort is not final; its child, the merge, meets its keys
abbrev unfinished : Bool → Bool → Plan
unfinished p q =
    stack (merge_op (falling 0 ∷ []) (Some 3) ∷ repartition p 2 true (by 1) ∷ [])
    (stack (output_requirement (falling 1 ∷ up 0 ∷ []) Unspecified (Some 3) ∷ round_robin q ∷ coalesce None ∷ [])
    (tree (source_of 2 3 0 (record { col = 1; desc = true; first = true } ∷ []) true) none none))

pub preserve_unfinished :
    preserved (settings false false false) (on (sort_op false (falling 0 ∷ []) (Some 3)) (unfinished true true))
    ≡ answered (unfinished false false)
preserve_unfinished = refl

-- not: the path goes on below a sort, which maintains nothing: by an inspect_child that is always true, or without the cut
abbrev cut_off : Plan
cut_off = stack (sort_op true (by 1) None ∷ sort_op false (by_two 1 0) None ∷ round_robin false ∷ []) (pair 2 [] 1)

pub preserve_cut : preserved (settings false false false) cut_off ≡ answered cut_off
preserve_cut = refl

-- plan_with_order_breaking_variants, whose result reaches no answer: the plan of what it makes of a tree. not: it goes on below a node that does not
-- maintain, or whose own wanted order is met, a merge's excepted; it stops at a node that wants nothing, or whose wanted order is not met
abbrev broken : Op → Plan
broken o = let t : Tree = plan_with_order_breaking_variants (node o false (bare (on (round_robin true) (src 2 (by 0))))) in tree (op_t t) (strip t.kids) none

abbrev over_spread : Op → Bool → Plan
over_spread o p = on o (on (round_robin p) (src 2 (by 0)))

pub breaking :
    (broken (merge_op (by 0) None) ≡ over_spread (coalesce None) false)
    × (broken filter ≡ over_spread filter false)
    × (broken (output_requirement (by 1) Unspecified None) ≡ over_spread (output_requirement (by 1) Unspecified None) false)
    × (broken (output_requirement (by 0) Unspecified None) ≡ over_spread (output_requirement (by 0) Unspecified None) true)
    × (broken (sort_op true (by 1) None) ≡ over_spread (sort_op true (by 1) None) true)
breaking = (refl, refl, refl, refl, refl)

-- ---- partial sorting
-- mark, keys and fetch stay
pub partial_whole :
    partially_sorted 1 (on filter (on (sort_op true (by_two 2 1) (Some 7)) (endless_src 1 (by 2))))
    ≡ answered (on filter (on (partial_sort true (by_two 2 1) 1 (Some 7)) (endless_src 1 (by 2))))
partial_whole = refl

pub partial_bounded :
    partially_sorted 0 (on (sort_op false (by_two 2 1) None) (src 1 (by 2)))
    ≡ answered (on (sort_op false (by_two 2 1) None) (src 1 (by 2)))
partial_bounded = refl

-- not: the nodes to the right of the first child are left as they are; the prefix is one key
abbrev second : Op → Plan
second o = besides (src 1 []) (on o (endless_src 1 (by_two 0 1)))

pub partial_second_child :
    partially_sorted 2 (second (sort_op false (up 0 ∷ up 1 ∷ up 2 ∷ []) None)) ≡ answered (second (partial_sort false (up 0 ∷ up 1 ∷ up 2 ∷ []) 2 None))
partial_second_child = refl

-- not: each key is met by itself; here all three are met together, though [2] alone is not
pub partial_keys_together :
    partially_sorted 0 (on (sort_op false (up 0 ∷ up 1 ∷ up 2 ∷ []) None) (tree (source_of 3 1 2 (by_two 0 2) true) none none))
    ≡ answered (on (sort_op false (up 0 ∷ up 1 ∷ up 2 ∷ []) None) (tree (source_of 3 1 2 (by_two 0 2) true) none none))
partial_keys_together = refl

-- ---- the theorem on rows is of some tree, and of one with each kind that it may have: the partial sort aside, which no walk takes
pub clear_some : clear (output (by 0) (on (merge_op (by 0) None) (sort_each 0 (on (repartition true 2 false []) (sort 0 (on (coalesce None)
    (on filter (besides (on (projection (0 ∷ [])) (src 2 [])) (on (projection (1 ∷ [])) (src 2 [])))))))))) ≡ true
clear_some = refl

-- kind by kind, in the order of their numbers; and each that has a fetch. not: a projection, a union or kind 13 counts as a join
pub clear-kinds : map clear_op kinds ≡ true ∷ true ∷ true ∷ true ∷ true ∷ true ∷ true ∷ true ∷ false ∷ false ∷ false ∷ false ∷ true ∷ true ∷ false ∷ []
clear-kinds = refl

abbrev fetching : List Op
fetching =
    coalesce (Some 1) ∷ sort_op false (by 0) (Some 1) ∷ merge_op (by 0) (Some 1) ∷ output_requirement [] Single (Some 1)
    ∷ partial_sort false (by_two 0 1) 1 (Some 1) ∷ []

pub clear-fetching : map clear_op fetching ≡ false ∷ false ∷ false ∷ false ∷ false ∷ []
clear-fetching = refl
