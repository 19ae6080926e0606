-- Small plans, by computation: pushing. 'not:' names the wrong definition that a plan tells from the right one. Pinned says what such plans are for.
use Rattle.std.specs.Prelude.{◌≡◌, refl, true, false, List, [], ◌∷◌, ℕ, Some, None}
use Rattle.row_order.specs.Iso.{Key}
use Rattle.row_order.specs.Lists.{tab}
use Rattle.plan.specs.Forest.{none, size, tree}
use Rattle.plan.specs.Op.{coalesce, filter, global_limit, hash_join, local_limit, merge_op, On, output_requirement, Plan, projection, repartition, sort_merge_join, sort_op}
use Rattle.plan.specs.Samples.{by, source_of, up}
use Rattle.plan.specs.declared.Distribution.TheVariants.{Keyed, Single, Unspecified}
use Rattle.plan.specs.declared.JoinType.{JoinType}
use Rattle.plan.specs.declared.JoinType.TheVariants.{Inner, Left, Right, RightSemi}
use Rattle.plan.specs.declared.Refusal.TheVariants.{ConstantSort, TooManyNodes}
use Rattle.semantics.specs.Facts.{Facts}
use Rattle.walks.specs.SortPushdown.{expr_source_side, left_side}
use Rattle.walks.specs.PushdownSorts.{push}
use Rattle.walks.specs.Counted.{answered, pushed, refused}
use Rattle.walks.specs.Terms.{◌⊕◌}
use Rattle.walks.proofs.Examples.Samples.{besides, by_two, falling, filtered, on, output, pair, single, sort, sort_each, src, stack, turned}

-- ---- 23
-- 23 in pushing: a merge and a sort come in one step, though the sort goes again in the next
abbrev peaked : ℕ → Plan
peaked n =
    stack (single (by_two 3 1) ∷ hash_join Inner (record { key = up 0; other = 0 } ∷ []) ∷ [])
    (filtered n (pair 1 [] 2) ⊕ sort_each 0 (src 2 (by 0)))

pub push_peak :
    (size (peaked 120) ≡ 125)
    × (size (push (peaked 120)) ≡ 126)
    × (pushed (peaked 120) ≡ refused TooManyNodes)
    × (pushed (peaked 119) ≡ answered (push (peaked 119)))
push_peak = (refl, refl, refl, refl)

-- 23 and 25 as reached: the sort of all-constant keys stands to the right of the step that leaves 127 nodes, or to its left
abbrev constant_sorted : Plan
constant_sorted = sort 0 (tree (source_of 3 1 1 [] false) none none)

pub push_as_reached :
    (size (output (by 0) (besides (filtered 121 (src 1 [])) constant_sorted)) ≡ 126)
    × (pushed (output (by 0) (besides (filtered 121 (src 1 [])) constant_sorted)) ≡ refused TooManyNodes)
    × (pushed (output (by 0) (besides constant_sorted (filtered 121 (src 1 [])))) ≡ refused ConstantSort)
push_as_reached = (refl, refl, refl)

-- At one node 25 comes first: nodes are counted after a step, and here none ends
pub push_25_first : (size (sort 0 (filtered 126 constant_sorted)) ≡ 129) × (pushed (sort 0 (filtered 126 constant_sorted)) ≡ refused ConstantSort)
push_25_first = (refl, refl)

-- not: a sort that goes ends a step. No file holds so many nodes, but the definition is of any plan
pub push_goes_uncounted :
    (size (sort 0 (sort 0 (filtered 125 (src 1 (by 0))))) ≡ 128)
    × (pushed (sort 0 (sort 0 (filtered 125 (src 1 (by 0))))) ≡ answered (filtered 125 (src 1 (by 0))))
push_goes_uncounted = (refl, refl)

-- ---- past which nodes an order goes
pub push_union : pushed (output (by 0) (besides (src 1 []) (src 1 []))) ≡ answered (output (by 0) (besides (sort 0 (src 1 [])) (sort 0 (src 1 []))))
push_union = refl

pub push_remapped :
    pushed (output (by 0) (on (projection (1 ∷ 0 ∷ [])) (src 1 [])))
    ≡ answered (output (by 0) (on (projection (1 ∷ 0 ∷ [])) (sort 1 (src 1 []))))
push_remapped = refl

-- no sort goes past a filter; of two fetches the least stays; a fetch does not go past a union
pub push_blocked : pushed (on (sort_op false (by 0) (Some 3)) (on filter (src 1 []))) ≡ answered
    (on (sort_op false (by 0) (Some 3)) (on filter (src 1 [])))
push_blocked = refl

pub push_least_fetch :
    pushed (on (sort_op false (by 0) (Some 3)) (on (sort_op false (by 0) (Some 5)) (src 1 [])))
    ≡ answered (on (sort_op false (by 0) (Some 3)) (src 1 []))
push_least_fetch = refl

pub push_union_fetch :
    pushed (on (sort_op false (by 0) (Some 3)) (besides (src 1 []) (src 1 [])))
    ≡ answered (on (merge_op (by 0) (Some 3)) (on (sort_op true (by 0) (Some 3)) (besides (src 1 []) (src 1 []))))
push_union_fetch = refl

-- a node of one stream hands down no distribution: no second merge below this one
pub push_one_stream :
    pushed (on (single (by_two 0 1)) (on (merge_op (by 0) None) (src 2 (by 0))))
    ≡ answered (on (single (by_two 0 1)) (on (merge_op (by 0) None) (on (sort_op true (by_two 0 1) None) (src 2 (by 0)))))
push_one_stream = refl

-- past a sort-merge join to the side whose order it keeps, in that side's columns; the other side keeps the join's own requirement
abbrev by_first : List On
by_first = record { key = up 0; other = 0 } ∷ []

abbrev joined : JoinType → Plan → Plan → Plan
joined t f g = on (sort_merge_join t by_first) (f ⊕ g)

abbrev hashed : JoinType → Plan → Plan → Plan
hashed t f g = on (hash_join t by_first) (f ⊕ g)

abbrev sort_two : Plan → Plan
sort_two f = on (sort_op false (by_two 0 1) None) f

pub push_merge_join :
    (pushed (output (by_two 0 1) (joined Inner (src 1 []) (src 1 []))) ≡ answered
    (output (by_two 0 1) (joined Inner (sort_two (src 1 [])) (sort 0 (src 1 [])))))
    × (pushed (output (by_two 3 4) (joined Right (src 1 []) (src 1 []))) ≡ answered
    (output (by_two 3 4) (joined Right (sort 0 (src 1 [])) (sort_two (src 1 [])))))
    × (pushed (output (by 1) (joined Inner (src 1 []) (src 1 []))) ≡ answered (output (by 1) (sort 1 (joined Inner (src 1 []) (src 1 [])))))
push_merge_join = (refl, refl, refl)

-- not: the join's new order need not meet what its parent requires: sorted by [0,1], the left side's columns, a Right join keeps the right side's order
pub push_other_side :
    pushed (output (by_two 0 1) (joined Right (src 1 []) (src 1 [])))
    ≡ answered (output (by_two 0 1) (sort_two (joined Right (src 1 []) (src 1 []))))
push_other_side = refl

-- semi and anti joins of the right side have its columns: nothing is taken off
pub push_right_semi :
    (pushed (output (by_two 0 1) (joined RightSemi (src 1 []) (src 1 []))) ≡ answered
    (output (by_two 0 1) (joined RightSemi (sort 0 (src 1 [])) (sort_two (src 1 [])))))
    × (pushed (output (by 1) (hashed RightSemi (src 1 []) (src 1 []))) ≡ answered (output (by 1) (hashed RightSemi (src 1 []) (sort 1 (src 1 [])))))
push_right_semi = (refl, refl)

-- not: an order goes past a hash join that does not maintain its right side
pub push_hash_unkept :
    pushed (output (by 3) (hashed Left (src 1 []) (src 1 [])))
    ≡ answered (output (by 3) (sort 3 (hashed Left (src 1 []) (src 1 []))))
push_hash_unkept = refl

-- not: a column of the side becomes the lowest equal one there: the left side's columns 0 and 1 are equal, and [1] stays [1]
abbrev doubled : Plan
doubled = stack (filter ∷ projection (0 ∷ 0 ∷ []) ∷ []) (src 1 [])

pub push_own_column :
    pushed (output (by 1) (joined Inner doubled (src 1 [])))
    ≡ answered (output (by 1) (joined Inner (sort 1 doubled) (sort 0 (src 1 []))))
push_own_column = refl

-- expr_source_side: of the side's columns that equal the key the lowest; Inner, 3 left columns, class {0,1,4}
abbrev equal_columns : Facts
equal_columns = record { width = 6; streams = 1; consts = tab 6 (λ c. false); cls = 0 ∷ 0 ∷ 2 ∷ 3 ∷ 0 ∷ 5 ∷ []; order = [] }

pub side_lowest : expr_source_side equal_columns (by_two 4 2) Inner 3 ≡ left_side (by_two 0 2)
side_lowest = refl

-- ---- what goes down with an order
-- not: the parent's distribution is lost on the way
pub push_distribution_kept :
    pushed (stack (sort_op false (by 1) None ∷ output_requirement [] Unspecified None ∷ []) (pair 2 (by 0) 0))
    ≡ answered (stack (output_requirement [] Unspecified None ∷ merge_op (by 1) None ∷ sort_op true (by 1) None ∷ []) (pair 2 (by 0) 0))
push_distribution_kept = refl

-- not: the root's children are not asked for their fetch at first
pub push_initial_fetch :
    pushed (output (by_two 0 1) (on (merge_op (by 0) (Some 2)) (pair 1 (by_two 1 0) 0)))
    ≡ answered (output (by_two 0 1) (stack (sort_op false (by_two 0 1) (Some 2) ∷ merge_op (by 0) (Some 2) ∷ []) (pair 1 (by_two 1 0) 0)))
push_initial_fetch = refl

-- not: a node that meets its order hands no fetch down
pub push_satisfied_fetch :
    pushed (stack (sort_op true (by 1) (Some 2) ∷ merge_op (by 1) (Some 2) ∷ []) (pair 1 [] 0))
    ≡ answered (stack (merge_op (by 1) (Some 2) ∷ sort_op false (by 1) (Some 2) ∷ []) (pair 1 [] 0))
push_satisfied_fetch = refl

-- not: a node that an order goes past does not hand down its own fetch
pub push_own_fetch :
    pushed (stack (sort_op false (by_two 1 0) None ∷ local_limit (Some 1) [] ∷ []) (pair 1 [] 1))
    ≡ answered (stack (local_limit (Some 1) [] ∷ sort_op false (by 1) (Some 1) ∷ []) (pair 1 [] 1))
push_own_fetch = refl

-- not: a node with a fetch that knows no order lets none past
pub push_unordered_open :
    pushed (stack (sort_op true (by_two 1 0) None ∷ merge_op (by 0) (Some 2) ∷ []) (pair 1 (by_two 1 0) 1))
    ≡ answered (on (merge_op (by 0) (Some 2)) (pair 1 (by_two 1 0) 1))
push_unordered_open = refl

-- not: a node with a fetch that does not maintain lets an order past: a coalesce
pub push-coalesce_fetch :
    pushed (output (by 0) (besides (on (coalesce (Some 3)) (src 2 [])) (src 1 [])))
    ≡ answered (output (by 0) (besides (sort 0 (on (coalesce (Some 3)) (src 2 []))) (sort 0 (src 1 []))))
push-coalesce_fetch = refl

-- a projection has its input's fetch (reading 3), and hands it down with the order in its child's columns
pub push-projection_fetch :
    pushed (output (by 0) (besides (stack (projection (1 ∷ 0 ∷ []) ∷ local_limit (Some 3) [] ∷ []) (pair 1 [] 0)) (pair 1 [] 0)))
    ≡ answered (output (by 0) (besides (stack (projection (1 ∷ 0 ∷ []) ∷ sort_op false (by 1) (Some 3) ∷ local_limit (Some 3) [] ∷ []) (pair 1 [] 0))
    (sort 0 (pair 1 [] 0))))
push-projection_fetch = refl

-- not: past a node with a fetch goes an order that its own is longer than, instead of one that is longer than its own
pub push_merge_fetch :
    pushed (output (by_two 0 1) (besides (on (merge_op (by 0) (Some 2)) (src 2 (by 0))) (src 1 [])))
    ≡ answered (output (by_two 0 1) (besides (stack (merge_op (by 0) (Some 2) ∷ sort_op true (by_two 0 1) (Some 2) ∷ []) (src 2 (by 0)))
    (sort_two (src 1 []))))
push_merge_fetch = refl

-- not: an order goes past a merge though the merge's own would not be met: [0,2] past [0,1]
pub push_merge_order :
    pushed (output (by_two 0 2) (on (merge_op (by_two 0 1) None) (src 2 (by_two 0 1))))
    ≡ answered (output (by_two 0 2) (stack (sort_op false (by_two 0 2) None ∷ merge_op (by_two 0 1) None ∷ []) (src 2 (by_two 0 1))))
push_merge_order = refl

-- not: a global limit without a fetch stops the order
pub push_skip :
    pushed (output (by 0) (on (global_limit 2 None []) (src 1 [])))
    ≡ answered (output (by 0) (on (global_limit 2 None []) (sort 0 (src 1 []))))
push_skip = refl

-- not: single keys are compared by their columns alone (reading 6); nulls first where the other has nulls last
abbrev opened : ℕ → Key
opened c = record { col = c; desc = false; first = true }

abbrev asking : Plan → Plan
asking f = on (output_requirement (opened 0 ∷ opened 1 ∷ opened 2 ∷ []) Single (Some 3)) f

abbrev keyed_requirement : Plan
keyed_requirement = on (output_requirement (up 0 ∷ opened 2 ∷ []) (Keyed 1) None) (tree (source_of 3 2 5 [] false) none none)

pub push_options_compared :
    pushed (asking keyed_requirement)
    ≡ answered (asking (stack (merge_op (opened 1 ∷ []) None ∷ sort_op true (opened 1 ∷ []) None ∷ []) keyed_requirement))
push_options_compared = refl

-- ---- sorts that go
-- not: the child of a sort that goes is not rebuilt, so that its idle mark comes alive
pub push_rebuilt :
    pushed (stack (sort_op false (by 1) None ∷ repartition true 2 false [] ∷ sort_op false (by_two 1 0) (Some 2) ∷ []) (pair 2 (by 0) 0))
    ≡ answered (stack (repartition false 2 false [] ∷ sort_op true (by_two 1 0) (Some 2) ∷ []) (pair 2 (by 0) 0))
push_rebuilt = refl

-- not: nor is the node rebuilt before the second try
pub push_rebuilt_again :
    pushed (stack (single (by_two 0 1) ∷ repartition true 2 false [] ∷ sort_op false (by 1) (Some 2) ∷ []) (pair 2 (by_two 1 0) 0))
    ≡ answered (stack (single (by_two 0 1) ∷ merge_op (by_two 0 1) None ∷ [])
    (stack (sort_op true (by_two 0 1) None ∷ repartition false 2 false [] ∷ []) (pair 2 (by_two 1 0) 0)))
push_rebuilt_again = refl

-- not: a sort of which no order is required loses its parent's fetch
pub push_parent_fetch :
    pushed (stack (merge_op (by 0) (Some 2) ∷ local_limit (Some 1) [] ∷ sort_op false (by 0) (Some 2) ∷ []) (pair 1 [] 0))
    ≡ answered (stack (merge_op (by 0) (Some 2) ∷ local_limit (Some 1) [] ∷ sort_op false (by 0) (Some 1) ∷ []) (pair 1 [] 0))
push_parent_fetch = refl

-- not: of two orders the parent's goes on where the sort's is stricter
abbrev stricter : Plan
stricter = stack (merge_op (by 0) None ∷ sort_op true (by 1) (Some 2) ∷ []) (pair 2 [] 1)

pub push-stricter-sort : pushed stricter ≡ answered stricter
push-stricter-sort = refl

-- not: below the sort that takes another's place goes the parent's fetch
pub push_replaced_fetch :
    pushed (stack (sort_op true (up 0 ∷ turned ∷ []) None ∷ sort_op true (by 1) (Some 4) ∷ []) falling)
    ≡ answered (stack (sort_op false (turned ∷ []) None ∷ sort_op false (by 1) (Some 4) ∷ []) falling)
push_replaced_fetch = refl
