-- 01's worked examples and the readings', by computation. The ones marked * in 01 are one table: `worked`.
use Rattle.std.specs.Prelude.{◌≡◌, refl, true, false, List, [], ◌∷◌, ℕ, zero, suc, ◌^◌, Some, None}
use Rattle.row_order.specs.Iso.{Key}
use Rattle.row_order.specs.Lists.{tab}
use Rattle.plan.specs.Forest.{none, size, tree}
use Rattle.plan.specs.Op.{coalesce, filter, global_limit, hash_join, merge_op, output_requirement, partial_sort, Plan, projection, repartition, sort_merge_join, sort_op}
use Rattle.plan.specs.Samples.{by, source_of, up}
use Rattle.plan.specs.WellFormed.{width}
use Rattle.plan.specs.declared.Distribution.TheVariants.{Keyed, Single, Unspecified}
use Rattle.plan.specs.declared.JoinType.TheVariants.{Inner}
use Rattle.plan.specs.declared.Refusal.TheVariants.{ConstantSort, NoSuchNode, TooManyNodes}
use Rattle.semantics.specs.Facts.{Facts, met}
use Rattle.semantics.specs.Check.{check}
use Rattle.walks.specs.Marks.{bare, node, plant, strip, Tree}
use Rattle.walks.specs.EnsureSorting.{ensure}
use Rattle.walks.specs.OrderPreserving.{plan_with_order_breaking_variants, plan_with_order_preserving_variants, preserve, Settings}
use Rattle.walks.specs.SortPushdown.{expr_source_side, left_side, min_fetch, no_side, right_side, stronger_distribution}
use Rattle.walks.specs.PushdownSorts.{push}
use Rattle.walks.specs.Counted.{answered, ensured, parallelized, partially_sorted, preserved, pushed, refused}
use Rattle.walks.specs.Terms.{◌⊕◌}
use Rattle.walks.specs.Earlier.{earlier_answer, twenty_two}
use Rattle.walks.proofs.Examples.Samples.{besides, endless_src, on, settings, src}

-- ---- 01, 'Worked on paper', marked *
abbrev knows : List Key → Facts
knows ks = record { width = 3; streams = 1; consts = tab 3 (λ c. false); cls = tab 3 (λ c. c); order = ks }

-- Inner, 3 left columns, class {1,4}
abbrev joined : Facts
joined = record { width = 6; streams = 1; consts = tab 6 (λ c. false); cls = 0 ∷ 1 ∷ 2 ∷ 3 ∷ 1 ∷ 5 ∷ []; order = [] }

pub worked :
    (min_fetch (Some 3) (Some 5) ≡ Some 3)
    × (min_fetch (Some 3) None ≡ Some 3)
    × (min_fetch None None ≡ None)
    × (stronger_distribution (Keyed (2 ^ 1)) (Keyed (2 ^ 2)) ≡ Keyed (2 ^ 1))
    × (stronger_distribution (Keyed (2 ^ 1)) Single ≡ Single)
    × (met (knows (up 2 ∷ up 0 ∷ [])) (by 2) ≡ true)
    × (met (knows (up 2 ∷ up 0 ∷ [])) (by 0) ≡ false)
    × (met (knows (up 2 ∷ up 0 ∷ [])) (record { col = 2; desc = true; first = false } ∷ []) ≡ false)
    × (expr_source_side joined (up 4 ∷ up 0 ∷ []) Inner 3 ≡ left_side (up 1 ∷ up 0 ∷ []))
    × (expr_source_side joined (up 4 ∷ up 5 ∷ []) Inner 3 ≡ right_side (up 4 ∷ up 5 ∷ []))
    × (expr_source_side joined (up 0 ∷ up 5 ∷ []) Inner 3 ≡ no_side)
    × (expr_source_side joined (by 1) Inner 3 ≡ left_side (by 1))
    × (ensured (on (sort_op false (by 2) None) (src 1 (up 2 ∷ up 0 ∷ []))) ≡ answered (src 1 (up 2 ∷ up 0 ∷ [])))
    × (ensured (on (sort_op false (by 2) (Some 5)) (src 1 (up 2 ∷ up 0 ∷ []))) ≡ answered
    (on (global_limit 0 (Some 5) (by 2)) (src 1 (up 2 ∷ up 0 ∷ []))))
worked = (refl, refl, refl, refl, refl, refl, refl, refl, refl, refl, refl, refl, refl, refl)

-- single with keyed, the other way round, is single too
pub single_stays : (s : ℕ) → stronger_distribution Single (Keyed s) ≡ Single
single_stays s = refl

-- ---- 01, 'Worked on paper', the others
-- order-preserving, spm better: sort [2] fetch 5, filter, coalesce, two streams known [2] become filter over merge fetch 5
abbrev spm_better : Settings
spm_better = settings false true false

pub preserve_merge : preserved spm_better (on (sort_op false (by 2) (Some 5)) (on filter (on (coalesce None) (src 2 (by 2))))) ≡ answered
    (on filter (on (merge_op (by 2) (Some 5)) (src 2 (by 2))))
preserve_merge = refl

-- plan_list's example: whole sort [2] over two streams known [2,0] becomes the merge [2]
pub ensure_merge : ensured (on (sort_op false (by 2) None) (src 2 (up 2 ∷ up 0 ∷ []))) ≡ answered
    (on (merge_op (by 2) None) (src 2 (up 2 ∷ up 0 ∷ [])))
ensure_merge = refl

-- ---- 01, 'Traps'
-- analyze_immediate_sort_removal: the merge has the sort's own keys, though column 1 is constant and the known order is [2]
pub ensure_own_keys : ensured (on (sort_op false (up 2 ∷ up 1 ∷ []) None) (tree (source_of 3 2 2 (by 2) false) none none)) ≡ answered
    (on (merge_op (up 2 ∷ up 1 ∷ []) None) (tree (source_of 3 2 2 (by 2) false) none none))
ensure_own_keys = refl

-- ---- small trees that tell wrong walks apart
pub parallelize_sort : parallelized (on (sort_op false (by 0) None) (on (coalesce None) (on (repartition false 4 false []) (src 1 [])))) ≡ answered
    (on (merge_op (by 0) None) (on (sort_op true (by 0) None) (on (repartition false 4 false []) (src 1 []))))
parallelize_sort = refl

-- a repartition that has become idle goes, and its child stays: sort[0] / rr2 / coalesce / filter / s2
pub parallelize_idle : parallelized
    (on (sort_op false (by 0) None) (on (repartition false 2 false []) (on (coalesce None) (on filter (src 2 []))))) ≡ answered
    (on (merge_op (by 0) None) (on (sort_op true (by 0) None) (on filter (src 2 []))))
parallelize_idle = refl

-- a union's children keep their places
pub union_order : (ensure (besides (src 1 []) (src 2 [])) ≡ besides (src 1 []) (src 2 []))
    × (ensured (besides (src 1 []) (src 2 [])) ≡ answered (besides (src 1 []) (src 2 [])))
union_order = (refl, refl)

-- both sides of a sort-merge join are sorted, and no removal goes through it
abbrev merge_join : Plan → Plan → Plan
merge_join f g = on (sort_merge_join Inner (record { key = up 0; other = 0 } ∷ [])) (f ⊕ g)

abbrev sorted : Plan → Plan
sorted f = on (sort_op false (by 0) None) f

pub ensure_sides : ensured (merge_join (src 1 []) (src 1 [])) ≡ answered (merge_join (sorted (src 1 [])) (sorted (src 1 [])))
ensure_sides = refl

pub ensure_join : ensured (on (coalesce None) (merge_join (sorted (src 1 [])) (sorted (src 1 [])))) ≡ answered
    (on (coalesce None) (merge_join (sorted (src 1 [])) (sorted (src 1 []))))
ensure_join = refl

-- a projection that meets the order required of it stays: 13[0] / projection[0,1] / s1[0]
pub push-projection : pushed (on (output_requirement (by 0) Unspecified None) (on (projection (0 ∷ 1 ∷ [])) (src 1 (by 0)))) ≡ answered
    (on (output_requirement (by 0) Unspecified None) (on (projection (0 ∷ 1 ∷ [])) (src 1 (by 0))))
push-projection = refl

-- ---- the readings
-- 1: an idle mark that comes alive stays: rr1 p / sort[0] / s2
pub push_alive : pushed (on (repartition true 1 false []) (on (sort_op false (by 0) None) (src 2 []))) ≡ answered
    (on (repartition true 1 false []) (on (sort_op true (by 0) None) (src 2 [])))
push_alive = refl

-- 2: a rejected alternative leaves the tree as it was, sort[0] f3 / coalesce / sort[1] / s1; its order-breaking variant has a coalesce with
-- fetch 3 below the sort
pub preserve_rejected : preserved spm_better (on (sort_op false (by 0) (Some 3)) (on (coalesce None) (on (sort_op false (by 1) None) (src 1 []))))
    ≡ answered (on (sort_op false (by 0) (Some 3)) (on (coalesce None) (on (sort_op false (by 1) None) (src 1 []))))
preserve_rejected = refl

-- the coalesce of that tree, connected, over the sort
abbrev coalesced : Tree
coalesced = node (coalesce None) true (bare (on (sort_op false (by 1) None) (src 1 [])))

abbrev plan_t : Tree → Plan
plan_t t = strip (plant t none)

pub broken : plan_t (plan_with_order_breaking_variants (plan_with_order_preserving_variants false true (Some 3) coalesced)) ≡ on (coalesce (Some 3))
    (on (sort_op false (by 1) None) (src 1 []))
broken = refl

-- 3: a projection's fetch is its input's: sort[1] / projection[0,1] / sort[0] p f4 / s2
pub ensure-projection : ensured (on (sort_op false (by 1) None) (on (projection (0 ∷ 1 ∷ [])) (on (sort_op true (by 0) (Some 4)) (src 2 []))))
    ≡ answered (on (sort_op false (by 1) None)
    (on (merge_op (by 0) (Some 4)) (on (projection (0 ∷ 1 ∷ [])) (on (sort_op true (by 0) (Some 4)) (src 2 [])))))
ensure-projection = refl

-- 4: one step can add half as many nodes as the tree has: 13 single [1] / (rr2 p / 13 single)^n / sort[0] p f / s2. The reading's own tree, of
-- 61 layers, is run (worked_examples): its nodes know their facts one below the other, and computing them here takes seconds
abbrev layers : ℕ → Plan → Plan
layers zero f = f
layers (suc n) f = on (repartition true 2 false []) (on (output_requirement [] Single None) (layers n f))

abbrev chain : ℕ → Plan
chain n = on (output_requirement (by 1) Single None) (layers n (on (sort_op true (by 0) (Some 9)) (src 2 [])))

pub chain_sizes : (size (chain 10) ≡ 23) × (size (ensure (chain 10)) ≡ 35)
chain_sizes = (refl, refl)

-- and after each step the whole plan is counted: beside 84 merges over one stream, which all would go later, the chain's root leaves 142
abbrev merges : ℕ → Plan
merges zero = src 1 (by 0)
merges (suc n) = on (merge_op (by 0) None) (merges n)

abbrev beside_merges : Plan
beside_merges = besides (chain 15) (besides (besides (merges 21) (merges 21)) (besides (merges 21) (merges 21)))

pub whole_plan : (size beside_merges ≡ 125) × (size (ensure beside_merges) ≡ 58) × (ensured beside_merges ≡ refused TooManyNodes)
whole_plan = (refl, refl, refl)

-- 8: pushing is followed as written, though the answer may fail the order check
pub push_two : pushed (on (sort_op false (by 1) None) (on (sort_op false (by 0) None) (src 2 []))) ≡ answered
    (on (merge_op (by 1) None) (on (sort_op true (by 0) None) (on (sort_op true (by 1) None) (src 2 []))))
push_two = refl

pub push-filter : pushed (on filter (on (sort_op false (by 0) None) (src 2 []))) ≡ answered (on filter (on (sort_op true (by 0) None) (src 2 [])))
push-filter = refl

pub push_fetch : pushed (on (sort_op false (by 0) (Some 4)) (src 1 (by 0))) ≡ answered (src 1 (by 0))
push_fetch = refl

-- the second try: 13 single [3,1] / hash Inner [0]=[0] / (s1 const {1}, s2)
abbrev two_sides : Plan → Plan
two_sides r = on (hash_join Inner (record { key = up 0; other = 0 } ∷ [])) (tree (source_of 2 1 2 [] false) none r)

pub push_again : pushed (on (output_requirement (up 3 ∷ up 1 ∷ []) Single None) (two_sides (src 2 []))) ≡ answered
    (on (output_requirement (up 3 ∷ up 1 ∷ []) Single None) (on (merge_op (by 3) None) (two_sides (on (sort_op true (by 1) None) (src 2 [])))))
push_again = refl

-- pushing does not keep the order check, and order-preserving neither: 13[0] / rr2 / sort[0] / rr3 / s2[0], spr better
abbrev sorted_twice : Plan
sorted_twice = on (sort_op false (by 1) None) (on (sort_op false (by 0) None) (src 2 []))

pub push_breaks : (check sorted_twice ≡ true) × (check (push sorted_twice) ≡ false)
push_breaks = (refl, refl)

abbrev sorted_below : Plan
sorted_below = on (output_requirement (by 0) Unspecified None)
    (on (repartition false 2 false []) (on (sort_op false (by 0) None) (on (repartition false 3 false []) (src 2 (by 0)))))

pub preserve_breaks : (check sorted_below ≡ true) × (check (preserve (settings true false false) sorted_below) ≡ false)
preserve_breaks = (refl, refl)

-- ---- worth knowing
-- 25, and the merge whose keys are all constant: 13[0,1] / merge[0] / source, constant 0
abbrev constant : Plan
constant = tree (source_of 2 1 1 [] false) none none

pub push-constant : pushed (on (sort_op false (by 0) None) constant) ≡ refused ConstantSort
push-constant = refl

pub push_panic : pushed (on (output_requirement (up 0 ∷ up 1 ∷ []) Unspecified None) (on (merge_op (by 0) None) constant)) ≡ answered
    (on (output_requirement (up 0 ∷ up 1 ∷ []) Unspecified None) (on (sort_op false (by 1) None) (on (merge_op (by 0) None) constant)))
push_panic = refl

-- lost fetches: coalesce / merge[0] f2 / sort[0] p / s2; sort[0] f2 / merge[0] / rr1 / s2
pub ensure_lost : ensured (on (coalesce None) (on (merge_op (by 0) (Some 2)) (on (sort_op true (by 0) None) (src 2 [])))) ≡ answered
    (on (coalesce None) (src 2 []))
ensure_lost = refl

pub preserve_lost : preserved (settings false false false)
    (on (sort_op false (by 0) (Some 2)) (on (merge_op (by 0) None) (on (repartition false 1 false []) (src 2 [])))) ≡ answered
    (on (merge_op (by 0) None) (on (repartition false 1 false []) (src 2 [])))
preserve_lost = refl

-- A sort over an unbounded child that already meets all its keys had 22, and comes back since 02's P2; so does every node above and below it, idle
-- marks too
abbrev idle_marks : Plan
idle_marks =
    on (repartition true 1 false []) (on (sort_op true (by 2) None) (on (repartition true 1 false []) (endless_src 1 (up 2 ∷ up 0 ∷ []))))

pub partial_all : (earlier_answer 1 idle_marks ≡ twenty_two) × (partially_sorted 1 idle_marks ≡ answered idle_marks)
partial_all = (refl, refl)

-- one whose keys are all constant is met as well
abbrev constant_keys : Plan
constant_keys = on (sort_op false (by 0) (Some 3)) (tree (source_of 2 1 1 [] true) none none)

pub partial_constant : (earlier_answer 0 constant_keys ≡ twenty_two) × (partially_sorted 0 constant_keys ≡ answered constant_keys)
partial_constant = (refl, refl)

-- A partial sort over an unbounded child
pub partial_prefix : partially_sorted 0 (on (sort_op false (up 2 ∷ up 1 ∷ []) None) (endless_src 1 (up 2 ∷ up 0 ∷ []))) ≡ answered
    (on (partial_sort false (up 2 ∷ up 1 ∷ []) 1 None) (endless_src 1 (up 2 ∷ up 0 ∷ [])))
partial_prefix = refl

pub partial_nowhere : partially_sorted 2 (on (sort_op false (by 2) None) (endless_src 1 [])) ≡ refused NoSuchNode
partial_nowhere = refl
