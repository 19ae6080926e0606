-- utils.rs: tests of kinds, and sorts put above a node. These are definitions.
use Rattle.std.specs.Prelude.{Bool, cond, ◌&&◌, List, [], ◌∷◌, ◌++◌, eqb, ltb, Option, ℕ}
use Rattle.row_order.specs.Iso.{Key}
use Rattle.plan.specs.Op.{Op, sort_op, merge_op}
use Rattle.plan.specs.Numbers.{code}
use Rattle.plan.specs.declared.Distribution.{Distribution}
use Rattle.semantics.specs.Facts.{Facts, met}
use Rattle.semantics.specs.Properties.{is_single, fresh_keys}
use Rattle.walks.specs.Marks.{cover, cover_with, fact, PlanContext, Tree}

-- ---- is_sort, is_sort_preserving_merge, is_coalesce_partitions, is_repartition; is_limit is is_limit of Properties.
-- is_window is not kept: 01 has no windows; nor is is_union, which nothing here asks

abbrev pub is_sort : Op → Bool
is_sort o = eqb (code o) 7

abbrev pub is_sort_preserving_merge : Op → Bool
is_sort_preserving_merge o = eqb (code o) 8

abbrev pub is_coalesce_partitions : Op → Bool
is_coalesce_partitions o = eqb (code o) 6

abbrev pub is_repartition : Op → Bool
is_repartition o = eqb (code o) 5

-- ---- the new nodes, outermost first: of no keys, none

abbrev pub new_sort : Bool → List Key → Option ℕ → List Op
new_sort p [] f = []
new_sort p (k ∷ ks) f = sort_op p (k ∷ ks) f ∷ []

abbrev pub new_merge : List Key → Option ℕ → List Op
new_merge [] f = []
new_merge (k ∷ ks) f = merge_op (k ∷ ks) f ∷ []

-- add_sort_above, over a node with facts F: its keys as written, less the constants (reading 7) and a column's later repeats; with
-- the preserve mark over several streams
abbrev pub sort_above : Facts → List Key → Option ℕ → List Op
sort_above F ks f = new_sort (ltb 1 F.streams) (fresh_keys F [] ks) f

-- "the parent requires SinglePartition and the input has multiple partitions"
abbrev pub needs_merge : Facts → Distribution → Bool
needs_merge F d = ltb 1 F.streams && is_single d

-- add_sort_above_with_distribution: there, a merge of the same keys and fetch over the sort
abbrev pub merge_above : Facts → List Key → Option ℕ → List Op
merge_above F ks f = new_merge (fresh_keys F [] ks) f

abbrev pub sort_above_with_distribution : Facts → List Key → Option ℕ → Distribution → List Op
sort_above_with_distribution F ks f d = cond (needs_merge F d) (merge_above F ks f ++ sort_above F ks f) (sort_above F ks f)

-- add_sort_above
abbrev pub add_sort_above : List Key → Option ℕ → Tree → Tree
add_sort_above ks f t = cover (sort_above (fact t) ks f) t

-- add_sort_above_with_distribution; x: the data of the new nodes, T::default()
abbrev pub add_sort_above_with_distribution : {T : Type 0} → T → List Key → Option ℕ → Distribution → PlanContext T → PlanContext T
add_sort_above_with_distribution x ks f d t = cover_with x (sort_above_with_distribution (fact t) ks f d) t

-- add_sort_above_with_check
abbrev pub add_sort_above_with_check : List Key → Option ℕ → Tree → Tree
add_sort_above_with_check ks f t = cond (met (fact t) ks) t (add_sort_above ks f t)
