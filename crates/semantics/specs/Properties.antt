-- What the check and the walks ask of a node (01, 'Facts of a node'): wanted orders and distributions, what it maintains, its
-- fetch, boundedness; which nodes are no join and no aggregate and cut nothing off. These are definitions.
use Rattle.std.specs.Prelude.{Bool, true, false, cond, not, ◌&&◌, ◌||◌, List, [], ◌∷◌, map, ℕ, zero, suc, ◌^◌, eqb, length, get_or, take, Option, None, is_some}
use Rattle.std.specs.Int.Bits.{bit_or}
use Rattle.row_order.specs.Iso.{Key}
use Rattle.plan.specs.Forest.{none, tree}
use Rattle.plan.specs.Op.{On, Op, source, filter, projection, union, repartition, coalesce, sort_op, merge_op, global_limit, local_limit, sort_merge_join, hash_join, output_requirement, partial_sort, aggregate, Plan}
use Rattle.plan.specs.Numbers.{code}
use Rattle.plan.specs.WellFormed.{member}
use Rattle.plan.specs.declared.Distribution.{Distribution}
use Rattle.plan.specs.declared.Distribution.TheVariants.{Unspecified, Single, Keyed}
use Rattle.semantics.specs.Facts.{Facts, is_c, met, nothing, union_facts, is_nil, counts, keeps_order, Kept, k_left, k_right, k_none, smj_kept, hash_kept, at0, known_order, keeps_groups}

-- ---- wanted orders

-- Reading 14: a sort-merge join's right keys take the left keys' options
abbrev pub right_key : On → Key
right_key k = record { col = k.other; desc = k.key.desc; first = k.key.first }

-- A sort-merge join's keys, of its left and its right side
abbrev pub join_keys : List On → List (List Key)
join_keys on = map (λ k. k.key) on ∷ map right_key on ∷ []

-- The orders that a node wants of its children, the first one's first; of the others none.
-- "Merge, output requirement and sort-merge join want their keys as order; a limit's note is not wanted."
-- 'Rows': "a partial sort wants its prefix"
abbrev pub wanted_orders : Op → List (List Key)
wanted_orders (source s) = []
wanted_orders filter = []
wanted_orders (projection cols) = []
wanted_orders union = []
wanted_orders (repartition p n h ks) = []
wanted_orders (coalesce f) = []
wanted_orders (sort_op p ks f) = []
wanted_orders (merge_op ks f) = ks ∷ []
wanted_orders (global_limit s f note) = []
wanted_orders (local_limit f note) = []
wanted_orders (sort_merge_join t on) = join_keys on
wanted_orders (hash_join t on) = []
wanted_orders (output_requirement ks d f) = ks ∷ []
wanted_orders (partial_sort p ks n f) = take n ks ∷ []
-- 02, P1: an aggregate "wants nothing"
wanted_orders (aggregate ks n) = []

-- The order that a node wants of its child number i; the empty list is no order
abbrev pub wanted : Op → ℕ → List Key
wanted o i = get_or (wanted_orders o) i []

-- ---- wanted distributions

-- The set of some columns, by bits
abbrev pub column_set : List ℕ → ℕ
column_set [] = 0
column_set (c ∷ cols) = bit_or (column_set cols) (2 ^ c)

-- "Whole sorts and whole partial sorts (no preserve mark), global limits, a hash join's left side and kind 13 marked single want
-- one stream."
abbrev pub sort_dist : Bool → Distribution
sort_dist true = Unspecified
sort_dist false = Single

-- Reading 14: a hash join wants nothing of its right side's streams
abbrev pub left_single : ℕ → Distribution
left_single zero = Single
left_single (suc i) = Unspecified

-- A sort-merge join "wants its keys on both sides, both keyed"
abbrev pub by_side : List On → ℕ → Distribution
by_side on zero = Keyed (column_set (map (λ k. k.key.col) on))
by_side on (suc i) = Keyed (column_set (map (λ k. k.other) on))

-- The distribution that a node wants of its child number i
abbrev pub dist_of : Op → ℕ → Distribution
dist_of (source s) i = Unspecified
dist_of filter i = Unspecified
dist_of (projection cols) i = Unspecified
dist_of union i = Unspecified
dist_of (repartition p n h ks) i = Unspecified
dist_of (coalesce f) i = Unspecified
dist_of (sort_op p ks f) i = sort_dist p
dist_of (merge_op ks f) i = Unspecified
dist_of (global_limit s f note) i = Single
dist_of (local_limit f note) i = Unspecified
dist_of (sort_merge_join t on) i = by_side on i
dist_of (hash_join t on) i = left_single i
dist_of (output_requirement ks d f) i = d
dist_of (partial_sort p ks n f) i = sort_dist p
dist_of (aggregate ks n) i = Unspecified

abbrev pub is_single : Distribution → Bool
is_single Unspecified = false
is_single Single = true
is_single (Keyed s) = false

abbrev pub singles : Op → ℕ → Bool
singles o i = is_single (dist_of o i)

-- ---- what a node maintains of its child number i

abbrev pub kept_side : Kept → ℕ → Bool
kept_side k_left i = eqb i 0
kept_side k_right i = eqb i 1
kept_side k_none i = false

-- "Filter, projection, limits and output requirement maintain. .. Merge maintains, sorts and coalesce don't."
-- A union "maintains a child whose known order is as long as its own, and none if it knows no order"
abbrev pub maintains : Op → List Facts → ℕ → Bool
maintains (source s) fs i = false
maintains filter fs i = true
maintains (projection cols) fs i = true
maintains union fs i = not (is_nil (known_order (union_facts fs))) && eqb (length (known_order (get_or fs i nothing))) (length (known_order (union_facts fs)))
maintains (repartition p n h ks) fs i = keeps_order p (at0 fs)
maintains (coalesce f) fs i = false
maintains (sort_op p ks f) fs i = false
maintains (merge_op ks f) fs i = true
maintains (global_limit s f note) fs i = true
maintains (local_limit f note) fs i = true
maintains (sort_merge_join t on) fs i = kept_side (smj_kept t) i
maintains (hash_join t on) fs i = kept_side (hash_kept t) i
maintains (output_requirement ks d f) fs i = true
maintains (partial_sort p ks n f) fs i = false
maintains (aggregate ks n) fs i = keeps_groups (at0 fs) ks (known_order (at0 fs))

-- ---- fetches

-- What a node cuts off each of its output streams
pub record Cut : Type 0 where
  pub skip : ℕ
  pub fetch : Option ℕ

abbrev pub uncut : Cut
uncut = record { skip = 0; fetch = None }

abbrev pub cuts : Op → Cut
cuts (source s) = uncut
cuts filter = uncut
cuts (projection cols) = uncut
cuts union = uncut
cuts (repartition p n h ks) = uncut
cuts (coalesce f) = record { skip = 0; fetch = f }
cuts (sort_op p ks f) = record { skip = 0; fetch = f }
cuts (merge_op ks f) = record { skip = 0; fetch = f }
cuts (global_limit s f note) = record { skip = s; fetch = f }
cuts (local_limit f note) = record { skip = 0; fetch = f }
cuts (sort_merge_join t on) = uncut
cuts (hash_join t on) = uncut
cuts (output_requirement ks d f) = record { skip = 0; fetch = f }
cuts (partial_sort p ks n f) = record { skip = 0; fetch = f }
cuts (aggregate ks n) = uncut

-- Reading 3: a projection's fetch is its input's
abbrev pub fetch_op : Op → List (Option ℕ) → Option ℕ
fetch_op o fs = cond (eqb (code o) 3) (get_or fs 0 None) (cuts o).fetch

-- The fetch of each root
abbrev pub fetches : Plan → List (Option ℕ)
fetches none = []
fetches (tree o c r) = fetch_op o (fetches c) ∷ fetches r

-- "the cardinality is equal for projection, and for coalesce or merge without a fetch"
abbrev pub cardinality_equal : Op → Bool
cardinality_equal o = eqb (code o) 3 || ((eqb (code o) 6 || eqb (code o) 8) && not (is_some (cuts o).fetch))

-- "`supports_limit_pushdown` holds for kinds 3, 4, 6, 8, 9 and 10"
abbrev pub supports_limit_pushdown : Op → Bool
supports_limit_pushdown o = member (code o) (3 ∷ 4 ∷ 6 ∷ 8 ∷ 9 ∷ 10 ∷ [])

-- ---- boundedness

abbrev pub is_limit : Op → Bool
is_limit o = eqb (code o) 9 || eqb (code o) 10

-- "bit 2 unbounded (source)"
abbrev pub source_endless : Op → Bool
source_endless (source s) = s.unbounded
source_endless filter = false
source_endless (projection cols) = false
source_endless union = false
source_endless (repartition p n h ks) = false
source_endless (coalesce f) = false
source_endless (sort_op p ks f) = false
source_endless (merge_op ks f) = false
source_endless (global_limit s f note) = false
source_endless (local_limit f note) = false
source_endless (sort_merge_join t on) = false
source_endless (hash_join t on) = false
source_endless (output_requirement ks d f) = false
source_endless (partial_sort p ks n f) = false
source_endless (aggregate ks n) = false

abbrev pub any_of : List Bool → Bool
any_of [] = false
any_of (b ∷ bs) = b || any_of bs

-- "Limits are bounded; any other node is unbounded if a child is" (kind 13 too: reading 13)
abbrev pub endless_op : Op → List Bool → Bool
endless_op o bs = not (is_limit o) && (source_endless o || any_of bs)

abbrev pub endless : Plan → List Bool
endless none = []
endless (tree o c r) = endless_op o (endless c) ∷ endless r

-- ---- what rewrites ask

-- "A sort is final unless its child meets its keys."
abbrev pub is_final : Facts → List Key → Bool
is_final F ks = not (met F ks)

-- Another preserve mark on a repartition
abbrev pub remark : (Bool → Bool) → Op → Op
remark g (source s) = source s
remark g filter = filter
remark g (projection cols) = projection cols
remark g union = union
remark g (repartition p n h ks) = repartition (g p) n h ks
remark g (coalesce f) = coalesce f
remark g (sort_op p ks f) = sort_op p ks f
remark g (merge_op ks f) = merge_op ks f
remark g (global_limit s f note) = global_limit s f note
remark g (local_limit f note) = local_limit f note
remark g (sort_merge_join t on) = sort_merge_join t on
remark g (hash_join t on) = hash_join t on
remark g (output_requirement ks d f) = output_requirement ks d f
remark g (partial_sort p ks n f) = partial_sort p ks n f
remark g (aggregate ks n) = aggregate ks n

-- Reading 1: a preserve mark stays where it counts. "a rewrite clears it elsewhere when it rebuilds the node"
abbrev pub rebuilt : Op → List Facts → Op
rebuilt o fs = remark (λ p. counts p (at0 fs)) o

-- Reading 7: `add_sort_above`'s keys, less the constants and a column's later repeats
abbrev pub fresh_keys : Facts → List ℕ → List Key → List Key
fresh_keys F seen [] = []
fresh_keys F seen (k ∷ ks) = cond (is_c F k.col || member k.col seen) (fresh_keys F seen ks) (k ∷ fresh_keys F (k.col ∷ seen) ks)

-- ---- a node that is no join and no aggregate, and cuts nothing off

abbrev pub is_all : Option ℕ → Bool
is_all f = not (is_some f)

abbrev pub whole : Cut → Bool
whole k = eqb k.skip 0 && is_all k.fetch

abbrev pub is_join : Op → Bool
is_join o = eqb (code o) 11 || eqb (code o) 12

-- 02, P1: "The sentence on lost rows stays for trees without aggregates."
abbrev pub is_aggregate : Op → Bool
is_aggregate o = eqb (code o) 15

abbrev pub simple_op : Op → Bool
simple_op o = whole (cuts o) && not (is_join o || is_aggregate o)
