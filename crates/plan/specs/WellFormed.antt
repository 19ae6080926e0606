-- What makes a tree a plan: document 01's rules on fields, child counts, widths and columns, said of trees. These are definitions.
use Rattle.std.specs.Prelude.{Bool, true, false, cond, not, ◌&&◌, ◌||◌, List, [], ◌∷◌, map, ℕ, zero, suc, ◌+◌, ◌/◌, ◌^◌, leb, ltb, eqb, length, get_or, Option, Some, None, is_some}
use Rattle.std.specs.Int.Count.{ones}
use Rattle.row_order.specs.Iso.{Key}
use Rattle.plan.specs.Forest.{none, tree, roots, size}
use Rattle.plan.specs.Op.{On, Op, source, filter, projection, union, repartition, coalesce, sort_op, merge_op, global_limit, local_limit, sort_merge_join, hash_join, output_requirement, partial_sort, aggregate, Plan}
use Rattle.plan.specs.Numbers.{no_fetch}
use Rattle.plan.specs.declared.JoinType.{JoinType}
use Rattle.plan.specs.declared.JoinType.TheVariants.{Inner, Left, Right, Full, LeftSemi, LeftAnti, RightSemi, RightAnti}
use Rattle.plan.specs.declared.Distribution.{Distribution}
use Rattle.plan.specs.declared.Distribution.TheVariants.{Unspecified, Single, Keyed}

abbrev pub every : {A : Type 0} → (A → Bool) → List A → Bool
every p [] = true
every p (x ∷ l) = p x && every p l

abbrev pub between : ℕ → ℕ → ℕ → Bool
between low high n = leb low n && leb n high

-- ---- 6: another field outside its rule

-- A fetch is four bytes, and the largest number stands for none
abbrev pub fetch_ok : Option ℕ → Bool
fetch_ok None = true
fetch_ok (Some n) = ltb n no_fetch

-- Key count 0-8; some kinds need a key
abbrev pub few : {A : Type 0} → List A → Bool
few l = between 0 8 (length l)

abbrev pub some : {A : Type 0} → List A → Bool
some l = between 1 8 (length l)

-- Options 0
abbrev pub plain : Key → Bool
plain k = not k.desc && not k.first

-- A keyed set has 1 to 8 ones
abbrev pub distribution_ok : Distribution → Bool
distribution_ok Unspecified = true
distribution_ok Single = true
distribution_ok (Keyed s) = ltb s (2 ^ 32) && between 1 8 (ones s)

abbrev pub fields_ok : Op → Bool
fields_ok (source s) = (between 1 32 s.width && between 1 64 s.streams) && (ltb s.constants (2 ^ 32) && few s.keys)
fields_ok filter = true
fields_ok (projection cols) = between 1 32 (length cols)
fields_ok union = true
fields_ok (repartition p n h ks) = between 1 64 n && cond h (some ks && every plain ks) (eqb (length ks) 0)
fields_ok (coalesce f) = fetch_ok f
fields_ok (sort_op p ks f) = some ks && fetch_ok f
fields_ok (merge_op ks f) = some ks && fetch_ok f
fields_ok (global_limit s f note) = ltb s (2 ^ 32) && (few note && fetch_ok f)
fields_ok (local_limit f note) = is_some f && (few note && fetch_ok f)
fields_ok (sort_merge_join t on) = some on
fields_ok (hash_join t on) = some on && every (λ k. plain k.key) on
fields_ok (output_requirement ks d f) = few ks && (distribution_ok d && fetch_ok f)
fields_ok (partial_sort p ks n f) = (some ks && fetch_ok f) && (leb 1 n && ltb n (length ks))
-- 02, P1: "key list = 1 to 8 group columns, options 0"; 01: "width 1-32". That the width is "at least the key count" is a rule on its byte alone
-- (plan_format, `width_ok`)
fields_ok (aggregate ks n) = (some ks && every plain ks) && leb (length ks + n) 32

-- ---- 4: a child count that the kind can't have

-- Union 2-8 children; joins have two, sources none, the rest one
abbrev pub children_ok : Op → ℕ → Bool
children_ok (source s) k = eqb k 0
children_ok filter k = eqb k 1
children_ok (projection cols) k = eqb k 1
children_ok union k = between 2 8 k
children_ok (repartition p n h ks) k = eqb k 1
children_ok (coalesce f) k = eqb k 1
children_ok (sort_op p ks f) k = eqb k 1
children_ok (merge_op ks f) k = eqb k 1
children_ok (global_limit s f note) k = eqb k 1
children_ok (local_limit f note) k = eqb k 1
children_ok (sort_merge_join t on) k = eqb k 2
children_ok (hash_join t on) k = eqb k 2
children_ok (output_requirement ks d f) k = eqb k 1
children_ok (partial_sort p ks n f) k = eqb k 1
children_ok (aggregate ks n) k = eqb k 1

-- ---- widths; ws are the children's

abbrev pub join_width : JoinType → ℕ → ℕ → ℕ
join_width Inner a b = a + b
join_width Left a b = a + b
join_width Right a b = a + b
join_width Full a b = a + b
join_width LeftSemi a b = a
join_width LeftAnti a b = a
join_width RightSemi a b = b
join_width RightAnti a b = b

abbrev pub width : Op → List ℕ → ℕ
width (source s) ws = s.width
width filter ws = get_or ws 0 0
width (projection cols) ws = length cols
width union ws = get_or ws 0 0
width (repartition p n h ks) ws = get_or ws 0 0
width (coalesce f) ws = get_or ws 0 0
width (sort_op p ks f) ws = get_or ws 0 0
width (merge_op ks f) ws = get_or ws 0 0
width (global_limit s f note) ws = get_or ws 0 0
width (local_limit f note) ws = get_or ws 0 0
width (sort_merge_join t on) ws = join_width t (get_or ws 0 0) (get_or ws 1 0)
width (hash_join t on) ws = join_width t (get_or ws 0 0) (get_or ws 1 0)
width (output_requirement ks d f) ws = get_or ws 0 0
width (partial_sort p ks n f) ws = get_or ws 0 0
-- 02, P1: "group columns plus aggregate columns"
width (aggregate ks n) ws = length ks + n

abbrev pub widths : Plan → List ℕ
widths none = []
widths (tree o c r) = width o (widths c) ∷ widths r

-- ---- 6 again: union children of unequal width

abbrev pub union_ok : Op → List ℕ → Bool
union_ok (source s) ws = true
union_ok filter ws = true
union_ok (projection cols) ws = true
union_ok union ws = every (λ w. eqb w (get_or ws 0 0)) ws
union_ok (repartition p n h ks) ws = true
union_ok (coalesce f) ws = true
union_ok (sort_op p ks f) ws = true
union_ok (merge_op ks f) ws = true
union_ok (global_limit s f note) ws = true
union_ok (local_limit f note) ws = true
union_ok (sort_merge_join t on) ws = true
union_ok (hash_join t on) ws = true
union_ok (output_requirement ks d f) ws = true
union_ok (partial_sort p ks n f) ws = true
union_ok (aggregate ks n) ws = true

-- ---- 7: a column not below its width, or repeated in one key list

abbrev pub member : ℕ → List ℕ → Bool
member c [] = false
member c (d ∷ l) = eqb c d || member c l

abbrev pub distinct : List ℕ → Bool
distinct [] = true
distinct (c ∷ l) = not (member c l) && distinct l

abbrev pub below : ℕ → List ℕ → Bool
below w l = every (λ c. ltb c w) l

-- One list of key columns, or of a join's right key columns
abbrev pub columns_fit : ℕ → List ℕ → Bool
columns_fit w l = below w l && distinct l

-- The columns of some keys
abbrev pub columns_of : List Key → List ℕ
columns_of ks = map (λ k. k.col) ks

abbrev pub keys_fit : ℕ → List Key → Bool
keys_fit w ks = columns_fit w (columns_of ks)

abbrev pub on_fit : ℕ → ℕ → List On → Bool
on_fit w v on = columns_fit w (map (λ k. k.key.col) on) && columns_fit v (map (λ k. k.other) on)

-- A set of columns, by bits
abbrev pub set_fits : ℕ → ℕ → Bool
set_fits w s = eqb (s / 2 ^ w) 0

abbrev pub distribution_fits : ℕ → Distribution → Bool
distribution_fits w Unspecified = true
distribution_fits w Single = true
distribution_fits w (Keyed s) = set_fits w s

-- Source: own width; else the child's; joins: left's and right's; a projection may repeat columns
abbrev pub columns_ok : Op → List ℕ → Bool
columns_ok (source s) ws = keys_fit s.width s.keys && set_fits s.width s.constants
columns_ok filter ws = true
columns_ok (projection cols) ws = below (get_or ws 0 0) cols
columns_ok union ws = true
columns_ok (repartition p n h ks) ws = keys_fit (get_or ws 0 0) ks
columns_ok (coalesce f) ws = true
columns_ok (sort_op p ks f) ws = keys_fit (get_or ws 0 0) ks
columns_ok (merge_op ks f) ws = keys_fit (get_or ws 0 0) ks
columns_ok (global_limit s f note) ws = keys_fit (get_or ws 0 0) note
columns_ok (local_limit f note) ws = keys_fit (get_or ws 0 0) note
columns_ok (sort_merge_join t on) ws = on_fit (get_or ws 0 0) (get_or ws 1 0) on
columns_ok (hash_join t on) ws = on_fit (get_or ws 0 0) (get_or ws 1 0) on
columns_ok (output_requirement ks d f) ws = keys_fit (get_or ws 0 0) ks && distribution_fits (get_or ws 0 0) d
columns_ok (partial_sort p ks n f) ws = keys_fit (get_or ws 0 0) ks
columns_ok (aggregate ks n) ws = keys_fit (get_or ws 0 0) ks

-- ---- all of it, at one node over children of widths ws; 8: a node wider than 32 columns

abbrev pub node_ok : Op → List ℕ → Bool
node_ok o ws = (fields_ok o && children_ok o (length ws)) && (union_ok o ws && (columns_ok o ws && leb (width o ws) 32))

abbrev pub nodes_ok : Plan → Bool
nodes_ok none = true
nodes_ok (tree o c r) = node_ok o (widths c) && (nodes_ok c && nodes_ok r)

-- One root, and at most 126 nodes
abbrev pub well_formed : Plan → Bool
well_formed f = eqb (length (roots f)) 1 && (leb (size f) 126 && nodes_ok f)
