-- Small tables, by computation, that pin what 01 says of rows and nodes and no theorem rests on: the SQL join of each type, the pairing of
-- streams, cuts, which kinds let a limit pass or keep the number of rows, whose order a node maintains, wanted orders, boundedness, and
-- distributions.
use Rattle.std.specs.Prelude.{◌≡◌, refl, Bool, true, false, List, [], ◌∷◌, map, ℕ, pos, Some, None}
use Rattle.row_order.specs.Iso.{null, num, Row, Key}
use Rattle.plan.specs.Forest.{none, tree}
use Rattle.plan.specs.Op.{On, Op, filter, projection, union, repartition, coalesce, sort_op, merge_op, global_limit, local_limit, sort_merge_join, hash_join, output_requirement, partial_sort, aggregate, Plan}
use Rattle.plan.specs.Samples.{up, source_of}
use Rattle.plan.specs.declared.JoinType.{JoinType}
use Rattle.plan.specs.declared.JoinType.TheVariants.{Inner, Left, Right, Full, LeftSemi, LeftAnti, RightSemi, RightAnti}
use Rattle.plan.specs.declared.Distribution.TheVariants.{Unspecified, Single, Keyed}
use Rattle.semantics.specs.Facts.{Facts, is_nil, counts, keeps_order, at0, facts}
use Rattle.semantics.specs.Properties.{wanted, cuts, maintains, supports_limit_pushdown, cardinality_equal, endless, endless_op, dist_of, singles, simple_op}
use Rattle.semantics.specs.Check.{check}
use Rattle.semantics.specs.Joins.{sql}
use Rattle.semantics.specs.Runs.{cut_rows, zip_left, zip_right}
use Rattle.semantics.proofs.Examples.SampleRows.{row, pair}

abbrev by_first : List On
by_first = record { key = up 0; other = 0 } ∷ []

abbrev lefts : List Row
lefts = row 1 ∷ row 2 ∷ (null ∷ []) ∷ []

abbrev rights : List Row
rights = row 1 ∷ row 3 ∷ (null ∷ []) ∷ []

-- the SQL join of three rows with three, one pair matching: a null matches nothing, and a row without a match is padded with nulls
pub sql_joins :
    (sql Inner by_first 1 1 lefts rights ≡ pair (num (pos 1)) (num (pos 1)) ∷ [])
    × (sql Left by_first 1 1 lefts rights ≡ pair (num (pos 1)) (num (pos 1)) ∷ pair (num (pos 2)) null ∷ pair null null ∷ [])
    × (sql Right by_first 1 1 lefts rights ≡ pair (num (pos 1)) (num (pos 1)) ∷ pair null (num (pos 3)) ∷ pair null null ∷ [])
    × (sql Full by_first 1 1 lefts rights ≡ pair (num (pos 1)) (num (pos 1)) ∷ pair (num (pos 2)) null ∷ pair null null ∷ pair null (num (pos 3))
    ∷ pair null null ∷ [])
    × (sql LeftSemi by_first 1 1 lefts rights ≡ row 1 ∷ [])
    × (sql LeftAnti by_first 1 1 lefts rights ≡ row 2 ∷ (null ∷ []) ∷ [])
    × (sql RightSemi by_first 1 1 lefts rights ≡ row 1 ∷ [])
    × (sql RightAnti by_first 1 1 lefts rights ≡ row 3 ∷ (null ∷ []) ∷ [])
sql_joins = (refl, refl, refl, refl, refl, refl, refl, refl)

-- all keys must match
pub sql_all_keys : sql Inner (record { key = up 0; other = 0 } ∷ record { key = up 1; other = 1 } ∷ []) 2 2 (pair (num (pos 1)) (num (pos 2)) ∷ [])
    (pair (num (pos 1)) (num (pos 3)) ∷ []) ≡ []
sql_all_keys = refl

-- like-numbered streams; a missing stream is empty
pub like_numbered_lem : (zip_left ((row 1 ∷ []) ∷ (row 2 ∷ []) ∷ []) ((row 3 ∷ []) ∷ []) ≡ (row 1 ∷ [], row 3 ∷ []) ∷ (row 2 ∷ [], []) ∷ [])
    × (zip_right ((row 1 ∷ []) ∷ []) ((row 3 ∷ []) ∷ (row 4 ∷ []) ∷ []) ≡ (row 1 ∷ [], row 3 ∷ []) ∷ ([], row 4 ∷ []) ∷ [])
like_numbered_lem = (refl, refl)

-- every kind with a fetch cuts by it, kind 13 too; skip cuts before fetch (reading 18)
abbrev cutting : List Op
cutting =
    coalesce (Some 1) ∷ sort_op false (up 0 ∷ []) (Some 1) ∷ merge_op (up 0 ∷ []) (Some 1) ∷ global_limit 0 (Some 1) [] ∷ local_limit (Some 1) []
    ∷ output_requirement [] Unspecified (Some 1)
    ∷ partial_sort false (up 0 ∷ up 1 ∷ []) 1 (Some 1) ∷ []

pub cut_off :
    (map (λ o. cut_rows (cuts o) (row 1 ∷ row 2 ∷ row 3 ∷ [])) cutting ≡ (row 1 ∷ []) ∷ (row 1 ∷ []) ∷ (row 1 ∷ []) ∷ (row 1 ∷ []) ∷ (row 1 ∷ [])
    ∷ (row 1 ∷ []) ∷ (row 1 ∷ []) ∷ [])
    × (cut_rows (cuts (global_limit 1 (Some 1) [])) (row 1 ∷ row 2 ∷ row 3 ∷ []) ≡ row 2 ∷ [])
    × (cut_rows (cuts (global_limit 1 None [])) (row 1 ∷ row 2 ∷ row 3 ∷ []) ≡ row 2 ∷ row 3 ∷ [])
cut_off = (refl, refl, refl)

-- one node of each kind, in the order of their numbers
abbrev pub kinds : List Op
kinds =
    source_of 2 1 0 [] false ∷ filter ∷ projection (0 ∷ []) ∷ union ∷ repartition false 2 false [] ∷ coalesce None ∷ sort_op false (up 0 ∷ []) None
    ∷ merge_op (up 0 ∷ []) None
    ∷ global_limit 0 None [] ∷ local_limit (Some 1) [] ∷ sort_merge_join Inner by_first ∷ hash_join Inner by_first ∷ output_requirement [] Single None
    ∷ partial_sort false (up 0 ∷ up 1 ∷ []) 1 None ∷ aggregate (up 0 ∷ []) 1 ∷ []

-- no other kind cuts, nor does one of these without a fetch: of two rows only the local limit's fetch takes one
abbrev two : List Row
two = row 1 ∷ row 2 ∷ []

pub cut_nothing : map (λ o. cut_rows (cuts o) two) kinds ≡ two ∷ two ∷ two ∷ two ∷ two ∷ two ∷ two ∷ two ∷ two ∷ (row 1 ∷ []) ∷ two ∷ two ∷ two ∷ two ∷ two ∷ []
cut_nothing = refl

-- of which the theorem on rows speaks: of all but the local limit with its fetch, the two joins and the aggregate
pub simple_kinds : map simple_op kinds ≡ true ∷ true ∷ true ∷ true ∷ true ∷ true ∷ true ∷ true ∷ true ∷ false ∷ false ∷ false ∷ true ∷ true ∷ false ∷ []
simple_kinds = refl

-- who lets a limit pass: projection, union, coalesce, merge and limits
pub limit_pushdown : map supports_limit_pushdown kinds ≡ false ∷ false ∷ true ∷ true ∷ false ∷ true ∷ false ∷ true ∷ true ∷ true ∷ false ∷ false ∷ false
    ∷ false ∷ false ∷ []
limit_pushdown = refl

-- who keeps the number of rows: projection, and coalesce and merge without a fetch
pub cardinality : (map cardinality_equal kinds ≡ false ∷ false ∷ true ∷ false ∷ false ∷ true ∷ false ∷ true ∷ false ∷ false ∷ false ∷ false ∷ false ∷ false
    ∷ false ∷ []) × (map cardinality_equal (coalesce (Some 1) ∷ merge_op (up 0 ∷ []) (Some 1) ∷ []) ≡ false ∷ false ∷ [])
cardinality = (refl, refl)

-- a source known ks, endless if u, and its right siblings
abbrev scan : List Key → Bool → Plan → Plan
scan ks u r = tree (source_of 2 1 0 ks u) none r

-- who maintains its first child, among the kinds: filter, projection, repartition of one stream, merge, limits, sort-merge join, kind 13, an
-- aggregate whose group column is the first key; a union only a child whose order is as long as its own
abbrev two_scans : Plan
two_scans = scan (up 0 ∷ up 1 ∷ []) false (scan (up 0 ∷ []) false none)

pub maintained : map (λ o. maintains o (facts two_scans) 0) kinds ≡ false ∷ true ∷ true ∷ false ∷ true ∷ false ∷ false ∷ true ∷ true ∷ true ∷ true ∷ false
    ∷ true ∷ false ∷ true ∷ []
maintained = refl

abbrev join_types : List JoinType
join_types = Inner ∷ Left ∷ Right ∷ Full ∷ LeftSemi ∷ LeftAnti ∷ RightSemi ∷ RightAnti ∷ []

pub maintained_inputs :
    (map (maintains union (facts two_scans)) (0 ∷ 1 ∷ []) ≡ false ∷ true ∷ [])
    × (map (maintains union (facts (scan (up 0 ∷ []) false (scan [] false none)))) (0 ∷ 1 ∷ []) ≡ false ∷ false ∷ [])
    × (map (λ t. maintains (sort_merge_join t by_first) [] 0) join_types ≡ true ∷ true ∷ false ∷ false ∷ true ∷ true ∷ false ∷ false ∷ [])
    × (map (λ t. maintains (sort_merge_join t by_first) [] 1) join_types ≡ false ∷ false ∷ true ∷ false ∷ false ∷ false ∷ true ∷ true ∷ [])
    × (map (λ t. maintains (hash_join t by_first) [] 0) join_types ≡ false ∷ false ∷ false ∷ false ∷ false ∷ false ∷ false ∷ false ∷ [])
    × (map (λ t. maintains (hash_join t by_first) [] 1) join_types ≡ true ∷ false ∷ true ∷ false ∷ false ∷ false ∷ true ∷ true ∷ [])
maintained_inputs = (refl, refl, refl, refl, refl, refl)

-- a repartition's preserve mark counts over an ordered child of several streams; over several streams it maintains only by such a mark
abbrev over : List Key → ℕ → Facts
over ks n = at0 (facts (tree (source_of 2 n 0 ks false) none none))

abbrev four_children : List Facts
four_children = over (up 0 ∷ []) 1 ∷ over (up 0 ∷ []) 2 ∷ over [] 1 ∷ over [] 2 ∷ []

pub marks_count :
    (map (counts true) four_children ≡ false ∷ true ∷ false ∷ false ∷ [])
    × (map (counts false) four_children ≡ false ∷ false ∷ false ∷ false ∷ [])
    × (map (keeps_order true) four_children ≡ true ∷ true ∷ true ∷ false ∷ [])
    × (map (keeps_order false) four_children ≡ true ∷ false ∷ true ∷ false ∷ [])
marks_count = (refl, refl, refl, refl)

-- wanted orders of the first and the second child; a sort-merge join's right keys take the left keys' options (reading 14)
abbrev down : ℕ → Key
down c = record { col = c; desc = true; first = true }

abbrev crossed : List On
crossed = record { key = up 0; other = 1 } ∷ record { key = down 1; other = 0 } ∷ []

pub wanted_orders_lem :
    (map (wanted (sort_merge_join Inner crossed)) (0 ∷ 1 ∷ 2 ∷ []) ≡ (up 0 ∷ down 1 ∷ []) ∷ (up 1 ∷ down 0 ∷ []) ∷ [] ∷ [])
    × (map (wanted (merge_op (down 0 ∷ []) None)) (0 ∷ 1 ∷ []) ≡ (down 0 ∷ []) ∷ [] ∷ [])
    × (map (wanted (output_requirement (down 0 ∷ []) Single None)) (0 ∷ 1 ∷ []) ≡ (down 0 ∷ []) ∷ [] ∷ [])
    × (map (wanted (partial_sort false (down 0 ∷ up 1 ∷ []) 1 None)) (0 ∷ 1 ∷ []) ≡ (down 0 ∷ []) ∷ [] ∷ [])
    × (map (λ o. is_nil (wanted o 0)) kinds ≡ true ∷ true ∷ true ∷ true ∷ true ∷ true ∷ true ∷ false ∷ true ∷ true ∷ false ∷ true ∷ true ∷ false ∷ true ∷ [])
wanted_orders_lem = (refl, refl, refl, refl, refl)

pub right_options :
    (check (tree (sort_merge_join Inner (record { key = down 0; other = 1 } ∷ [])) (scan (down 0 ∷ []) false (scan (down 1 ∷ []) false none)) none) ≡ true)
    × (check (tree (sort_merge_join Inner (record { key = down 0; other = 1 } ∷ [])) (scan (down 0 ∷ []) false (scan (up 1 ∷ []) false none)) none) ≡ false)
right_options = (refl, refl)

-- "Limits are bounded; any other node is unbounded if a child is". not: its first child alone is asked; a coalesce bounds
pub unbounded-kinds : map (λ o. endless_op o (false ∷ true ∷ [])) kinds ≡ true ∷ true ∷ true ∷ true ∷ true ∷ true ∷ true ∷ true ∷ false ∷ false ∷ true ∷ true
    ∷ true ∷ true ∷ true ∷ []
unbounded-kinds = refl

-- where the children are bounded, only a source can be unbounded. not: a sort, a union or a join begins rows without end
pub bounded_kinds : (map (λ o. endless_op o (false ∷ false ∷ [])) kinds ≡ map (λ o. false) kinds) × (endless_op (source_of 2 1 0 [] true) [] ≡ true)
bounded_kinds = (refl, refl)

-- a limit bounds; kind 13 does not, whatever its fetch
pub unbounded : (endless (tree filter (scan [] true none) none) ≡ true ∷ [])
    × (endless (tree (local_limit (Some 1) []) (scan [] true none) none) ≡ false ∷ [])
    × (endless (tree (output_requirement [] Single (Some 1)) (scan [] true none) none) ≡ true ∷ [])
unbounded = (refl, refl, refl)

-- wanted distributions of the first and the second child; a sort with the preserve mark wants none
pub distributions :
    (map (dist_of (sort_merge_join Inner (record { key = up 0; other = 1 } ∷ []))) (0 ∷ 1 ∷ []) ≡ Keyed 1 ∷ Keyed 2 ∷ [])
    × (map (dist_of (hash_join Inner by_first)) (0 ∷ 1 ∷ []) ≡ Single ∷ Unspecified ∷ [])
    × (map (λ o. dist_of o 0) kinds ≡ Unspecified ∷ Unspecified ∷ Unspecified ∷ Unspecified ∷ Unspecified ∷ Unspecified ∷ Single ∷ Unspecified ∷ Single
    ∷ Unspecified ∷ Keyed 1 ∷ Single ∷ Single ∷ Single ∷ Unspecified ∷ [])
    × (map (λ o. dist_of o 0) (sort_op true (up 0 ∷ []) None ∷ partial_sort true (up 0 ∷ up 1 ∷ []) 1 None ∷ []) ≡ Unspecified ∷ Unspecified ∷ [])
distributions = (refl, refl, refl, refl)

-- of which of these a single stream is wanted. not: keyed streams count as one
pub single_kinds : map (λ o. singles o 0) kinds ≡ false ∷ false ∷ false ∷ false ∷ false ∷ false ∷ true ∷ false ∷ true ∷ false ∷ false ∷ true ∷ true ∷ true
    ∷ false ∷ []
single_kinds = refl
