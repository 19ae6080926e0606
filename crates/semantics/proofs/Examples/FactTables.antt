-- The facts of small plans, by computation (01, 'Facts of a node'), kind by kind and join type by join type. A fact that is left out is no
-- unsound fact, so no theorem on rows would miss it: these tables would. 'not:' names the wrong definition that a row tells from the right one.
-- The aggregate's are in Aggregates.
use Rattle.std.specs.Prelude.{◌≡◌, refl, Bool, true, false, List, [], ◌∷◌, map, ℕ, Some, None}
use Rattle.row_order.specs.Iso.{Key}
use Rattle.plan.specs.Forest.{none, tree}
use Rattle.plan.specs.Op.{On, Op, filter, projection, union, repartition, coalesce, sort_op, merge_op, global_limit, local_limit, sort_merge_join, hash_join, output_requirement, partial_sort, Plan}
use Rattle.plan.specs.Samples.{up, source_of}
use Rattle.plan.specs.declared.JoinType.{JoinType}
use Rattle.plan.specs.declared.JoinType.TheVariants.{Inner, Left, Right, Full, LeftSemi, LeftAnti, RightSemi, RightAnti}
use Rattle.plan.specs.declared.Distribution.TheVariants.{Unspecified}
use Rattle.semantics.specs.Facts.{Facts, at0, facts}

-- facts with so many columns and streams, these constants and lowest columns, and this order
abbrev told : ℕ → ℕ → List Bool → List ℕ → List Key → Facts
told w n cs low ks = record { width = w; streams = n; consts = cs; cls = low; order = ks }

abbrev of : Plan → Facts
of f = at0 (facts f)

abbrev over : Op → Plan → Plan
over o c = tree o c none

-- two columns, of which 1 is constant, on n streams known [0]; and its right siblings
abbrev pair : ℕ → Plan → Plan
pair n r = tree (source_of 2 n 2 (up 0 ∷ []) false) none r

-- three columns: 0 and 2 are equal, 1 is constant
abbrev triple : ℕ → Plan → Plan
triple n r = tree (projection (0 ∷ 1 ∷ 0 ∷ [])) (pair n none) r

-- three columns that have nothing in common, on one stream known ks
abbrev three_by : List Key → Plan
three_by ks = tree (source_of 3 1 0 ks false) none none

-- ---- sources, projections, unions

-- not: a source knows its keys as they are written
pub of_source : of (tree (source_of 2 3 2 (up 1 ∷ up 0 ∷ []) false) none none) ≡ told 2 3 (false ∷ true ∷ []) (0 ∷ 1 ∷ []) (up 0 ∷ [])
of_source = refl

-- not: a projection knows no constants; only a column that is projected twice is a class, and not two of one class of the child
pub of-projection : (of (triple 1 none) ≡ told 3 1 (false ∷ true ∷ false ∷ []) (0 ∷ 1 ∷ 0 ∷ []) (up 0 ∷ []))
    × (of (over (projection (2 ∷ 0 ∷ [])) (triple 1 none)) ≡ told 2 1 (false ∷ false ∷ []) (0 ∷ 0 ∷ []) (up 0 ∷ []))
of-projection = (refl, refl)

-- not: a union knows no classes; it has all of its first child's; its order is the shorter of the two whether they begin alike or not
pub of-union : (of (over union (triple 1 (triple 2 none))) ≡ told 3 3 (false ∷ false ∷ false ∷ []) (0 ∷ 1 ∷ 0 ∷ []) (up 0 ∷ []))
    × (of (over union (triple 1 (three_by (up 0 ∷ up 1 ∷ [])))) ≡ told 3 2 (false ∷ false ∷ false ∷ []) (0 ∷ 1 ∷ 2 ∷ []) (up 0 ∷ []))
    × (of (over union (triple 1 (three_by (up 1 ∷ [])))) ≡ told 3 2 (false ∷ false ∷ false ∷ []) (0 ∷ 1 ∷ 2 ∷ []) [])
of-union = (refl, refl, refl)

-- ---- nodes of one child that keep its columns

-- the child's constants and classes, so many streams and that order
abbrev kept : ℕ → List Key → Facts
kept n ks = told 3 n (false ∷ true ∷ false ∷ []) (0 ∷ 1 ∷ 0 ∷ []) ks

abbrev passing : List Op
passing =
    filter ∷ repartition true 3 false [] ∷ repartition false 3 true (up 0 ∷ []) ∷ coalesce None ∷ sort_op true (up 2 ∷ up 1 ∷ []) None
    ∷ sort_op false (up 2 ∷ up 1 ∷ []) None
    ∷ merge_op (up 2 ∷ up 1 ∷ []) None ∷ global_limit 0 (Some 1) [] ∷ local_limit (Some 1) [] ∷ output_requirement (up 1 ∷ []) Unspecified None
    ∷ partial_sort true (up 2 ∷ up 1 ∷ []) 1 None
    ∷ partial_sort false (up 2 ∷ up 1 ∷ []) 1 None ∷ []

-- over two streams. not: one of these loses constants or classes; a partial sort knows no order; a filter, a limit of each stream or kind 13 loses the order
pub of_two_streams : map (λ o. of (over o (triple 2 none))) passing
    ≡ kept 2 (up 0 ∷ []) ∷ kept 3 (up 0 ∷ []) ∷ kept 3 [] ∷ kept 1 [] ∷ kept 2 (up 0 ∷ []) ∷ kept 1 (up 0 ∷ []) ∷ kept 1 (up 0 ∷ []) ∷ kept 1 []
    ∷ kept 2 (up 0 ∷ []) ∷ kept 2 (up 0 ∷ []) ∷ kept 2 (up 0 ∷ []) ∷ kept 1 (up 0 ∷ []) ∷ []
of_two_streams = refl

-- over one. not: a global limit never knows an order; an unmarked repartition never does
pub of_one_stream : map (λ o. of (over o (triple 1 none))) passing
    ≡ kept 1 (up 0 ∷ []) ∷ kept 3 (up 0 ∷ []) ∷ kept 3 (up 0 ∷ []) ∷ kept 1 [] ∷ kept 1 (up 0 ∷ []) ∷ kept 1 (up 0 ∷ []) ∷ kept 1 (up 0 ∷ [])
    ∷ kept 1 (up 0 ∷ []) ∷ kept 1 (up 0 ∷ []) ∷ kept 1 (up 0 ∷ []) ∷ kept 1 (up 0 ∷ []) ∷ kept 1 (up 0 ∷ []) ∷ []
of_one_stream = refl

-- ---- joins: `triple` on two streams, beside `triple` on three; the first columns are the keys

abbrev by_first : List On
by_first = record { key = up 0; other = 0 } ∷ []

abbrev merging : JoinType → List On → Facts
merging t on = of (over (sort_merge_join t on) (triple 2 (triple 3 none)))

abbrev hashing : JoinType → List On → Facts
hashing t on = of (over (hash_join t on) (triple 2 (triple 3 none)))

-- neither side's constants and classes, the left's, the right's, both
abbrev of_neither : ℕ → List Key → Facts
of_neither n ks = told 6 n (false ∷ false ∷ false ∷ false ∷ false ∷ false ∷ []) (0 ∷ 1 ∷ 2 ∷ 3 ∷ 4 ∷ 5 ∷ []) ks

abbrev of_left : ℕ → List Key → Facts
of_left n ks = told 6 n (false ∷ true ∷ false ∷ false ∷ false ∷ false ∷ []) (0 ∷ 1 ∷ 0 ∷ 3 ∷ 4 ∷ 5 ∷ []) ks

abbrev of_right : ℕ → List Key → Facts
of_right n ks = told 6 n (false ∷ false ∷ false ∷ false ∷ true ∷ false ∷ []) (0 ∷ 1 ∷ 2 ∷ 3 ∷ 4 ∷ 3 ∷ []) ks

abbrev of_both : ℕ → List ℕ → List Key → Facts
of_both n low ks = told 6 n (false ∷ true ∷ false ∷ false ∷ true ∷ false ∷ []) low ks

abbrev join_types : List JoinType
join_types = Inner ∷ Left ∷ Right ∷ Full ∷ LeftSemi ∷ LeftAnti ∷ RightSemi ∷ RightAnti ∷ []

-- not: of a Left join no classes are known, of a Right join none or the left's; an inner join's key pairs are not equal
pub of_merge_joins : map (λ t. merging t by_first) join_types
    ≡ of_both 2 (0 ∷ 1 ∷ 0 ∷ 0 ∷ 4 ∷ 0 ∷ []) (up 0 ∷ []) ∷ of_left 2 (up 0 ∷ []) ∷ of_right 3 (up 3 ∷ []) ∷ of_neither 2 [] ∷ kept 2 (up 0 ∷ [])
    ∷ kept 2 (up 0 ∷ []) ∷ kept 3 (up 0 ∷ []) ∷ kept 3 (up 0 ∷ []) ∷ []
of_merge_joins = refl

pub of_hash_joins : map (λ t. hashing t by_first) join_types
    ≡ of_both 3 (0 ∷ 1 ∷ 0 ∷ 0 ∷ 4 ∷ 0 ∷ []) (up 0 ∷ []) ∷ of_left 3 [] ∷ of_right 3 (up 3 ∷ []) ∷ of_neither 3 [] ∷ kept 3 []
    ∷ kept 3 [] ∷ kept 3 (up 0 ∷ []) ∷ kept 3 (up 0 ∷ []) ∷ []
of_hash_joins = refl

-- not: only the first key pair is equal
pub of_two_pairs : merging Inner (record { key = up 0; other = 0 } ∷ record { key = up 1; other = 1 } ∷ []) ≡ of_both 2 (0 ∷ 1 ∷ 0 ∷ 0 ∷ 1 ∷ 0 ∷ []) (up 0 ∷ [])
of_two_pairs = refl

-- "A class that holds a constant is all constant": the right key is. not: the pair's columns alone are constant, and not the left key's equal
pub of_constant_pair :
    merging Inner (record { key = up 0; other = 1 } ∷ [])
    ≡ told 6 2 (true ∷ true ∷ true ∷ false ∷ true ∷ false ∷ []) (0 ∷ 1 ∷ 0 ∷ 3 ∷ 0 ∷ 3 ∷ []) []
of_constant_pair = refl
