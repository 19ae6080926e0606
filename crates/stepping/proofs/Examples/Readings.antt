-- The examples of docs/DECISIONS.md on dry runs, computed.
use Rattle.std.specs.Prelude.{◌≡◌, refl, true, false, List, [], ◌∷◌, ◌++◌, map, ℕ, pos, length, get_or, Some, None}
use Rattle.row_order.specs.Iso.{Row, null, num}
use Rattle.row_order.specs.Lists.{concat}
use Rattle.scan.specs.Bytes.{all_below}
use Rattle.plan.specs.Forest.{none, tree}
use Rattle.plan.specs.Op.{Op, filter, union, repartition, coalesce, sort_op, merge_op, global_limit, local_limit, hash_join, Plan}
use Rattle.plan.specs.Samples.{up, by, source_of}
use Rattle.plan.specs.declared.JoinType.TheVariants.{Inner}
use Rattle.semantics.specs.Runs.{Streams}
use Rattle.semantics.proofs.Examples.SampleRows.{row, pair}
use Rattle.stepping.specs.Moves.{opens, moves}
use Rattle.stepping.specs.Stepping.{start, after, delivered}
use Rattle.stepping.specs.RowBytes.{streams_bytes}
use Rattle.stepping.specs.Answers.{answer, refused, written}

-- Sources of n streams, without an order and ordered by column 0
abbrev source : ℕ → Plan
source n = tree (source_of 1 n 0 [] false) none none

abbrev ordered : ℕ → Plan
ordered n = tree (source_of 1 n 0 (by 0) false) none none

abbrev over : Op → Plan → Plan
over o c = tree o c none

-- The rows of one source
abbrev only : Streams → ℕ → ℕ → List Row
only s i k = get_or s k []

abbrev line : List ℕ → List Row
line l = map row l

abbrev one : ℕ → List Row
one n = line (n ∷ [])

-- 1: a source alone has delivered
pub alone : delivered (source 2) (only (one 1 ∷ one 2 ∷ [])) [] ≡ one 1 ∷ one 2 ∷ []
alone = refl

-- 2: a hash repartition sends rows to any stream
pub any_output : delivered (over (repartition false 2 true (by 0)) (source 1)) (only (line (1 ∷ 1 ∷ []) ∷ [])) (0 ∷ 1 ∷ []) ≡ one 1 ∷ one 1 ∷ []
any_output = refl

-- 3: a merge's first input is closed from the start
pub closed_at_once : let rows = only ([] ∷ line (1 ∷ 2 ∷ []) ∷ []) in concat (opens (over filter (ordered 2)) (start rows 0 (over filter (ordered 2)))) ≡ false ∷ true ∷ []
closed_at_once = refl

-- 3: a row that will be cut keeps its stream open
pub cuts_aside : delivered (over (repartition true 2 false []) (over (local_limit (Some 1) []) (ordered 2))) (only (line (1 ∷ 1 ∷ []) ∷ one 1 ∷ [])) (0 ∷ 1 ∷ []) ≡
    one 1 ∷ one 1 ∷ []
cuts_aside = refl

-- 4: a preserving sort waits for all its streams
pub waits_for_all : delivered (over (coalesce None) (over (sort_op true (by 0) None) (over filter (source 2)))) (only (one 1 ∷ one 2 ∷ [])) (0 ∷ 1 ∷ []) ≡
    line (2 ∷ 1 ∷ []) ∷ []
waits_for_all = refl

-- 5: a mark that does not count
pub idle_mark : delivered (over (repartition true 2 false []) (source 2)) (only (one 1 ∷ one 2 ∷ [])) (1 ∷ []) ≡ [] ∷ line (2 ∷ 1 ∷ []) ∷ []
idle_mark = refl

-- 6: modulo the streams with a row; the empty list is zeros; a list that ends starts over
pub modulo_rows : delivered (over (coalesce None) (source 3)) (only (one 1 ∷ [] ∷ one 2 ∷ [])) (2 ∷ []) ≡ line (1 ∷ 2 ∷ []) ∷ []
modulo_rows = refl

pub zeros : delivered (over (coalesce None) (source 2)) (only (line (1 ∷ 3 ∷ []) ∷ one 2 ∷ [])) [] ≡ line (1 ∷ 3 ∷ 2 ∷ []) ∷ []
zeros = refl

pub starts_over : delivered (over (repartition false 2 false []) (source 2)) (only (line (1 ∷ 2 ∷ []) ∷ one 3 ∷ [])) (1 ∷ 0 ∷ 1 ∷ []) ≡
    one 3 ∷ line (1 ∷ 2 ∷ []) ∷ []
starts_over = refl

-- 6: operators in node order, a union's input streams counted through its children
abbrev branches : Plan
branches = over (coalesce None) (tree union (tree (source_of 1 2 0 [] false) none (over filter (source 1))) none)

abbrev branch_rows : ℕ → ℕ → List Row
branch_rows i k = get_or (get_or ((one 1 ∷ one 2 ∷ []) ∷ (one 3 ∷ []) ∷ []) i []) k []

pub node_order : delivered branches branch_rows (2 ∷ 1 ∷ 0 ∷ []) ≡ line (2 ∷ 1 ∷ 3 ∷ []) ∷ []
node_order = refl

pub counted_through : delivered (tree union (tree (source_of 1 2 0 [] false) none (over filter (source 1))) none) branch_rows [] ≡ one 1 ∷ one 2 ∷ one 3 ∷ []
counted_through = refl

-- 7: the earliest of peers; at a source stream 0's rows first, else the order of the moves
abbrev wide : Plan
wide = tree (source_of 2 2 0 [] false) none none

abbrev marked : ℕ → ℕ → Row
marked n m = pair (num (pos n)) (num (pos m))

pub by_arrival : delivered (over (sort_op false (by 0) None) wide) (only ((marked 1 7 ∷ marked 0 7 ∷ []) ∷ (marked 1 8 ∷ marked 0 8 ∷ []) ∷ [])) [] ≡
    (marked 0 7 ∷ marked 0 8 ∷ marked 1 7 ∷ marked 1 8 ∷ []) ∷ []
by_arrival = refl

pub by-moves : delivered (over (sort_op false (by 0) None) (over (coalesce None) wide)) (only ((marked 1 7 ∷ []) ∷ (marked 1 8 ∷ []) ∷ [])) (1 ∷ []) ≡
    (marked 1 8 ∷ marked 1 7 ∷ []) ∷ []
by-moves = refl

-- 7: a merge takes peers from the lowest stream, nulls last
pub lowest_stream : delivered (over (merge_op (by 0) None) (tree (source_of 2 2 0 (by 0) false) none none))
    (only ((marked 1 7 ∷ pair null (num (pos 7)) ∷ []) ∷ (marked 1 8 ∷ marked 2 8 ∷ []) ∷ [])) (5 ∷ []) ≡
    (marked 1 7 ∷ marked 1 8 ∷ marked 2 8 ∷ pair null (num (pos 7)) ∷ []) ∷ []
lowest_stream = refl

-- 8: skip before fetch; a cut row's move is a step
abbrev limited : Plan
limited = over (global_limit 1 (Some 2) []) (source 1)

abbrev four : ℕ → ℕ → List Row
four = only (line (1 ∷ 2 ∷ 3 ∷ 4 ∷ []) ∷ [])

pub skips : delivered limited four [] ≡ line (2 ∷ 3 ∷ []) ∷ []
skips = refl

pub four_steps : (length (moves limited (after limited [] 3 0 (start four 0 limited))) ≡ 1) × (moves limited (after limited [] 4 0 (start four 0 limited)) ≡ [])
four_steps = (refl, refl)

-- 9 and 10: the rows' bytes, and the refusals in their order
abbrev two_rows : List ℕ
two_rows = streams_bytes (one 1 ∷ ((null ∷ []) ∷ []) ∷ [])

pub round_trip : answer (source 2) two_rows [] 100 ≡ written two_rows
unfolding all_below
round_trip = refl

pub one_short : answer (source 2) two_rows [] 31 ≡ refused 24
unfolding all_below
one_short = refl

pub left_over : answer (source 2) (two_rows ++ (0 ∷ [])) [] 100 ≡ refused 26
unfolding all_below
left_over = refl

pub not_ordered : answer (ordered 1) (streams_bytes (line (2 ∷ 1 ∷ []) ∷ [])) [] 100 ≡ refused 26
unfolding all_below
not_ordered = refl

-- null is a value: a constant column with a number and a null
pub not_constant : answer (tree (source_of 1 2 1 [] false) none none) two_rows [] 100 ≡ refused 26
unfolding all_below
not_constant = refl

pub join_first : answer (over filter (tree (hash_join Inner (record { key = up 0; other = 0 } ∷ [])) (tree (source_of 1 1 0 [] false) none (source 1)) none)) [] [] 0 ≡ refused 257
join_first = refl
