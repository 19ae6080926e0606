-- The last pass over the records, from the last node to the first: unequal union, 7, 8 (document 01's order; reading 15). These are definitions.
use Rattle.std.specs.Prelude.{Bool, cond, ◌&&◌, ◌||◌, not, List, [], ◌∷◌, ℕ, ◌+◌, ◌/◌, ◌^◌, leb, ltb, eqb, length, get_or, take, drop, Ok, Err}
use Rattle.scan.specs.Bytes.{all_below, part, le32}
use Rattle.plan.specs.Numbers.{Verdict, Accepted}
use Rattle.plan.specs.declared.Refusal.TheVariants.{Field, Column, Width}
use Rattle.plan_format.specs.declared.Fields.{Fields}
use Rattle.plan_format.specs.Record.{kind_byte, children, fields}

-- ---- widths; ws are the children's, the first child's first

-- Inner, Left, Right, Full have both sides; LeftSemi and LeftAnti (4, 5) the left; RightSemi and RightAnti (6, 7) the right
abbrev pub join_width : ℕ → ℕ → ℕ → ℕ
join_width t a b = cond (ltb t 4) (a + b) (cond (ltb t 6) a b)

-- Source, projection and aggregate have their own width, joins that of both sides by their type, the rest the first child's
abbrev pub width_of : Fields → List ℕ → List ℕ → ℕ
width_of f r ws = cond f.width (get_or r 13 0) (cond f.join (join_width (get_or r 14 0) (get_or ws 0 0) (get_or ws 1 0)) (get_or ws 0 0))

-- ---- 6: 'union children of unequal width'

unfoldable pub same_widths : List ℕ → Bool
same_widths ws = all_below (λ i. eqb (get_or ws i 0) (get_or ws 0 0)) (length ws)

abbrev pub union_ok : List ℕ → List ℕ → Bool
union_ok r ws = not (eqb (kind_byte r) 4) || same_widths ws

-- ---- 7: 'a column not below its width (source: own; else the child's; joins: left's and right's), or repeated in one key list; a projection may repeat
-- columns'

-- Each column of a list lies below the limit
unfoldable pub below_ok : List ℕ → ℕ → Bool
below_ok l limit = all_below (λ i. ltb (get_or l i 0) limit) (length l)

-- The column at i is none of those before it
unfoldable pub fresh_ok : List ℕ → ℕ → Bool
fresh_ok l i = all_below (λ j. not (eqb (get_or l j 0) (get_or l i 0))) i

-- A key list: below the limit, and none repeated
abbrev pub column_ok : List ℕ → ℕ → ℕ → Bool
column_ok l limit i = ltb (get_or l i 0) limit && fresh_ok l i

unfoldable pub columns_ok : List ℕ → ℕ → Bool
columns_ok l limit = all_below (column_ok l limit) (length l)

-- A set of columns by bits (reading 16)
abbrev pub set_below : ℕ → ℕ → Bool
set_below x limit = eqb (x / 2 ^ limit) 0

-- The columns of the eight keys
abbrev pub key_columns : List ℕ → List ℕ
key_columns r = get_or r 16 0 ∷ get_or r 18 0 ∷ get_or r 20 0 ∷ get_or r 22 0 ∷ get_or r 24 0 ∷ get_or r 26 0 ∷ get_or r 28 0 ∷ get_or r 30 0 ∷ []

-- The width that a node's columns must lie below; of a join, its left key columns
abbrev pub column_limit : Fields → List ℕ → List ℕ → ℕ
column_limit f r ws = cond f.constants (get_or r 13 0) (get_or ws 0 0)

-- limit: that width; limit1: the second child's, for a join's right key columns
abbrev pub columns_rule : Fields → List ℕ → ℕ → ℕ → Bool
columns_rule f r limit limit1 =
    (columns_ok (take (get_or r 12 0) (key_columns r)) limit && (not (f.constants || f.distribution) || set_below (le32 r 32) limit))
    && ((not f.columns || below_ok (part 32 (get_or r 13 0) r) limit) && (not f.join || columns_ok (part 32 (get_or r 12 0) r) limit1))

-- ---- one node, over children of widths ws; 8: 'a node wider than 32 columns'

unfoldable pub node_refusal : List ℕ → List ℕ → Verdict
node_refusal r ws =
    cond (union_ok r ws)
    (cond (columns_rule (fields r) r (column_limit (fields r) r ws) (get_or ws 1 0))
    (cond (leb (width_of (fields r) r ws) 32) Accepted (Err Width))
    (Err Column))
    (Err Field)

-- ---- all nodes

-- The widths of the finished trees of some last records: a record takes its children's and leaves its own
abbrev pub widths : List (List ℕ) → List ℕ
widths [] = []
widths (r ∷ l) = width_of (fields r) r (take (children r) (widths l)) ∷ drop (children r) (widths l)

-- What is refused first: a, or b where a accepts
abbrev pub and_then : Verdict → Verdict → Verdict
and_then (Ok x) b = b
and_then (Err r) b = Err r

abbrev pub last_pass : List (List ℕ) → Verdict
last_pass [] = Accepted
last_pass (r ∷ l) = and_then (last_pass l) (node_refusal r (take (children r) (widths l)))
