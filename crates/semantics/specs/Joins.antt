-- The SQL join of two lists of rows, and what a join puts out (01, 'Rows'). These are definitions.
use Rattle.std.specs.Prelude.{Bool, true, false, cond, ◌&&◌, List, [], ◌∷◌, ◌++◌, map, ℕ, ℤ}
use Rattle.row_order.specs.Iso.{Cell, null, num, Row, cell, eqℤ}
use Rattle.row_order.specs.Lists.{tab, concat, Same}
use Rattle.plan.specs.Op.{On}
use Rattle.plan.specs.declared.JoinType.{JoinType}
use Rattle.plan.specs.declared.JoinType.TheVariants.{Inner, Left, Right, Full, LeftSemi, LeftAnti, RightSemi, RightAnti}
use Rattle.semantics.specs.Facts.{Kept, k_left, k_right, k_none}

abbrev pub keep : {A : Type 0} → (A → Bool) → List A → List A
keep p [] = []
keep p (x ∷ l) = cond (p x) (x ∷ keep p l) (keep p l)

-- A left row, w columns wide, beside a right row
abbrev pub join_row : ℕ → Row → Row → Row
join_row w l r = tab w (cell l) ++ r

-- A row of nulls, w columns wide
abbrev pub nulls : ℕ → Row
nulls w = tab w (λ c. null)

-- SQL equality: a null equals nothing
abbrev pub eq_cells : Cell → Cell → Bool
eq_cells null y = false
eq_cells (num x) null = false
eq_cells (num x) (num y) = eqℤ x y

abbrev pub matches : List On → Row → Row → Bool
matches [] l r = true
matches (k ∷ on) l r = eq_cells (cell l k.key.col) (cell r k.other) && matches on l r

-- m where l is empty
abbrev pub or_else : {A : Type 0} → List A → List A → List A
or_else [] m = m
or_else (x ∷ l) m = x ∷ l

-- m where l has an element, else n
abbrev pub if_any : {A B : Type 0} → List A → List B → List B → List B
if_any [] m n = n
if_any (x ∷ l) m n = m

-- ---- the SQL join of left rows L, w columns wide, and right rows R, v columns wide

-- The rows that a left row makes with its matches, and a right row with its
abbrev pub left_pairs : List On → ℕ → List Row → Row → List Row
left_pairs on w R l = map (join_row w l) (keep (matches on l) R)

abbrev pub right_pairs : List On → ℕ → List Row → Row → List Row
right_pairs on w L r = map (λ l. join_row w l r) (keep (λ l. matches on l r) L)

-- What one row of a side gives: the rows that it makes with its matches; these, or where it has none itself beside nulls; itself where
-- it has a match; itself where it has none
pub data Gives : Type 0 where
  matched padded semi anti : Gives

-- ms: the rows that x makes with its matches; alone: x beside nulls
abbrev pub given : Gives → List Row → Row → Row → List Row
given matched ms x alone = ms
given padded ms x alone = or_else ms (alone ∷ [])
given semi ms x alone = if_any ms (x ∷ []) []
given anti ms x alone = if_any ms [] (x ∷ [])

abbrev pub g_left : Gives → List On → ℕ → ℕ → List Row → Row → List Row
g_left g on w v R l = given g (left_pairs on w R l) l (join_row w l (nulls v))

abbrev pub g_right : Gives → List On → ℕ → List Row → Row → List Row
g_right g on w L r = given g (right_pairs on w L r) r (join_row w (nulls w) r)

-- A right row that matches no left row, beside nulls
abbrev pub unmatched : List On → ℕ → List Row → Row → List Row
unmatched on w L r = if_any (right_pairs on w L r) [] (join_row w (nulls w) r ∷ [])

-- "all rows of the SQL join"
abbrev pub sql : JoinType → List On → ℕ → ℕ → List Row → List Row → List Row
sql Inner on w v L R = concat (map (g_left matched on w v R) L)
sql Left on w v L R = concat (map (g_left padded on w v R) L)
sql Right on w v L R = concat (map (g_right padded on w L) R)
sql Full on w v L R = concat (map (g_left padded on w v R) L) ++ concat (map (unmatched on w L) R)
sql LeftSemi on w v L R = concat (map (g_left semi on w v R) L)
sql LeftAnti on w v L R = concat (map (g_left anti on w v R) L)
sql RightSemi on w v L R = concat (map (g_right semi on w L) R)
sql RightAnti on w v L R = concat (map (g_right anti on w L) R)

-- ---- "in the order of the kept side's rows"

-- A join's rows told row by row of one side, by what each gives; or they can't be told by that side
pub data Told : Type 0 where
  told : Gives → Told
  untold : Told

abbrev pub by_left_rows : JoinType → Told
by_left_rows Inner = told matched
by_left_rows Left = told padded
by_left_rows Right = untold
by_left_rows Full = untold
by_left_rows LeftSemi = told semi
by_left_rows LeftAnti = told anti
by_left_rows RightSemi = untold
by_left_rows RightAnti = untold

abbrev pub by_right_rows : JoinType → Told
by_right_rows Inner = told matched
by_right_rows Left = untold
by_right_rows Right = told padded
by_right_rows Full = untold
by_right_rows LeftSemi = untold
by_right_rows LeftAnti = untold
by_right_rows RightSemi = told semi
by_right_rows RightAnti = told anti

-- Row by row, the rows of one kept row in any order
pub data Grouped (g : Row → List Row) : List Row → List Row → Type 0 where
  grouped_nil : Grouped g [] []
  grouped_cons : {x : Row} {l t m : List Row} → Same t (g x) → Grouped g l m → Grouped g (x ∷ l) (t ++ m)

-- No rows are in the order of a side by which they can't be told
abbrev pub RowByRow : Told → (Gives → Row → List Row) → List Row → List Row → Type 0
RowByRow (told k) g l out = Grouped (g k) l out
RowByRow untold g l out = ⊥

-- What a join may put out for one pair of streams; "or in any order where no side is kept". JoinRows: whichever side is kept, all rows of
-- the SQL join of that pair. Exists: no join keeps a side by which its rows can't be told
abbrev pub Joined : JoinType → Kept → List On → ℕ → ℕ → List Row × List Row → List Row → Type 0
Joined t k_left on w v p out = RowByRow (by_left_rows t) (λ k. g_left k on w v p.1) p.0 out
Joined t k_right on w v p out = RowByRow (by_right_rows t) (λ k. g_right k on w p.0) p.1 out
Joined t k_none on w v p out = Same out (sql t on w v p.0 p.1)
