-- The first state in the tables: all rows stand in one list, source by source and stream by stream, each at its source's place. Assumes nothing.
use Rattle.std.specs.Prelude.{◌≡◌, refl, Bool, true, false, cond, ◌⊎◌, List, [], ◌∷◌, ◌++◌, map, ℕ, zero, suc, ◌+◌, ◌-◌, ◌<◌, ◌≤◌, length, get_or}
use Rattle.std.proofs.Common.{sym, ap, ap₂, ◌∙◌, subst, inl, inr, append_assoc, arith}
use Rattle.row_order.specs.Iso.{Row}
use Rattle.row_order.specs.Lists.{All, all_nil, all_cons, tab}
use Rattle.row_order.specs.ListLaws.{all_append, all_map}
use Rattle.plan.specs.Forest.{Forest, none, tree, size}
use Rattle.plan.specs.Op.{Op, Plan}
use Rattle.semantics.specs.Facts.{Facts, facts_op, facts}
use Rattle.semantics.specs.Runs.{next_s, past}
use Rattle.stepping.specs.Outlets.{Placed, place, Outlet, tally}
use Rattle.stepping.specs.Stepping.{given, start}
use Rattle.stepping.proofs.Theorems.Ranges.{given_within}
use Rattle.step_tables.specs.Places.{within, waiting_in, total, inner, Tables, Shows, shows_none, shows_tree}
use Rattle.step_tables.specs.Shown.{within-true, within_below, within_above, append_none, tab_ext}

-- The row at place a + its stream
abbrev pub move_by : ℕ → Placed → Placed
move_by a x = place (a + x.stream) x.row

-- All rows of a forest's sources, in node order, each with its place; i: the number of the first source
abbrev pub all_rows : (ℕ → ℕ → List Row) → ℕ → ℕ → ℕ → Plan → List Placed
all_rows rows i a b none = []
all_rows rows i a b (tree o c r) =
    map (move_by a) (given rows i o) ++
    (all_rows rows (next_s o i) b (b + total (facts c)) c ++
    all_rows rows (past next_s c (next_s o i)) (a + (facts_op o (facts c)).streams) (b + total (facts c) + inner c) r)

-- Those at the m places from a on, each with its stream
abbrev pub pick_out : ℕ → ℕ → List Placed → List Placed
pick_out a m [] = []
pick_out a m (x ∷ l) = cond (within a m x.stream) (place (x.stream - a) x.row ∷ pick_out a m l) (pick_out a m l)

pick_append : (a m : ℕ) (l k : List Placed) → pick_out a m (l ++ k) ≡ pick_out a m l ++ pick_out a m k
pick_append a m [] k = refl
pick_append a m (x ∷ l) k = go (within a m x.stream) (pick_append a m l k)
  where
    go : (t : Bool) → pick_out a m (l ++ k) ≡ pick_out a m l ++ pick_out a m k →
        cond t (place (x.stream - a) x.row ∷ pick_out a m (l ++ k)) (pick_out a m (l ++ k)) ≡
        cond t (place (x.stream - a) x.row ∷ pick_out a m l) (pick_out a m l) ++ pick_out a m k
    go true e = ap (λ q. place (x.stream - a) x.row ∷ q) e
    go false e = e

-- x is at none of these places
abbrev pub Off : ℕ → ℕ → Placed → Type 0
Off a m x = (x.stream < a) ⊎ (a + m ≤ x.stream)

off_not : (a m : ℕ) (x : Placed) → Off a m x → within a m x.stream ≡ false
off_not a m x (inl h) = within_below a m x.stream h
off_not a m x (inr h) = within_above a m x.stream h

pick_none : (a m : ℕ) {l : List Placed} → All (Off a m) l → pick_out a m l ≡ []
pick_none a m all_nil = refl
pick_none a m (all_cons {x = x} {l = l} h k) =
    ap (λ (t : Bool). cond t (place (x.stream - a) x.row ∷ pick_out a m l) (pick_out a m l)) (off_not a m x h) ∙ pick_none a m k

-- Rows below m streams, moved to a on, are found there
pick_own : (a m : ℕ) {l : List Placed} → All (λ x. x.stream < m) l → pick_out a m (map (move_by a) l) ≡ l
pick_own a m all_nil = refl
pick_own a m (all_cons {x = x} {l = l} h k) =
    let e : a + x.stream - a ≡ x.stream = omega arith in
    ap (λ (t : Bool). cond t (place (a + x.stream - a) x.row ∷ pick_out a m (map (move_by a) l)) (pick_out a m (map (move_by a) l)))
    (within-true a m (a + x.stream) (omega arith) (omega arith))
    ∙ ap₂ (λ (s : ℕ) (q : List Placed). place s x.row ∷ q) e (pick_own a m k)

-- ---- where a forest's rows are
abbrev pub Of : ℕ → ℕ → Plan → Placed → Type 0
Of a b f x = ((a ≤ x.stream) × (x.stream < a + total (facts f))) ⊎ ((b ≤ x.stream) × (x.stream < b + inner f))

moved_all : (a m : ℕ) {l : List Placed} → All (λ x. x.stream < m) l → All (λ x. (a ≤ x.stream) × (x.stream < a + m)) (map (move_by a) l)
moved_all a m all_nil = all_nil
moved_all a m (all_cons {x = x} h k) = all_cons {x = move_by a x} (omega arith, omega arith) (moved_all a m k)

pub rows_of : (rows : ℕ → ℕ → List Row) (i a b : ℕ) (f : Plan) → All (Of a b f) (all_rows rows i a b f)
rows_of rows i a b none = all_nil
rows_of rows i a b (tree o c r) =
    all_append (all_map own (moved_all a (facts_op o (facts c)).streams (given_within rows i o (facts c))))
    (all_append (all_map below (rows_of rows (next_s o i) b (b + total (facts c)) c))
    (all_map beside (rows_of rows (past next_s c (next_s o i)) (a + (facts_op o (facts c)).streams) (b + total (facts c) + inner c) r)))
  where
    own : (x : Placed) → (a ≤ x.stream) × (x.stream < a + (facts_op o (facts c)).streams) → Of a b (tree o c r) x
    own x h = inl (h.0, omega (arith, h.1))

    below : (x : Placed) → Of b (b + total (facts c)) c x → Of a b (tree o c r) x
    below x (inl h) = inr (h.0, omega (arith, h.1))
    below x (inr h) = inr (omega (arith, h.0), omega (arith, h.1))

    beside : (x : Placed) → Of (a + (facts_op o (facts c)).streams) (b + total (facts c) + inner c) r x → Of a b (tree o c r) x
    beside x (inl h) = inl (omega (arith, h.0), omega (arith, h.1))
    beside x (inr h) = inr (omega (arith, h.0), omega (arith, h.1))

-- ---- the tables hold the first state
-- The rows in the tables are those of the list
pub record Begins (T : Tables) (all : List Placed) : Type 0 where
  pub picks : (a m : ℕ) → waiting_in T.rows T.places a m T.order ≡ pick_out a m all
  pub none_came : (x : ℕ) → get_or T.counts x 0 ≡ 0

-- Not a forest's
abbrev Else : ℕ → ℕ → Plan → Placed → Type 0
Else a b f x = Off a (total (facts f)) x × Off b (inner f) x

begins : {T : Tables} (rows : ℕ → ℕ → List Row) (i n a b : ℕ) (f : Plan) (before behind : List Placed) → a + total (facts f) ≤ b →
    Begins T (before ++ (all_rows rows i a b f ++ behind)) → All (Else a b f) before → All (Else a b f) behind → Shows T n a b f (start rows i f)
begins rows i n a b none before behind l h x y = shows_none
begins {T} rows i n a b (tree o c r) before behind l h x y =
    shows_tree
    (sym (h.picks a S ∙ pick_append a S before (all_rows rows i a b (tree o c r) ++ behind)
    ∙ ap₂ ◌++◌ (pick_none a S (all_map off_own x))
    (pick_append a S (all_rows rows i a b (tree o c r)) behind
    ∙ ap₂ ◌++◌ (pick_append a S own (C ++ R) ∙ ap₂ ◌++◌ (pick_own a S (given_within rows i o (facts c)))
    (pick_none a S (all_append (all_map c_own cs) (all_map r_own rs))) ∙ append_none (given rows i o))
    (pick_none a S (all_map off_own y)) ∙ append_none (given rows i o))))
    (λ s k. h.none_came (a + s))
    (begins rows (next_s o i) (suc n) b (b + t) c (before ++ own) (R ++ behind) (omega arith)
    (subst (Begins T) to_c h)
    (all_append (all_map else_c x) (all_map own_c (moved_all a S (given_within rows i o (facts c)))))
    (all_append (all_map r_c rs) (all_map else_c y)))
    (begins rows (past next_s c (next_s o i)) (suc n + size c) (a + S) (b + t + inner c) r (before ++ (own ++ C)) behind (omega arith)
    (subst (Begins T) to_r h)
    (all_append (all_map else_r x) (all_append (all_map own_r (moved_all a S (given_within rows i o (facts c)))) (all_map c_r cs)))
    (all_map else_r y))
  where
    S : ℕ
    S = (facts_op o (facts c)).streams

    t : ℕ
    t = total (facts c)

    own : List Placed
    own = map (move_by a) (given rows i o)

    C : List Placed
    C = all_rows rows (next_s o i) b (b + total (facts c)) c

    R : List Placed
    R = all_rows rows (past next_s c (next_s o i)) (a + (facts_op o (facts c)).streams) (b + total (facts c) + inner c) r

    cs : All (Of b (b + total (facts c)) c) C
    cs = rows_of rows (next_s o i) b (b + total (facts c)) c

    rs : All (Of (a + (facts_op o (facts c)).streams) (b + total (facts c) + inner c) r) R
    rs = rows_of rows (past next_s c (next_s o i)) (a + (facts_op o (facts c)).streams) (b + total (facts c) + inner c) r

    to_c : before ++ ((own ++ (C ++ R)) ++ behind) ≡ (before ++ own) ++ (C ++ (R ++ behind))
    to_c = ap (λ q. before ++ q) (append_assoc own (C ++ R) behind ∙ ap (λ q. own ++ q) (append_assoc C R behind)) ∙ sym (append_assoc before own (C ++ (R ++ behind)))

    to_r : before ++ ((own ++ (C ++ R)) ++ behind) ≡ (before ++ (own ++ C)) ++ (R ++ behind)
    to_r = ap (λ q. before ++ (q ++ behind)) (sym (append_assoc own C R)) ∙ ap (λ q. before ++ q) (append_assoc (own ++ C) R behind)
        ∙ sym (append_assoc before (own ++ C) (R ++ behind))

    off_own : (x : Placed) → Else a b (tree o c r) x → Off a S x
    off_own x (inl h, k) = inl h
    off_own x (inr h, k) = inr (omega arith)

    c_own : (x : Placed) → Of b (b + total (facts c)) c x → Off a S x
    c_own x (inl h) = inr (omega (arith, h.0))
    c_own x (inr h) = inr (omega (arith, h.0))

    r_own : (x : Placed) → Of (a + S) (b + total (facts c) + inner c) r x → Off a S x
    r_own x (inl h) = inr h.0
    r_own x (inr h) = inr (omega (arith, h.0))

    under : (x : Placed) → Off b (total (facts c) + (inner c + inner r)) x → Off b (total (facts c)) x × Off (b + total (facts c)) (inner c) x
    under x (inl h) = (inl h, inl (omega arith))
    under x (inr h) = (inr (omega arith), inr (omega arith))

    else_c : (x : Placed) → Else a b (tree o c r) x → Else b (b + total (facts c)) c x
    else_c x h = under x h.1

    own_c : (x : Placed) → (a ≤ x.stream) × (x.stream < a + S) → Else b (b + total (facts c)) c x
    own_c x h = (inl (omega (arith, h.1)), inl (omega (arith, h.1)))

    r_c : (x : Placed) → Of (a + S) (b + total (facts c) + inner c) r x → Else b (b + total (facts c)) c x
    r_c x (inl h) = (inl (omega (arith, h.1)), inl (omega (arith, h.1)))
    r_c x (inr h) = (inr (omega (arith, h.0)), inr (omega (arith, h.0)))

    over : (x : Placed) → Off a (S + total (facts r)) x → Off (a + S) (total (facts r)) x
    over x (inl h) = inl (omega arith)
    over x (inr h) = inr (omega arith)

    far : (x : Placed) → Off b (total (facts c) + (inner c + inner r)) x → Off (b + total (facts c) + inner c) (inner r) x
    far x (inl h) = inl (omega arith)
    far x (inr h) = inr (omega arith)

    else_r : (x : Placed) → Else a b (tree o c r) x → Else (a + S) (b + total (facts c) + inner c) r x
    else_r x h = (over x h.0, far x h.1)

    own_r : (x : Placed) → (a ≤ x.stream) × (x.stream < a + S) → Else (a + S) (b + total (facts c) + inner c) r x
    own_r x h = (inl h.1, inl (omega (arith, h.1)))

    c_r : (x : Placed) → Of b (b + total (facts c)) c x → Else (a + S) (b + total (facts c) + inner c) r x
    c_r x (inl h) = (inr (omega (arith, h.0)), inl (omega (arith, h.1)))
    c_r x (inr h) = (inr (omega (arith, h.0)), inl (omega (arith, h.1)))

-- The first state of a plan
pub first_shown : {T : Tables} (rows : ℕ → ℕ → List Row) (f : Plan) → Begins T (all_rows rows 0 0 (total (facts f)) f) → Shows T 0 0 (total (facts f)) f (start rows 0 f)
first_shown {T} rows f h =
    begins rows 0 0 0 (total (facts f)) f [] [] (omega arith) (subst (Begins T) (sym (append_none (all_rows rows 0 0 (total (facts f)) f))) h) all_nil all_nil

-- ---- tables filled row by row: row number r is the list's r-th
pub nowhere : Placed
nowhere = place 0 []

-- from row k on
rows_from_lem : (rows : ℕ → Row) (pl : List ℕ) (a m k : ℕ) (l : List Placed) → ((i : ℕ) → i < length l → get_or pl (k + i) 0 ≡ (get_or l i nowhere).stream) →
    ((i : ℕ) → i < length l → rows (k + i) ≡ (get_or l i nowhere).row) → waiting_in rows pl a m (tab (length l) (λ i. k + i)) ≡ pick_out a m l
rows_from_lem rows pl a m k [] p q = refl
rows_from_lem rows pl a m k (x ∷ l) p q =
    let z : k + 0 ≡ k = omega arith in
    let e₁ : get_or pl (k + 0) 0 ≡ x.stream = p 0 (omega arith) in
    let e₂ : rows (k + 0) ≡ x.row = q 0 (omega arith) in
    let t : tab (length l) (λ i. k + suc i) ≡ tab (length l) (λ i. suc k + i) = tab_ext (length l) (λ i. k + suc i) (λ i. suc k + i) (λ i h. omega arith) in
    ap (λ (o : List ℕ). cond (within a m (get_or pl (k + 0) 0)) (place (get_or pl (k + 0) 0 - a) (rows (k + 0)) ∷ waiting_in rows pl a m o) (waiting_in rows pl a m o)) t
    ∙ ap₂ (λ (s : ℕ) (y : Row). cond (within a m s) (place (s - a) y ∷ waiting_in rows pl a m (tab (length l) (λ i. suc k + i)))
    (waiting_in rows pl a m (tab (length l) (λ i. suc k + i)))) e₁ e₂
    ∙ ap (λ (o : List Placed). cond (within a m x.stream) (place (x.stream - a) x.row ∷ o) o)
    (rows_from_lem rows pl a m (suc k) l
    (λ i h. let e : suc k + i ≡ k + suc i = omega arith in ap (λ (j : ℕ). get_or pl j 0) e ∙ p (suc i) (omega arith))
    (λ i h. let e : suc k + i ≡ k + suc i = omega arith in ap rows e ∙ q (suc i) (omega arith)))

pub listed_begins : (T : Tables) (all : List Placed) → T.order ≡ tab (length all) (λ i. i) → ((i : ℕ) → i < length all → get_or T.places i 0 ≡ (get_or all i nowhere).stream) →
    ((i : ℕ) → i < length all → T.rows i ≡ (get_or all i nowhere).row) → ((x : ℕ) → get_or T.counts x 0 ≡ 0) → Begins T all
listed_begins T all o p q c =
    record {
      picks = λ a m. ap (waiting_in T.rows T.places a m) (o ∙ tab_ext (length all) (λ i. i) (λ i. 0 + i) (λ i h. omega arith))
          ∙ rows_from_lem T.rows T.places a m 0 all
          (λ i h. let e : 0 + i ≡ i = omega arith in ap (λ (j : ℕ). get_or T.places j 0) e ∙ p i h)
          (λ i h. let e : 0 + i ≡ i = omega arith in ap T.rows e ∙ q i h);
      none_came = c;
    }
