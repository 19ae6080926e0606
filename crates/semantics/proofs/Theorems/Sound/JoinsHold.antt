-- The facts and the order of a join's rows. Assumes nothing.
use Rattle.std.specs.Prelude.{◌≡◌, refl, Bool, true, false, cond, ◌&&◌, ◌||◌, List, [], ◌∷◌, map, ℕ, ◌+◌, ◌-◌, min, ◌≤◌, ◌<◌, eqb, ltb, leb}
use Rattle.std.proofs.Common.{sym, ap, ap₂, ◌∙◌, subst₂, ⊎_elim, arith, ltb-true, ltb-false, leb-true, eqb-true}
use Rattle.row_order.specs.Iso.{Cell, null, Row, Key, cell}
use Rattle.row_order.proofs.Order.{le_cell, no_bool, le_in, le_head, le_tail}
use Rattle.row_order.specs.RowLists.{le, row_discrete, Sorted}
use Rattle.row_order.specs.Lists.{All, all_nil, all_cons}
use Rattle.row_order.specs.ListLaws.{all_zip, same_all, all_over, tab-true, tab_at}
use Rattle.plan.specs.Op.{On}
use Rattle.plan.specs.declared.JoinType.{JoinType}
use Rattle.plan.specs.declared.JoinType.TheVariants.{Inner, Left, Right, Full, LeftSemi, LeftAnti, RightSemi, RightAnti}
use Rattle.semantics.specs.Facts.{Facts, cl, is_c, unknown, Kept, k_left, k_right, k_none, placed, shifted, beside, in_class, linked, link_all, join_base, within, moved, left_order, right_order, join_order}
use Rattle.semantics.specs.Joins.{keep, join_row, nulls, eq_cells, matches, or_else, if_any, left_pairs, right_pairs, Gives, matched, padded, semi, anti, g_left, g_right, sql, Grouped, Joined}
use Rattle.semantics.specs.Holds.{RowOK}
use Rattle.semantics.proofs.Theorems.Common.Bools.{and_left, and_right, or_cases}
use Rattle.semantics.proofs.Theorems.Common.Lowest.{tab_same, tab-false, min_cases}
use Rattle.semantics.proofs.Theorems.Common.Streams.{keep_all, sorted_nil}
use Rattle.semantics.proofs.Theorems.Joins.Cells.{cell_left, cell_right, cell_far, eq_cells-true, keep-true, or_else_all, if_any_all, any_all, map_all, concat_all, grouped_sorted}
use Rattle.semantics.proofs.Theorems.Joins.AllRows.{joined_sql}

-- ---- constants and classes of a joined row
-- low: the left side's classes go by their lowest, so they stay in the left columns
module _ (F : Facts) (low : (c : ℕ) → cl F c ≤ c) (l r : Row) where
  abbrev w : ℕ
  w = F.width

  abbrev x : Row
  x = join_row w l r

  left_class : (v : ℕ → Cell) → RowOK F v l → (c : ℕ) → c < w → cell x (cl F c) ≡ cell x c
  left_class v p c h = cell_left w l r (cl F c) (omega (arith, low c)) ∙ p.class c ∙ sym (cell_left w l r c h)

  pub placed_row : (n : ℕ) (v : ℕ → Cell) → RowOK F v l → RowOK (placed F n) v x
  placed_row n v p =
      record {
        const = λ c e. let t = tab-true (w + n) (λ d. ltb d w && is_c F d) c e in cell_left w l r c (ltb-true c w (and_left (ltb c w) (is_c F c) t.1))
            ∙ p.const c (and_right (ltb c w) (is_c F c) t.1);
        class = λ c. tab_at (λ d. cell x d ≡ cell x c) (w + n) (λ d. cond (ltb d w) (cl F d) d) c (λ h. go c (ltb c w) refl) refl;
      }
    where
      go : (c : ℕ) (b : Bool) → ltb c w ≡ b → cell x (cond b (cl F c) c) ≡ cell x c
      go c true e = left_class v p c (ltb-true c w e)
      go c false e = refl

  beside_row : (G : Facts) (u v : ℕ → Cell) → RowOK F u l → RowOK G v r → RowOK (beside F G) (λ c. cond (ltb c w) (u c) (v (c - w))) x
  beside_row G u v p q =
      record {
        const = λ c e. go c (ltb c w) refl (tab-true (w + G.width) (λ d. cond (ltb d w) (is_c F d) (is_c G (d - w))) c e).1;
        class = λ c. tab_at (λ d. cell x d ≡ cell x c) (w + G.width) (λ d. cond (ltb d w) (cl F d) (w + cl G (d - w))) c (λ h. up c (ltb c w) refl) refl;
      }
    where
      go : (c : ℕ) (b : Bool) → ltb c w ≡ b → cond b (is_c F c) (is_c G (c - w)) ≡ true → cell x c ≡ cond b (u c) (v (c - w))
      go c true e h = cell_left w l r c (ltb-true c w e) ∙ p.const c h
      go c false e h = cell_far w l r c (ltb-false c w e) ∙ q.const (c - w) h

      up : (c : ℕ) (b : Bool) → ltb c w ≡ b → cell x (cond b (cl F c) (w + cl G (c - w))) ≡ cell x c
      up c true e = left_class u p c (ltb-true c w e)
      up c false e = cell_right w l r (cl G (c - w)) ∙ q.class (c - w) ∙ sym (cell_far w l r c (ltb-false c w e))

shifted_row : (w : ℕ) (l r : Row) (G : Facts) (v : ℕ → Cell) → RowOK G v r → RowOK (shifted w G) (λ c. v (c - w)) (join_row w l r)
shifted_row w l r G v p =
    record {
      const = λ c e. let t = tab-true (w + G.width) (λ d. leb w d && is_c G (d - w)) c e in
          cell_far w l r c (leb-true w c (and_left (leb w c) (is_c G (c - w)) t.1)) ∙ p.const (c - w) (and_right (leb w c) (is_c G (c - w)) t.1);
      class = λ c. tab_at (λ d. cell x d ≡ cell x c) (w + G.width) (λ d. cond (leb w d) (w + cl G (d - w)) d) c (λ h. go c (leb w c) refl) refl;
    }
  where
    x : Row
    x = join_row w l r

    go : (c : ℕ) (b : Bool) → leb w c ≡ b → cell x (cond b (w + cl G (c - w)) c) ≡ cell x c
    go c true e = cell_right w l r (cl G (c - w)) ∙ p.class (c - w) ∙ sym (cell_far w l r c (leb-true w c e))
    go c false e = refl

unknown_row : (n : ℕ) (x : Row) → RowOK (unknown n) (λ c. null) x
unknown_row n x = record { const = λ c e. no_bool (sym (tab-false n c) ∙ e); class = λ c. ap (cell x) (tab_same n c) }

-- ---- two columns that are equal
abbrev pub link_value : Facts → ℕ → ℕ → (ℕ → Cell) → ℕ → Cell
link_value F a b v c = cond (is_c F c) (v c) (cond (is_c F a) (v a) (v b))

module _ (F : Facts) (a b : ℕ) (v : ℕ → Cell) (x : Row) (p : RowOK F v x) (ab : cell x a ≡ cell x b) where
  same_class : (c d : ℕ) → eqb (cl F c) (cl F d) ≡ true → cell x c ≡ cell x d
  same_class c d e = sym (p.class c) ∙ ap (cell x) (eqb-true (cl F c) (cl F d) e) ∙ p.class d

  to_a : (c : ℕ) → in_class F a b c ≡ true → cell x c ≡ cell x a
  to_a c e = ⊎_elim (λ h. same_class c a h) (λ h. same_class c b h ∙ sym ab) (or_cases (eqb (cl F c) (cl F a)) (eqb (cl F c) (cl F b)) e)

  the_min : cell x (min (cl F a) (cl F b)) ≡ cell x a
  the_min = ⊎_elim (λ e. ap (cell x) e ∙ p.class a) (λ e. ap (cell x) e ∙ p.class b ∙ sym ab) (min_cases (cl F a) (cl F b))

  pub linked_row : RowOK (linked F a b) (link_value F a b v) x
  linked_row = record {
    const = λ c e. go c (is_c F c) refl (tab-true F.width (λ d. is_c F d || (in_class F a b d && (is_c F a || is_c F b))) c e).1;
    class = λ c. tab_at (λ d. cell x d ≡ cell x c) F.width (λ d. cond (in_class F a b d) (min (cl F a) (cl F b)) (cl F d)) c
        (λ h. up c (in_class F a b c) refl) refl;
  }
    where
      one : (c : ℕ) (k : Bool) → is_c F a ≡ k → (k || is_c F b) ≡ true → in_class F a b c ≡ true → cell x c ≡ cond k (v a) (v b)
      one c true e h i = to_a c i ∙ p.const a e
      one c false e h i = to_a c i ∙ ab ∙ p.const b h

      go : (c : ℕ) (k : Bool) → is_c F c ≡ k → (k || (in_class F a b c && (is_c F a || is_c F b))) ≡ true → cell x c ≡ cond k (v c) (cond (is_c F a) (v a) (v b))
      go c true e h = p.const c e
      go c false e h = one c (is_c F a) refl (and_right (in_class F a b c) (is_c F a || is_c F b) h) (and_left (in_class F a b c) (is_c F a || is_c F b) h)

      up : (c : ℕ) (k : Bool) → in_class F a b c ≡ k → cell x (cond k (min (cl F a) (cl F b)) (cl F c)) ≡ cell x c
      up c true e = the_min ∙ sym (to_a c e)
      up c false e = p.class c

abbrev pub link_all_value : ℕ → List On → Facts → (ℕ → Cell) → ℕ → Cell
link_all_value w [] F v = v
link_all_value w (k ∷ on) F v =
    link_all_value w on (cond (ltb k.key.col w) (linked F k.key.col (w + k.other)) F)
    (cond (ltb k.key.col w) (link_value F k.key.col (w + k.other) v) v)

pub link_all_row : (w : ℕ) (l r : Row) (on : List On) (F : Facts) (v : ℕ → Cell) → matches on l r ≡ true → RowOK F v (join_row w l r) →
    RowOK (link_all w on F) (link_all_value w on F v) (join_row w l r)
link_all_row w l r [] F v m p = p
link_all_row w l r (k ∷ on) F v m p =
    link_all_row w l r on (cond (ltb k.key.col w) (linked F k.key.col (w + k.other)) F)
    (cond (ltb k.key.col w) (link_value F k.key.col (w + k.other) v) v)
    (and_right (eq_cells (cell l k.key.col) (cell r k.other)) (matches on l r) m) (go (ltb k.key.col w) refl)
  where
    eq : cell l k.key.col ≡ cell r k.other
    eq = eq_cells-true (cell l k.key.col) (cell r k.other) (and_left (eq_cells (cell l k.key.col) (cell r k.other)) (matches on l r) m)

    go : (b : Bool) → ltb k.key.col w ≡ b →
        RowOK (cond b (linked F k.key.col (w + k.other)) F) (cond b (link_value F k.key.col (w + k.other) v) v) (join_row w l r)
    go true e = linked_row F k.key.col (w + k.other) v (join_row w l r) p (cell_left w l r k.key.col (ltb-true k.key.col w e) ∙ eq
        ∙ sym (cell_right w l r k.other))
    go false e = p

-- ---- all rows of a join
abbrev pub join_value : JoinType → List On → Facts → Facts → (ℕ → Cell) → (ℕ → Cell) → ℕ → Cell
join_value Inner on F G u v = link_all_value F.width on (beside F G) (λ c. cond (ltb c F.width) (u c) (v (c - F.width)))
join_value Left on F G u v = u
join_value Right on F G u v = λ c. v (c - F.width)
join_value Full on F G u v = λ c. null
join_value LeftSemi on F G u v = u
join_value LeftAnti on F G u v = u
join_value RightSemi on F G u v = v
join_value RightAnti on F G u v = v

module _ (on : List On) (F G : Facts) (low : (c : ℕ) → cl F c ≤ c) (u v : ℕ → Cell) where
  abbrev Of : JoinType → Row → Type 0
  Of t x = RowOK (join_base t on F G) (join_value t on F G u v) x

  inner_rows : (R : List Row) → All (RowOK G v) R → (l : Row) → RowOK F u l → All (Of Inner) (g_left matched on F.width G.width R l)
  inner_rows R qs l p = all_over (join_row F.width l) (λ r q. link_all_row F.width l r on (beside F G) _ q.1 (beside_row F low l r G u v p q.0))
      (all_zip (keep_all (matches on l) qs) (keep-true (matches on l) R))

  left_rows : (R : List Row) (l : Row) → RowOK F u l → All (Of Left) (g_left padded on F.width G.width R l)
  left_rows R l p = or_else_all (map_all (join_row F.width l) (λ r. placed_row F low l r G.width u p) (keep (matches on l) R))
      (all_cons (placed_row F low l (nulls G.width) G.width u p) all_nil)

  right_rows : (L : List Row) (r : Row) → RowOK G v r → All (Of Right) (g_right padded on F.width L r)
  right_rows L r q = or_else_all (map_all (λ l. join_row F.width l r) (λ l. shifted_row F.width l r G v q) (keep (λ l. matches on l r) L))
      (all_cons (shifted_row F.width (nulls F.width) r G v q) all_nil)

  sql_rows : (t : JoinType) (L R : List Row) → All (RowOK F u) L → All (RowOK G v) R → All (Of t) (sql t on F.width G.width L R)
  sql_rows Inner L R ps qs = concat_all (g_left matched on F.width G.width R) (inner_rows R qs) ps
  sql_rows Left L R ps qs = concat_all (g_left padded on F.width G.width R) (left_rows R) ps
  sql_rows Right L R ps qs = concat_all (g_right padded on F.width L) (right_rows L) qs
  sql_rows Full L R ps qs = any_all (unknown_row (F.width + G.width)) (sql Full on F.width G.width L R)
  sql_rows LeftSemi L R ps qs = concat_all (g_left semi on F.width G.width R)
      (λ l p. if_any_all (left_pairs on F.width R l) (all_cons p all_nil) all_nil) ps
  sql_rows LeftAnti L R ps qs = concat_all (g_left anti on F.width G.width R)
      (λ l p. if_any_all (left_pairs on F.width R l) all_nil (all_cons p all_nil)) ps
  sql_rows RightSemi L R ps qs = concat_all (g_right semi on F.width L) (λ r q. if_any_all (right_pairs on F.width L r) (all_cons q all_nil) all_nil) qs
  sql_rows RightAnti L R ps qs = concat_all (g_right anti on F.width L) (λ r q. if_any_all (right_pairs on F.width L r) all_nil (all_cons q all_nil)) qs

  pub joined_rows : (t : JoinType) (k : Kept) (p : List Row × List Row) (out : List Row) → All (RowOK F u) p.0 → All (RowOK G v) p.1 →
      Joined t k on F.width G.width p out → All (Of t) out
  joined_rows t k p out ps qs j = same_all row_discrete out (joined_sql on F.width G.width p out t k j) (sql_rows t p.0 p.1 ps qs)

-- ---- the order of the kept side
pub within-le : (w : ℕ) (ks : List Key) (x y r s : Row) → le ks x y ≡ true → le (within w ks) (join_row w x r) (join_row w y s) ≡ true
within-le w [] x y r s h = refl
within-le w (k ∷ ks) x y r s h = go (ltb k.col w) refl (λ a. within-le w ks x y r s a)
  where
    go : (b : Bool) → ltb k.col w ≡ b → (le ks x y ≡ true → le (within w ks) (join_row w x r) (join_row w y s) ≡ true) →
        le (cond b (k ∷ within w ks) []) (join_row w x r) (join_row w y s) ≡ true
    go false e ih = refl
    go true e ih =
        let lt = ltb-true k.col w e in
        let cx = cell_left w x r k.col lt in
        let cy = cell_left w y s k.col lt in
        le_in k (within w ks) (join_row w x r) (join_row w y s) (ap₂ (le_cell k.desc k.first) cx cy ∙ le_head k ks x y h)
        (λ a. ih (le_tail k ks x y h (sym (ap₂ (le_cell k.desc k.first) cy cx) ∙ a)))

moved-le : (w : ℕ) (ks : List Key) (x y l m : Row) → le ks x y ≡ true → le (map (moved w) ks) (join_row w l x) (join_row w m y) ≡ true
moved-le w [] x y l m h = refl
moved-le w (k ∷ ks) x y l m h =
    let cx = cell_right w l x k.col in
    let cy = cell_right w m y k.col in
    le_in (moved w k) (map (moved w) ks) (join_row w l x) (join_row w m y) (ap₂ (le_cell k.desc k.first) cx cy ∙ le_head k ks x y h)
    (λ a. moved-le w ks x y l m (le_tail k ks x y h (sym (ap₂ (le_cell k.desc k.first) cy cx) ∙ a)))

-- x is a row of l's group
abbrev LeftOf : Gives → ℕ → Row → Row → Type 0
LeftOf matched w l x = (r : Row) × (x ≡ join_row w l r)
LeftOf padded w l x = (r : Row) × (x ≡ join_row w l r)
LeftOf semi w l x = x ≡ l
LeftOf anti w l x = x ≡ l

left_of : (g : Gives) (on : List On) (w v : ℕ) (R : List Row) (l : Row) → All (LeftOf g w l) (g_left g on w v R l)
left_of matched on w v R l = map_all (join_row w l) (λ r. (r, refl)) (keep (matches on l) R)
left_of padded on w v R l = or_else_all (map_all (join_row w l) (λ r. (r, refl)) (keep (matches on l) R)) (all_cons (nulls v, refl) all_nil)
left_of semi on w v R l = if_any_all (left_pairs on w R l) (all_cons refl all_nil) all_nil
left_of anti on w v R l = if_any_all (left_pairs on w R l) all_nil (all_cons refl all_nil)

abbrev RightOf : Gives → ℕ → Row → Row → Type 0
RightOf matched w r x = (l : Row) × (x ≡ join_row w l r)
RightOf padded w r x = (l : Row) × (x ≡ join_row w l r)
RightOf semi w r x = x ≡ r
RightOf anti w r x = x ≡ r

right_of : (g : Gives) (on : List On) (w : ℕ) (L : List Row) (r : Row) → All (RightOf g w r) (g_right g on w L r)
right_of matched on w L r = map_all (λ l. join_row w l r) (λ l. (l, refl)) (keep (λ l. matches on l r) L)
right_of padded on w L r = or_else_all (map_all (λ l. join_row w l r) (λ l. (l, refl)) (keep (λ l. matches on l r) L)) (all_cons (nulls w, refl) all_nil)
right_of semi on w L r = if_any_all (right_pairs on w L r) (all_cons refl all_nil) all_nil
right_of anti on w L r = if_any_all (right_pairs on w L r) all_nil (all_cons refl all_nil)

-- two rows of groups compare as the kept rows do
near_le : (w : ℕ) (ks : List Key) (x y a b : Row) → LeftOf matched w x a → LeftOf matched w y b → le ks x y ≡ true → le (within w ks) a b ≡ true
near_le w ks x y a b p q h = subst₂ (λ c d. le (within w ks) c d ≡ true) (sym p.1) (sym q.1) (within-le w ks x y p.0 q.0 h)

far_le : (w : ℕ) (ks : List Key) (x y a b : Row) → RightOf matched w x a → RightOf matched w y b → le ks x y ≡ true → le (map (moved w) ks) a b ≡ true
far_le w ks x y a b p q h = subst₂ (λ c d. le (map (moved w) ks) c d ≡ true) (sym p.1) (sym q.1) (moved-le w ks x y p.0 q.0 h)

own_le : (ks : List Key) (x y a b : Row) → a ≡ x → b ≡ y → le ks x y ≡ true → le ks a b ≡ true
own_le ks x y a b p q h = subst₂ (λ c d. le ks c d ≡ true) (sym p) (sym q) h

-- what is asked of a pair of streams: the kept side is in order
abbrev pub KeptSorted : Kept → Facts → Facts → List Row × List Row → Type 0
KeptSorted k_left F G p = Sorted F.order p.0
KeptSorted k_right F G p = Sorted G.order p.1
KeptSorted k_none F G p = Unit {0}

module _ (on : List On) (F G : Facts) (p : List Row × List Row) (out : List Row) where
  abbrev Gets : JoinType → Kept → Type 0
  Gets t k = KeptSorted k F G p → Joined t k on F.width G.width p out → Sorted (join_order t k F G) out

  -- left rows in order, and what each gives
  by_left : (g : Gives) (ls : List Key) →
      ((x y a b : Row) → LeftOf g F.width x a → LeftOf g F.width y b → le F.order x y ≡ true → le ls a b ≡ true) → Sorted F.order p.0 →
      Grouped (g_left g on F.width G.width p.1) p.0 out → Sorted ls out
  by_left g ls f s j = grouped_sorted F.order ls {Im = LeftOf g F.width} (left_of g on F.width G.width p.1) f s j

  left_sorted : (t : JoinType) → Gets t k_left
  left_sorted Inner s j = by_left matched (within F.width F.order) (near_le F.width F.order) s j
  left_sorted Left s j = by_left padded (within F.width F.order) (near_le F.width F.order) s j
  left_sorted Right s j = sorted_nil out
  left_sorted Full s j = sorted_nil out
  left_sorted LeftSemi s j = by_left semi F.order (own_le F.order) s j
  left_sorted LeftAnti s j = by_left anti F.order (own_le F.order) s j
  left_sorted RightSemi s j = sorted_nil out
  left_sorted RightAnti s j = sorted_nil out

  by_right : (g : Gives) (ls : List Key) →
      ((x y a b : Row) → RightOf g F.width x a → RightOf g F.width y b → le G.order x y ≡ true → le ls a b ≡ true) → Sorted G.order p.1 →
      Grouped (g_right g on F.width p.0) p.1 out → Sorted ls out
  by_right g ls f s j = grouped_sorted G.order ls {Im = RightOf g F.width} (right_of g on F.width p.0) f s j

  right_sorted : (t : JoinType) → Gets t k_right
  right_sorted Inner s j = by_right matched (map (moved F.width) G.order) (far_le F.width G.order) s j
  right_sorted Left s j = sorted_nil out
  right_sorted Right s j = by_right padded (map (moved F.width) G.order) (far_le F.width G.order) s j
  right_sorted Full s j = sorted_nil out
  right_sorted LeftSemi s j = sorted_nil out
  right_sorted LeftAnti s j = sorted_nil out
  right_sorted RightSemi s j = by_right semi G.order (own_le G.order) s j
  right_sorted RightAnti s j = by_right anti G.order (own_le G.order) s j

  pub joined_sorted : (t : JoinType) (k : Kept) → KeptSorted k F G p → Joined t k on F.width G.width p out → Sorted (join_order t k F G) out
  joined_sorted t k_left s j = left_sorted t s j
  joined_sorted t k_right s j = right_sorted t s j
  joined_sorted t k_none s j = sorted_nil out
