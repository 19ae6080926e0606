-- Key lists under facts: the normal form, met orders, common prefixes, projected orders.
use Rattle.std.specs.Prelude.{◌≡◌, refl, Bool, true, false, cond, ◌&&◌, ◌||◌, ◌⊎◌, List, [], ◌∷◌, ℕ, zero, suc, ◌<◌, eqb, ltb, length, get_or}
use Rattle.std.proofs.Common.{sym, ap, ap₂, ◌∙◌, subst, inl, inr, arith, ltb-true, eqb-true}
use Rattle.std.specs.Bool.{beq}
use Rattle.row_order.specs.Iso.{Cell, Row, Key, cell}
use Rattle.row_order.proofs.Order.{le_cell, le_k, no_bool, le_in, le_head, le_tail, le_skip, le_cons}
use Rattle.row_order.specs.RowLists.{le}
use Rattle.row_order.specs.Lists.{All, all_nil, all_cons}
use Rattle.row_order.specs.ListLaws.{all_head, all_tail}
use Rattle.plan.specs.WellFormed.{member}
use Rattle.semantics.specs.Facts.{Facts, cl, is_c, with_column, nf, eq_key, prefixb, common, met, carried, proj_order}
use Rattle.semantics.specs.Runs.{proj}
use Rattle.semantics.specs.Holds.{RowOK}
use Rattle.semantics.proofs.Theorems.Common.Bools.{and_left, and_right, or_cases}
use Rattle.semantics.proofs.Theorems.Common.Lowest.{lowest_ok}

-- ---- keys
beq-true : (a b : Bool) → beq a b ≡ true → a ≡ b
beq-true true true e = refl
beq-true true false e = no_bool e
beq-true false true e = no_bool e
beq-true false false e = refl

pub eq_key-true : (k l : Key) → eq_key k l ≡ true → k ≡ l
eq_key-true k l e =
    let d = and_right (eqb k.col l.col) (beq k.desc l.desc && beq k.first l.first) e in
    let p = eqb-true k.col l.col (and_left _ (beq k.desc l.desc && beq k.first l.first) e) in
    let q = beq-true k.desc l.desc (and_left _ (beq k.first l.first) d) in
    let r = beq-true k.first l.first (and_right (beq k.desc l.desc) (beq k.first l.first) d) in
    λ i. record { col = p i; desc = q i; first = r i }

pub member_all : {P : ℕ → Type 0} (c : ℕ) (ds : List ℕ) → member c ds ≡ true → All P ds → P c
member_all c [] e ps = no_bool e
member_all {P} c (d ∷ ds) e ps = go (or_cases (eqb c d) (member c ds) e) (λ h. member_all c ds h (all_tail ps))
  where
    go : (eqb c d ≡ true) ⊎ (member c ds ≡ true) → (member c ds ≡ true → P c) → P c
    go (inl h) f = subst P (sym (eqb-true c d h)) (all_head ps)
    go (inr h) f = f h

-- rows that satisfy the facts, and agree on the columns seen, compare alike by a list and by its normal form
module _ (F : Facts) (v : ℕ → Cell) (x y : Row) (px : RowOK F v x) (py : RowOK F v y) where
  abbrev Agree : ℕ → Type 0
  Agree c = cell x c ≡ cell y c

  dropped : (c : ℕ) (seen : List ℕ) → (is_c F c || member c seen) ≡ true → All Agree seen → Agree c
  dropped c seen e h = go (or_cases (is_c F c) (member c seen) e)
    where
      go : (is_c F c ≡ true) ⊎ (member c seen ≡ true) → Agree c
      go (inl a) = px.const c a ∙ sym (py.const c a)
      go (inr a) = member_all c seen a h

  pub nf-le : (seen : List ℕ) (ks : List Key) → All Agree seen → le (nf F seen ks) x y ≡ le ks x y
  nf-le seen [] h = refl
  nf-le seen (k ∷ ks) h = go (is_c F (cl F k.col) || member (cl F k.col) seen) refl (nf-le seen ks h) (λ h'. nf-le (cl F k.col ∷ seen) ks h')
    where
      c : ℕ
      c = cl F k.col

      up : Agree c → Agree k.col
      up e = sym (px.class k.col) ∙ e ∙ py.class k.col

      down : Agree k.col → Agree c
      down e = px.class k.col ∙ e ∙ sym (py.class k.col)

      go : (b : Bool) → (is_c F c || member c seen) ≡ b → le (nf F seen ks) x y ≡ le ks x y
          → (All Agree (c ∷ seen) → le (nf F (c ∷ seen) ks) x y ≡ le ks x y)
          → le (cond b (nf F seen ks) (with_column (cl F k.col) k ∷ nf F (c ∷ seen) ks)) x y ≡ le (k ∷ ks) x y
      go true e ih _ = ih ∙ sym (le_skip k ks x y (up (dropped c seen e h)))
      go false e _ ih =
          le_cons (with_column (cl F k.col) k) k (nf F (c ∷ seen) ks) ks x y
          (ap₂ (le_cell k.desc k.first) (px.class k.col) (py.class k.col))
          (ap₂ (le_cell k.desc k.first) (py.class k.col) (px.class k.col))
          (λ a. ih (all_cons (down a) h))

-- ---- prefixes
pub prefix_le : (p q : List Key) (x y : Row) → prefixb p q ≡ true → le q x y ≡ true → le p x y ≡ true
prefix_le [] q x y e h = refl
prefix_le (k ∷ p) [] x y e h = no_bool e
prefix_le (k ∷ p) (l ∷ q) x y e h =
    let same : k ≡ l = eq_key-true k l (and_left (eq_key k l) (prefixb p q) e) in
    let h' : le (k ∷ q) x y ≡ true = subst (λ (z : Key). le (z ∷ q) x y ≡ true) (sym same) h in
    le_in k p x y (le_head k q x y h') (λ a. prefix_le p q x y (and_right (eq_key k l) (prefixb p q) e) (le_tail k q x y h' a))

-- the common prefix is weaker than either
pub common_left : (p q : List Key) (x y : Row) → le p x y ≡ true → le (common p q) x y ≡ true
common_left [] q x y h = refl
common_left (k ∷ p) [] x y h = refl
common_left (k ∷ p) (l ∷ q) x y h = go (eq_key k l) (λ a. common_left p q x y a)
  where
    go : (b : Bool) → (le p x y ≡ true → le (common p q) x y ≡ true) → le (cond b (k ∷ common p q) []) x y ≡ true
    go true ih = le_in k (common p q) x y (le_head k p x y h) (λ a. ih (le_tail k p x y h a))
    go false ih = refl

pub common_right : (p q : List Key) (x y : Row) → le q x y ≡ true → le (common p q) x y ≡ true
common_right [] q x y h = refl
common_right (k ∷ p) [] x y h = refl
common_right (k ∷ p) (l ∷ q) x y h = go (eq_key k l) refl (λ a. common_right p q x y a)
  where
    go : (b : Bool) → eq_key k l ≡ b → (le q x y ≡ true → le (common p q) x y ≡ true) → le (cond b (k ∷ common p q) []) x y ≡ true
    go true e ih =
        let h' : le (k ∷ q) x y ≡ true = subst (λ (z : Key). le (z ∷ q) x y ≡ true) (sym (eq_key-true k l e)) h in
        le_in k (common p q) x y (le_head k q x y h') (λ a. ih (le_tail k q x y h' a))
    go false e ih = refl

-- a met order orders
pub met-le : (F : Facts) (v : ℕ → Cell) (x y : Row) → RowOK F v x → RowOK F v y → (ks : List Key) → met F ks ≡ true → le F.order x y ≡ true
    → le ks x y ≡ true
met-le F v x y px py ks e h = sym (nf-le F v x y px py [] ks all_nil) ∙ prefix_le (nf F [] ks) F.order x y e h

-- ---- projection
pub cell-proj : (cols : List ℕ) (r : Row) (j : ℕ) → j < length cols → cell (proj cols r) j ≡ cell r (get_or cols j 0)
cell-proj [] r j h = absurd (omega arith)
cell-proj (c ∷ cols) r zero h = refl
cell-proj (c ∷ cols) r (suc j) h = cell-proj cols r j (omega arith)

-- the output column that carries a column's class, where there is one
pub carried_ok : (F : Facts) (cols : List ℕ) (c : ℕ) → carried F cols c < length cols → eqb (cl F (get_or cols (carried F cols c) 0)) (cl F c) ≡ true
carried_ok F cols c h = lowest_ok (λ i. eqb (cl F (get_or cols i 0)) (cl F c)) (length cols) (inl h)

module _ (F : Facts) (v : ℕ → Cell) (cols : List ℕ) where
  -- an output column that carries a class has its cell
  pub carries : (r : Row) → RowOK F v r → (j c : ℕ) → j < length cols → eqb (cl F (get_or cols j 0)) (cl F c) ≡ true → cell (proj cols r) j ≡ cell r c
  carries r p j c h e =
      cell-proj cols r j h ∙ sym (p.class (get_or cols j 0)) ∙ ap (cell r) (eqb-true (cl F (get_or cols j 0)) (cl F c) e) ∙ p.class c

  pub proj-le : (x y : Row) → RowOK F v x → RowOK F v y → (ks : List Key) → le ks x y ≡ true → le (proj_order F cols ks) (proj cols x) (proj cols y) ≡ true
  proj-le x y px py [] h = refl
  proj-le x y px py (k ∷ ks) h = go (ltb j (length cols)) refl (λ a. proj-le x y px py ks a)
    where
      j : ℕ
      j = carried F cols k.col

      k' : Key
      k' = with_column j k

      go : (b : Bool) → ltb j (length cols) ≡ b → (le ks x y ≡ true → le (proj_order F cols ks) (proj cols x) (proj cols y) ≡ true)
          → le (cond b (k' ∷ proj_order F cols ks) []) (proj cols x) (proj cols y) ≡ true
      go false e ih = refl
      go true e ih =
          let lt : j < length cols = ltb-true j (length cols) e in
          let eq = carried_ok F cols k.col lt in
          let cx = carries x px j k.col lt eq in
          let cy = carries y py j k.col lt eq in
          let xy : le_k k' (proj cols x) (proj cols y) ≡ le_k k x y = ap₂ (le_cell k.desc k.first) cx cy in
          let yx : le_k k' (proj cols y) (proj cols x) ≡ le_k k y x = ap₂ (le_cell k.desc k.first) cy cx in
          le_in k' (proj_order F cols ks) (proj cols x) (proj cols y) (xy ∙ le_head k ks x y h) (λ a. ih (le_tail k ks x y h (sym yx ∙ a)))
