-- A loop that fills a table column by column: one rule for every table. Assumes nothing.
use Rattle.std.specs.Prelude.{◌≡◌, refl, Bool, true, false, cond, List, ℕ, ◌+◌, ◌≤◌, ◌<◌, eqb, ltb, length, take, get_or, set}
use Rattle.std.proofs.Common.{ap, sym, ◌∙◌, arith, length-set, get_or-set_same, get_or-set_other, get_or-take, length-take-le, ext_get_or, eqb-true, ltb-true, ltb-false, lt-ltb, le-ltb}
use Rattle.std.proofs.lemmas.Bool.{eqb-false}
use Rattle.row_order.specs.Lists.{tab}
use Rattle.row_order.specs.ListLaws.{length-tab, get_or-tab}
use Rattle.class_tables.specs.Tables.{at, Filled, Alone}

-- at a column below 32 a table is read
pub read : (t : List ℕ) (c : ℕ) → c < 32 → get_or t c 0 ≡ at t c
read t c h = rw (lt-ltb c 32 h)

pub alone_filled : Filled 0 (λ c. c) (tab 32 (λ c. c))
alone_filled = record { long = refl; is = λ c. go c (ltb c 32) refl ∙ rw (le-ltb c 0 (omega arith)) }
  where
    go : (c : ℕ) (b : Bool) → ltb c 32 ≡ b → cond b (get_or (tab 32 (λ d. d)) c 0) c ≡ c
    go c true e = get_or-tab 32 (λ d. d) 0 c (ltb-true c 32 e)
    go c false e = refl

pub filled_none : (f : ℕ → ℕ) (t : List ℕ) → Filled 0 (λ c. c) t → Filled 0 f t
filled_none f t h = record { long = h.long; is = λ c. h.is c ∙ rw (le-ltb c 0 (omega arith)) }

-- a table whose columns from w on are alone is filled with itself
pub filled_self : (f : ℕ → ℕ) (w : ℕ) (t : List ℕ) → length t ≡ 32 → Alone w t → ((c : ℕ) → c < w → f c ≡ at t c) → Filled w f t
filled_self f w t l h e = record { long = l; is = λ c. go c (ltb c w) refl }
  where
    go : (c : ℕ) (b : Bool) → ltb c w ≡ b → at t c ≡ cond b (f c) c
    go c true x = sym (e c (ltb-true c w x))
    go c false x = h c (ltb-false c w x)

pub filled_more : (f : ℕ → ℕ) (t : List ℕ) (c x : ℕ) → Filled c f t → c < 32 → x ≡ f c → Filled (c + 1) f (set t c x)
filled_more f t c x h l e = record { long = length-set t c x ∙ h.long; is = λ k. go k (eqb k c) refl }
  where
    other : (k : ℕ) → (k ≡ c → ⊥) → (b : Bool) → ltb k c ≡ b → at t k ≡ cond b (f k) k → at t k ≡ cond (ltb k (c + 1)) (f k) k
    other k n true a y = y ∙ rw (lt-ltb k (c + 1) (let z = ltb-true k c a in omega arith))
    other k n false a y = y ∙ rw (le-ltb k (c + 1) (let z = ltb-false k c a in omega arith))

    go : (k : ℕ) (b : Bool) → eqb k c ≡ b → at (set t c x) k ≡ cond (ltb k (c + 1)) (f k) k
    go k true y =
        let z = eqb-true k c y in
        rw (z, lt-ltb c 32 l, lt-ltb c (c + 1) (omega arith)) (get_or-set_same t c x 0 (let w = h.long in omega arith) ∙ e)
    go k false y =
        let n = eqb-false k c y in
        ap (λ z. cond (ltb k 32) z k) (get_or-set_other t c k x 0 n) ∙ other k n (ltb k c) refl (h.is k)

-- the same table, its entries said in another way
pub refilled : (w : ℕ) (f g : ℕ → ℕ) (t : List ℕ) → ((c : ℕ) → c < w → f c ≡ g c) → Filled w f t → Filled w g t
refilled w f g t e h = record { long = h.long; is = λ c. h.is c ∙ go c (ltb c w) refl }
  where
    go : (c : ℕ) (b : Bool) → ltb c w ≡ b → cond b (f c) c ≡ cond b (g c) c
    go c true x = e c (ltb-true c w x)
    go c false x = refl

module _ (w : ℕ) (f : ℕ → ℕ) (t : List ℕ) (h : Filled w f t) where
  pub filled_below : (c : ℕ) → c < w → at t c ≡ f c
  filled_below c l = h.is c ∙ rw (lt-ltb c w l)

  pub filled_alone : Alone w t
  filled_alone c l = h.is c ∙ rw (le-ltb c w l)

  pub filled_down : ((c : ℕ) → c < w → f c ≤ c) → (c : ℕ) → at t c ≤ c
  filled_down d c = rw (h.is c) (go (ltb c w) refl)
    where
      go : (b : Bool) → ltb c w ≡ b → cond b (f c) c ≤ c
      go true e = d c (ltb-true c w e)
      go false e = omega arith

  -- the first w entries
  pub filled_tab : w ≤ 32 → take w t ≡ tab w f
  filled_tab l =
      let z = h.long in
      let y = length-take-le w t (omega arith) in
      ext_get_or 0 (take w t) (tab w f) (y ∙ sym (length-tab w f))
      (λ i m. let q : i < w = omega arith in get_or-take w t i 0 q ∙ read t i (omega arith) ∙ filled_below i q ∙ sym (get_or-tab w f 0 i q))
