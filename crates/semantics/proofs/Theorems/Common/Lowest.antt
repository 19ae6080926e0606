-- The lowest column that a test takes, and tables read at a column. Assumes nothing.
use Rattle.std.specs.Prelude.{◌≡◌, refl, Bool, true, false, cond, ◌⊎◌, ℕ, zero, suc, min, ◌≤◌, ◌<◌, ltb, leb, get_or}
use Rattle.std.proofs.Common.{sym, ap, ap₂, ◌∙◌, subst, inl, inr, ⊎_elim, arith, ltb-true, ltb-false, leb-true, leb-false}
use Rattle.std.proofs.Math.ListN.{get_or-eq_default}
use Rattle.row_order.proofs.Order.{which}
use Rattle.row_order.specs.Lists.{tab}
use Rattle.row_order.specs.ListLaws.{length-tab, get_or-tab, tab_at}
use Rattle.semantics.specs.Facts.{lowest}

-- ---- the lowest
pub lowest_le : (p : ℕ → Bool) (n : ℕ) → lowest p n ≤ n
lowest_le p zero = omega arith
lowest_le p (suc n) = go (p zero) (lowest_le (λ i. p (suc i)) n)
  where
    go : (b : Bool) → lowest (λ i. p (suc i)) n ≤ n → cond b zero (suc (lowest (λ i. p (suc i)) n)) ≤ suc n
    go true h = omega arith
    go false h = omega arith

-- where p holds below n, or at n, it holds at the lowest
pub lowest_ok : (p : ℕ → Bool) (n : ℕ) → (lowest p n < n) ⊎ (p n ≡ true) → p (lowest p n) ≡ true
lowest_ok p zero (inl h) = absurd (omega arith)
lowest_ok p zero (inr e) = e
lowest_ok p (suc n) h = go (p zero) refl h (λ k. lowest_ok (λ i. p (suc i)) n k)
  where
    m : ℕ
    m = lowest (λ i. p (suc i)) n

    later : (suc m < suc n) ⊎ (p (suc n) ≡ true) → (m < n) ⊎ (p (suc n) ≡ true)
    later (inl l) = inl (omega arith)
    later (inr e) = inr e

    go : (b : Bool) → p zero ≡ b → (cond b zero (suc m) < suc n) ⊎ (p (suc n) ≡ true) → ((m < n) ⊎ (p (suc n) ≡ true) → p (suc m) ≡ true)
        → p (cond b zero (suc m)) ≡ true
    go true e k f = e
    go false e k f = f (later k)

pub lowest_ext : (p q : ℕ → Bool) → ((i : ℕ) → p i ≡ q i) → (n : ℕ) → lowest p n ≡ lowest q n
lowest_ext p q h zero = refl
lowest_ext p q h (suc n) = ap₂ (λ (b : Bool) (m : ℕ). cond b zero (suc m)) (h zero) (lowest_ext (λ i. p (suc i)) (λ i. q (suc i)) (λ i. h (suc i)) n)

pub lowest_idem : (p : ℕ → Bool) (n : ℕ) → lowest p (lowest p n) ≡ lowest p n
lowest_idem p zero = refl
lowest_idem p (suc n) = go (p zero) refl (lowest_idem (λ i. p (suc i)) n)
  where
    m : ℕ
    m = lowest (λ i. p (suc i)) n

    go : (b : Bool) → p zero ≡ b → lowest (λ i. p (suc i)) m ≡ m → lowest p (cond b zero (suc m)) ≡ cond b zero (suc m)
    go true e ih = refl
    go false e ih = ap (λ (b : Bool). cond b zero (suc (lowest (λ i. p (suc i)) m))) e ∙ ap suc ih

pub lowest_none : (p : ℕ → Bool) (n : ℕ) → ((i : ℕ) → i < n → p i ≡ false) → lowest p n ≡ n
lowest_none p zero h = refl
lowest_none p (suc n) h = ap₂ (λ (b : Bool) (m : ℕ). cond b zero (suc m)) (h zero (omega arith))
    (lowest_none (λ i. p (suc i)) n (λ i l. h (suc i) (omega arith)))

-- ---- tables

-- what holds of a table's entry below its end, and of c itself past it, holds of what the table says at c
pub tab_cases : (P : ℕ → Type 0) (n : ℕ) (f : ℕ → ℕ) (c : ℕ) → (c < n → P (f c)) → (n ≤ c → P c) → P (get_or (tab n f) c c)
tab_cases P n f c h z =
    (elim (ltb c n) as (λ b. ltb c n ≡ b → P (get_or (tab n f) c c)) [
      | true ↦ λ e. subst P (sym (get_or-tab n f c c (ltb-true c n e)))
          (h (ltb-true c n e))
      | false ↦ λ e. subst P (sym (get_or-eq_default (tab n f) c {n = c} (omega (arith, length-tab n f, ltb-false c n e))))
          (z (ltb-false c n e))
    ]) refl

pub tab_same : (n c : ℕ) → get_or (tab n (λ d. d)) c c ≡ c
tab_same n c = tab_at (λ d. d ≡ c) n (λ d. d) c (λ _. refl) refl

pub tab-false : (n c : ℕ) → get_or (tab n (λ d. false)) c false ≡ false
tab-false zero c = refl
tab-false (suc n) zero = refl
tab-false (suc n) (suc c) = tab-false n c

pub min_cases : (a b : ℕ) → (min a b ≡ a) ⊎ (min a b ≡ b)
min_cases a b = ⊎_elim (λ e. inl (omega (arith, leb-true a b e))) (λ e. inr (omega (arith, leb-false a b e))) (which (leb a b))
