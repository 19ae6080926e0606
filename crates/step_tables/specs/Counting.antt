-- How many entries of a list pass a test, and what one changed entry changes. Assumes nothing.
use Rattle.std.specs.Prelude.{◌≡◌, refl, Bool, true, false, cond, List, [], ◌∷◌, ℕ, zero, suc, ◌+◌, ◌<◌, ◌≤◌, eqb, length, get_or, set}
use Rattle.std.proofs.Common.{sym, ap, ap₂, ◌∙◌, arith}
use Rattle.std.proofs.Math.Decide.{dec_lt}
use Rattle.stepping.specs.Outlets.{tally}
use Rattle.step_tables.specs.Places.{within}
use Rattle.step_tables.specs.Shown.{within-true, within_below, within_above}

abbrev pub one : Bool → ℕ
one b = cond b 1 0

abbrev pub how_many : (ℕ → Bool) → List ℕ → ℕ
how_many p [] = 0
how_many p (x ∷ l) = one (p x) + how_many p l

-- How many entries are one of the m places from g on
abbrev pub tally_in : ℕ → ℕ → List ℕ → ℕ
tally_in g m l = how_many (within g m) l

pub tally_is : (x : ℕ) (l : List ℕ) → tally x l ≡ how_many (λ s. eqb s x) l
tally_is x [] = refl
tally_is x (s ∷ l) = go (eqb s x) (tally_is x l)
  where
    go : (b : Bool) → tally x l ≡ how_many (λ s. eqb s x) l → cond b (suc (tally x l)) (tally x l) ≡ one b + how_many (λ s. eqb s x) l
    go true e = omega arith
    go false e = omega arith

pub many_ext : (p q : ℕ → Bool) → ((x : ℕ) → p x ≡ q x) → (l : List ℕ) → how_many p l ≡ how_many q l
many_ext p q h [] = refl
many_ext p q h (x ∷ l) = ap₂ (λ (b : Bool) (k : ℕ). one b + k) (h x) (many_ext p q h l)

module _ (p : ℕ → Bool) where
  pub many_few : (l : List ℕ) → how_many p l ≤ length l
  many_few [] = omega arith
  many_few (x ∷ l) = go (p x) (many_few l)
    where
      go : (b : Bool) → how_many p l ≤ length l → one b + how_many p l ≤ suc (length l)
      go true h = omega arith
      go false h = omega arith

  -- One entry is another: what it counted before, and what it counts now
  pub many_set : (l : List ℕ) (r g : ℕ) → r < length l → how_many p (set l r g) + one (p (get_or l r 0)) ≡ how_many p l + one (p g)
  many_set [] r g h = absurd (omega arith)
  many_set (x ∷ l) zero g h = omega arith
  many_set (x ∷ l) (suc r) g h = omega (arith, many_set l r g (omega arith))

  -- An entry that passes counts
  pub many_some : (l : List ℕ) (r : ℕ) → r < length l → p (get_or l r 0) ≡ true → 0 < how_many p l
  many_some [] r h e = absurd (omega arith)
  many_some (x ∷ l) zero h e = omega (arith, ap one e)
  many_some (x ∷ l) (suc r) h e = omega (arith, many_some l r (omega arith) e)

  -- What counts is an entry
  pub many_found : (l : List ℕ) → 0 < how_many p l → (r : ℕ) × (r < length l) × (p (get_or l r 0) ≡ true)
  many_found [] h = absurd (omega arith)
  many_found (x ∷ l) h = go (p x) refl h (λ k. many_found l k)
    where
      go : (b : Bool) → p x ≡ b → 0 < one b + how_many p l → (0 < how_many p l → (r : ℕ) × (r < length l) × (p (get_or l r 0) ≡ true)) →
          (r : ℕ) × (r < suc (length l)) × (p (get_or (x ∷ l) r 0) ≡ true)
      go true e k i = (0, omega arith, e)
      go false e k i = let w = i (omega arith) in (suc w.0, omega (arith, w.1), w.2)

-- ---- places one after another
one-within : (a m n x : ℕ) → one (within a (m + n) x) ≡ one (within a m x) + one (within (a + m) n x)
one-within a m n x = go (dec_lt x a) (dec_lt x (a + m)) (dec_lt x (a + (m + n)))
  where
    are : (b c d : Bool) → one b ≡ one c + one d → within a (m + n) x ≡ b → within a m x ≡ c → within (a + m) n x ≡ d →
        one (within a (m + n) x) ≡ one (within a m x) + one (within (a + m) n x)
    are b c d h e f g = ap one e ∙ h ∙ sym (ap₂ (λ (u v : Bool). one u + one v) f g)

    go : Dec (x < a) → Dec (x < a + m) → Dec (x < a + (m + n)) → one (within a (m + n) x) ≡ one (within a m x) + one (within (a + m) n x)
    go (yes h) j k = are false false false refl (within_below a (m + n) x h) (within_below a m x h) (within_below (a + m) n x (omega arith))
    go (no h) (yes j) k =
        are true true false refl (within-true a (m + n) x (omega arith) (omega arith)) (within-true a m x (omega arith) j)
        (within_below (a + m) n x j)
    go (no h) (no j) (yes k) =
        are true false true refl (within-true a (m + n) x (omega arith) k) (within_above a m x (omega arith))
        (within-true (a + m) n x (omega arith) (omega arith))
    go (no h) (no j) (no k) =
        are false false false refl (within_above a (m + n) x (omega arith)) (within_above a m x (omega arith)) (within_above (a + m) n x (omega arith))

pub tally_parts : (a m n : ℕ) (l : List ℕ) → tally_in a (m + n) l ≡ tally_in a m l + tally_in (a + m) n l
tally_parts a m n [] = refl
tally_parts a m n (x ∷ l) = omega (arith, one-within a m n x, tally_parts a m n l)

pub tally_none : (a : ℕ) (l : List ℕ) → tally_in a 0 l ≡ 0
tally_none a [] = refl
tally_none a (x ∷ l) = omega (arith, one_none x, tally_none a l)
  where
    one_none : (x : ℕ) → one (within a 0 x) ≡ 0
    one_none x = go (dec_lt x a)
      where
        go : Dec (x < a) → one (within a 0 x) ≡ 0
        go (yes h) = ap one (within_below a 0 x h)
        go (no h) = ap one (within_above a 0 x (omega arith))
