-- How many rows wait at each place, kept as rows move. Assumes nothing.
use Rattle.std.specs.Prelude.{◌≡◌, refl, List, [], ◌∷◌, ℕ, zero, suc, ◌+◌, ◌-◌, ◌<◌, ◌≤◌, eqb, length, get_or, set}
use Rattle.std.proofs.Common.{sym, ap, ◌∙◌, arith, eq-eqb, ne_eqb, length-set, get_or-set_same, get_or-set_other}
use Rattle.std.proofs.Math.Decide.{dec_lt, ℕ_discrete}
use Rattle.std.proofs.Math.ListN.{get_or-eq_default}
use Rattle.stepping.specs.Outlets.{tally}
use Rattle.step_tables.specs.Counting.{one, tally_is, many_few, many_set, many_some}

-- A row leaves place p; and one comes to place g
abbrev pub fewer : ℕ → List ℕ → List ℕ
fewer p held = set held p (get_or held p 0 - 1)

abbrev pub more : ℕ → List ℕ → List ℕ
more g held = set held g (get_or held g 0 + 1)

-- A row leaves place p and comes to place g
abbrev pub rehold : ℕ → ℕ → List ℕ → List ℕ
rehold p g held = more g (fewer p held)

pub length-rehold : (p g : ℕ) (held : List ℕ) → length (rehold p g held) ≡ length held
length-rehold p g held = length-set (fewer p held) g (get_or (fewer p held) g 0 + 1) ∙ length-set held p (get_or held p 0 - 1)

-- no place has more rows after one left
pub less_first : (held : List ℕ) (p g : ℕ) → get_or (fewer p held) g 0 ≤ get_or held g 0
less_first [] p g = omega arith
less_first (x ∷ l) zero zero = omega arith
less_first (x ∷ l) zero (suc g) = omega arith
less_first (x ∷ l) (suc p) zero = omega arith
less_first (x ∷ l) (suc p) (suc g) = less_first l p g

pub fewer_is : (p : ℕ) (held : List ℕ) → p < length held → 0 < get_or held p 0 → (x : ℕ) → get_or (fewer p held) x 0 + one (eqb p x) ≡ get_or held x 0
fewer_is p held h k x = go (ℕ_discrete p x)
  where
    go : Dec (p ≡ x) → get_or (fewer p held) x 0 + one (eqb p x) ≡ get_or held x 0
    go (yes e) =
        let a = ap (λ (y : ℕ). get_or (fewer p held) y 0) (sym e) ∙ get_or-set_same held p (get_or held p 0 - 1) 0 h in
        let b = ap one (eq-eqb p x e) in let c = ap (λ (y : ℕ). get_or held y 0) e in omega (arith, a, b, c)
    go (no n) = let a = get_or-set_other held p x (get_or held p 0 - 1) 0 (λ e. n (sym e)) in let b = ap one (ne_eqb p x n) in omega (arith, a, b)

pub more_is : (g : ℕ) (held : List ℕ) → g < length held → (x : ℕ) → get_or (more g held) x 0 ≡ get_or held x 0 + one (eqb g x)
more_is g held h x = go (ℕ_discrete g x)
  where
    go : Dec (g ≡ x) → get_or (more g held) x 0 ≡ get_or held x 0 + one (eqb g x)
    go (yes e) =
        let a = ap (λ (y : ℕ). get_or (more g held) y 0) (sym e) ∙ get_or-set_same held g (get_or held g 0 + 1) 0 h in
        let b = ap one (eq-eqb g x e) in let c = ap (λ (y : ℕ). get_or held y 0) e in omega (arith, a, b, c)
    go (no n) = let a = get_or-set_other held g x (get_or held g 0 + 1) 0 (λ e. n (sym e)) in let b = ap one (ne_eqb g x n) in omega (arith, a, b)

pub rehold_is : (p g : ℕ) (held : List ℕ) → p < length held → g < length held → 0 < get_or held p 0 → (x : ℕ) →
    get_or (rehold p g held) x 0 + one (eqb p x) ≡ get_or held x 0 + one (eqb g x)
rehold_is p g held h k z x =
    let a = fewer_is p held h z x in
    let b = more_is g (fewer p held) (omega (arith, length-set held p (get_or held p 0 - 1))) x in omega (arith, a, b)

-- ---- the counts are those of the rows
abbrev pub HeldAre : List ℕ → List ℕ → Type 0
HeldAre held places = (x : ℕ) → get_or held x 0 ≡ tally x places

module _ (held places : List ℕ) (are : HeldAre held places) where
  -- where a row waits
  pub held_some : (r : ℕ) → r < length places → 0 < get_or held (get_or places r 0) 0
  held_some r h =
      let p : ℕ = get_or places r 0 in
      omega (arith, are p, tally_is p places, many_some (λ s. eqb s p) places r h (eq-eqb p p refl))

  pub held_inside : (r : ℕ) → r < length places → get_or places r 0 < length held
  held_inside r h = go (dec_lt (get_or places r 0) (length held))
    where
      go : Dec (get_or places r 0 < length held) → get_or places r 0 < length held
      go (yes l) = l
      go (no l) = absurd (omega (arith, held_some r h, get_or-eq_default held 0 {n = get_or places r 0} (omega arith)))

  pub held_few : (x : ℕ) → get_or held x 0 ≤ length places
  held_few x = omega (arith, are x, tally_is x places, many_few (λ s. eqb s x) places)

  pub held_moved : (r g : ℕ) → r < length places → g < length held → HeldAre (rehold (get_or places r 0) g held) (set places r g)
  held_moved r g h k x =
      let p : ℕ = get_or places r 0 in
      let a = rehold_is p g held (held_inside r h) k (held_some r h) x in
      let b = many_set (λ s. eqb s x) places r g h in omega (arith, a, b, are x, tally_is x places, tally_is x (set places r g))
