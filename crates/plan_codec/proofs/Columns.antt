-- Lists of columns: the rules on bytes, by places, are those on lists.
use Rattle.std.specs.Prelude.{◌≡◌, refl, Bool, true, false, not, ◌||◌, List, [], ◌∷◌, ℕ, zero, suc, ◌<◌, ltb, eqb, length, get_or}
use Rattle.std.proofs.Common.{sym, ap, ap₂, arith}
use Rattle.std.proofs.lemmas.Bool.{not-true}
use Rattle.scan.specs.Bytes.{all_below}
use Rattle.scan.specs.Below.{all_at, all_intro, and_left, and_right}
use Rattle.plan.specs.WellFormed.{every, member, distinct, below, columns_fit}
use Rattle.plan_format.specs.LastPass.{below_ok, fresh_ok, column_ok, columns_ok, same_widths}
use Rattle.plan_codec.proofs.Bits.{no_false, both, iff}

-- a test of each element, by places and by the list
module _ (p : ℕ → Bool) where
  every-at : (l : List ℕ) → every p l ≡ true → (i : ℕ) → i < length l → p (get_or l i 0) ≡ true
  every-at [] h i q = absurd (omega arith)
  every-at (x ∷ l) h zero q = and_left (p x) (every p l) h
  every-at (x ∷ l) h (suc i) q = every-at l (and_right (p x) (every p l) h) i (omega arith)

  at_every : (l : List ℕ) → ((i : ℕ) → i < length l → p (get_or l i 0) ≡ true) → every p l ≡ true
  at_every [] h = refl
  at_every (x ∷ l) h = both (p x) (every p l) (h 0 (omega arith)) (at_every l (λ i q. h (suc i) (omega arith)))

  all_every : (l : List ℕ) → all_below (λ i. p (get_or l i 0)) (length l) ≡ every p l
  all_every l =
      iff (all_below (λ i. p (get_or l i 0)) (length l)) (every p l)
      (λ h. at_every l (all_at (λ i. p (get_or l i 0)) (length l) h))
      (λ h. all_intro (λ i. p (get_or l i 0)) (length l) (every-at l h))

pub below_list : (l : List ℕ) (w : ℕ) → below_ok l w ≡ below w l
unfolding below_ok
below_list l w = all_every (λ c. ltb c w) l

pub widths_list : (ws : List ℕ) → same_widths ws ≡ every (λ w. eqb w (get_or ws 0 0)) ws
unfolding same_widths
widths_list ws = all_every (λ w. eqb w (get_or ws 0 0)) ws

-- ---- no column twice

-- the columns at j and i differ, for each j below i
Fresh : List ℕ → Type 0
Fresh l = (i j : ℕ) → j < i → i < length l → eqb (get_or l j 0) (get_or l i 0) ≡ false

or_left : (a b : Bool) → (a || b) ≡ false → a ≡ false
or_left true b e = no_false (sym e)
or_left false b e = refl

or_right : (a b : Bool) → (a || b) ≡ false → b ≡ false
or_right true b e = no_false (sym e)
or_right false b e = e

member-at : (c : ℕ) (l : List ℕ) → member c l ≡ false → (i : ℕ) → i < length l → eqb c (get_or l i 0) ≡ false
member-at c [] h i q = absurd (omega arith)
member-at c (d ∷ l) h zero q = or_left (eqb c d) (member c l) h
member-at c (d ∷ l) h (suc i) q = member-at c l (or_right (eqb c d) (member c l) h) i (omega arith)

at-member : (c : ℕ) (l : List ℕ) → ((i : ℕ) → i < length l → eqb c (get_or l i 0) ≡ false) → member c l ≡ false
at-member c [] h = refl
at-member c (d ∷ l) h = ap₂ ◌||◌ (h 0 (omega arith)) (at-member c l (λ i q. h (suc i) (omega arith)))

distinct_fresh : (l : List ℕ) → distinct l ≡ true → Fresh l
unfolding Fresh
distinct_fresh [] h i j q r = absurd (omega arith)
distinct_fresh (c ∷ l) h zero j q r = absurd (omega arith)
distinct_fresh (c ∷ l) h (suc i) zero q r = member-at c l (not-true (member c l) (and_left (not (member c l)) (distinct l) h)) i (omega arith)
distinct_fresh (c ∷ l) h (suc i) (suc j) q r = distinct_fresh l (and_right (not (member c l)) (distinct l) h) i j (omega arith) (omega arith)

fresh_distinct : (l : List ℕ) → Fresh l → distinct l ≡ true
unfolding Fresh
fresh_distinct [] h = refl
fresh_distinct (c ∷ l) h =
    both (not (member c l)) (distinct l) (ap not (at-member c l (λ i q. h (suc i) 0 (omega arith) (omega arith))))
    (fresh_distinct l (λ i j q r. h (suc i) (suc j) (omega arith) (omega arith)))

pub columns_list : (l : List ℕ) (w : ℕ) → columns_ok l w ≡ columns_fit w l
unfolding columns_ok fresh_ok Fresh
columns_list l w = iff (all_below (column_ok l w) (length l)) (columns_fit w l) there back
  where
    there : all_below (column_ok l w) (length l) ≡ true → columns_fit w l ≡ true
    there h =
        let at : (i : ℕ) → i < length l → column_ok l w i ≡ true = all_at (column_ok l w) (length l) h in
        both (below w l) (distinct l) (at_every (λ c. ltb c w) l (λ i q. and_left (ltb (get_or l i 0) w) (fresh_ok l i) (at i q)))
        (fresh_distinct l (λ i j q r. not-true (eqb (get_or l j 0) (get_or l i 0))
        (all_at (λ j. not (eqb (get_or l j 0) (get_or l i 0))) i (and_right (ltb (get_or l i 0) w) (fresh_ok l i) (at i r)) j q)))

    back : columns_fit w l ≡ true → all_below (column_ok l w) (length l) ≡ true
    back h =
        all_intro (column_ok l w) (length l)
        (λ i q. both (ltb (get_or l i 0) w) (fresh_ok l i) (every-at (λ c. ltb c w) l (and_left (below w l) (distinct l) h) i q)
        (all_intro (λ j. not (eqb (get_or l j 0) (get_or l i 0))) i (λ j r. ap not (distinct_fresh l (and_right (below w l) (distinct l) h) i j r q))))
