-- Key slots: one by one, and four at a time in one number, by a mask and a shift. Assumes nothing.
use Rattle.std.specs.Prelude.{◌≡◌, refl, Bool, true, false, List, [], ◌∷◌, ℕ, zero, suc, ◌+◌, ◌-◌, ◌*◌, ◌/◌, ◌%◌, ◌^◌, ◌≤◌, ◌<◌, eqb, ltb, length, get_or, drop}
use Rattle.std.proofs.Common.{sym, ap, ◌∙◌, arith, mod-eq_of_lt, drop_of_length-le, eqb-true, eq-eqb, ne_eqb, lt-ltb}
use Rattle.std.proofs.Math.Path.{ap₂}
use Rattle.std.proofs.Math.Bool.{◌&&◌}
use Rattle.std.proofs.lemmas.Bool.{false≢true, eqb-false}
use Rattle.std.specs.Int.Bits.{bit_and, and_zero_r, and_zero_l}
use Rattle.std.proofs.lemmas.Nat.{and_mask}
use Rattle.std.proofs.lemmas.Nat.Bits.{and_high}
use Rattle.scan.specs.Bytes.{all_below, zeros, part}
use Rattle.scan.specs.Below.{all_ap, all_first, all_add, and_false, and_true, or_false, and_assoc}
use Rattle.scan.specs.ByteLaws.{length_part}
use Rattle.scan.specs.Parts.{at_part}
use Rattle.scan.specs.Words.{value, Small, small_part, clear, value_mask, value-drop, value-zero, zeros-clear}
use Rattle.plan_format.specs.KeySlots.{sooner, slot_next}
use Rattle.plan_format.specs.Record.{either, key_ok, key_slot_ok, key_slots_ok}
use Rattle.record_lists.specs.Slots.{no_option, forbidden}

-- ---- the slots of k keys, n of them used

options_clear : (p : Bool) (o : ℕ) → o < 256 → eqb (bit_and o (no_option p)) 0 ≡ either p (eqb o 0) (eqb (o / 4) 0)
options_clear true o h = ap (λ n. eqb n 0) (and_mask o 8 ∙ mod-eq_of_lt h) ∙ sym (or_false (eqb o 0))
options_clear false o h = ap (λ n. eqb n 0) (and_high o 6 2) ∙ go (o / 4) (omega arith)
  where
    go : (q : ℕ) → q < 64 → eqb (q % 64 * 4) 0 ≡ eqb q 0
    go q l = let e : q % 64 ≡ q = mod-eq_of_lt l in rw e (times q (eqb q 0) refl)
      where
        times : (q : ℕ) (b : Bool) → eqb q 0 ≡ b → eqb (q * 4) 0 ≡ b
        times q true e = eq-eqb (q * 4) 0 (let z = eqb-true q 0 e in omega arith)
        times q false e = ne_eqb (q * 4) 0 (λ z. eqb-false q 0 e (omega arith))

abbrev pub slots_of : Bool → ℕ → List ℕ → ℕ → Bool
slots_of p n l k = all_below (λ i. key_ok p n i (get_or l (2 * i) 0) (get_or l (2 * i + 1) 0)) k

-- a slot that is not used, and one that is; z: what follows is zero, a: it is clear
free : (x y t a z : Bool) → (y ≡ true → t ≡ true) → (x && y) && (a && z) ≡ (true && (t && a)) && (x && (y && z))
free true true true a z h = refl
free false true true true z h = refl
free false true true false z h = refl
free x true false a z h = absurd (false≢true (h refl))
free true false t a z h = sym (and_false (t && a) false refl)
free false false t a z h = sym (and_false (t && a) false refl)

pub slots_clear : (p : Bool) (n k : ℕ) (l : List ℕ) → Small l → length l ≡ 2 * k → slots_of p n l k ≡ clear l (forbidden p k) && zeros (drop (2 * n) l)
unfolding all_below
slots_clear p n zero [] h e = sym (ap zeros (drop_of_length-le [] {i = 2 * n} (omega arith)))
slots_clear p n zero (x ∷ l) h e = absurd (omega arith)
slots_clear p n (suc k) [] h e = absurd (omega arith)
slots_clear p n (suc k) (c ∷ []) h e = absurd (omega arith)
slots_clear p n (suc k) (c ∷ o ∷ l) h e =
    all_first (λ i. key_ok p n i (get_or (c ∷ o ∷ l) (2 * i) 0) (get_or (c ∷ o ∷ l) (2 * i + 1) 0)) k
    ∙ ap (λ b. key_ok p n 0 c o && b)
    (all_ap _ _ k (λ i q. slot_next c o l i p n (n - 1) refl) ∙ slots_clear p (n - 1) k l (λ i. h (suc (suc i))) (omega arith))
    ∙ first n
  where
    skip : eqb (bit_and c 0) 0 ≡ true
    skip = ap (λ n. eqb n 0) (and_zero_r c)

    first : (n : ℕ) → key_ok p n 0 c o && (clear l (forbidden p k) && zeros (drop (2 * (n - 1)) l))
        ≡ clear (c ∷ o ∷ l) (forbidden p (suc k)) && zeros (drop (2 * n) (c ∷ o ∷ l))
    first zero =
        free (eqb c 0) (eqb o 0) (eqb (bit_and o (no_option p)) 0) (clear l (forbidden p k)) (zeros l)
        (λ y. ap (λ n. eqb (bit_and n (no_option p)) 0) (eqb-true o 0 y) ∙ ap (λ n. eqb n 0) (and_zero_l (no_option p)))
        ∙ rw skip
    first (suc n) =
        let t : ltb 0 (suc n) ≡ true = lt-ltb 0 (suc n) (omega arith) in
        let d : 2 * suc n ≡ suc (suc (2 * n)) = omega arith in
        let f : suc n - 1 ≡ n = omega arith in
        rw (t, d, f, skip)
        (ap (λ b. b && (clear l (forbidden p k) && zeros (drop (2 * n) l))) (or_false (either p (eqb o 0) (eqb (o / 4) 0)) ∙ sym (options_clear p o (h 1)))
        ∙ sym (and_assoc (eqb (bit_and o (no_option p)) 0) (clear l (forbidden p k)) (zeros (drop (2 * n) l))))

-- ---- eight slots in two numbers

small_forbidden : (p : Bool) (k : ℕ) → Small (forbidden p k)
small_forbidden p zero i = omega arith
small_forbidden p (suc k) zero = omega arith
small_forbidden true (suc k) (suc zero) = omega arith
small_forbidden false (suc k) (suc zero) = omega arith
small_forbidden p (suc k) (suc (suc i)) = small_forbidden p k i

module _ (p : Bool) (r : List ℕ) (h : Small r) (l : length r ≡ 64) where
  abbrev n : ℕ
  n = get_or r 12 0

  abbrev low : List ℕ
  low = part 16 8 r

  abbrev high : List ℕ
  high = part 24 8 r

  at_low : (i : ℕ) → i < 4 → key_slot_ok p r i ≡ key_ok p n i (get_or low (2 * i) 0) (get_or low (2 * i + 1) 0)
  at_low i q =
      let e : 17 + 2 * i ≡ 16 + (2 * i + 1) = omega arith in
      ap₂ (key_ok p n i) (sym (at_part r 16 8 (2 * i) (omega arith))) (ap (λ (k : ℕ). get_or r k 0) e ∙ sym (at_part r 16 8 (2 * i + 1) (omega arith)))

  at_high : (i : ℕ) → i < 4 → key_slot_ok p r (4 + i) ≡ key_ok p (n - 4) i (get_or high (2 * i) 0) (get_or high (2 * i + 1) 0)
  at_high i q =
      let e : 16 + 2 * (4 + i) ≡ 24 + 2 * i = omega arith in
      let f : 17 + 2 * (4 + i) ≡ 24 + (2 * i + 1) = omega arith in
      rw (sooner 4 i n)
      (ap₂ (key_ok p (n - 4) i) (ap (λ (k : ℕ). get_or r k 0) e ∙ sym (at_part r 24 8 (2 * i) (omega arith)))
      (ap (λ (k : ℕ). get_or r k 0) f ∙ sym (at_part r 24 8 (2 * i + 1) (omega arith))))

  slots_are : key_slots_ok p r ≡ (clear low (forbidden p 4) && zeros (drop (2 * n) low)) && (clear high (forbidden p 4) && zeros (drop (2 * (n - 4)) high))
  unfolding key_slots_ok
  slots_are =
      all_add (key_slot_ok p r) 4 4
      ∙ ap₂ ◌&&◌ (all_ap _ _ 4 at_low ∙ slots_clear p n 4 low (small_part r 16 8 h) (length_part r 16 8 (omega arith)))
      (all_ap _ _ 4 at_high ∙ slots_clear p (n - 4) 4 high (small_part r 24 8 h) (length_part r 24 8 (omega arith)))

  masked : (l : List ℕ) → Small l → eqb (bit_and (value l) (value (forbidden p 4))) 0 ≡ clear l (forbidden p 4)
  masked l s = value_mask l (forbidden p 4) s (small_forbidden p 4)

  shifted : (l : List ℕ) (m : ℕ) → Small l → eqb (value l / 2 ^ (16 * m)) 0 ≡ zeros (drop (2 * m) l)
  shifted l m s =
      let e : 16 * m ≡ 8 * (2 * m) = omega arith in
      rw e (ap (λ (v : ℕ). eqb v 0) (value-drop l (2 * m) s) ∙ value-zero (drop (2 * m) l))

  -- up to three keys, and four or more
  pub few_keys : n < 4 → (eqb (bit_and (value low) (value (forbidden p 4))) 0 && eqb (value low / 2 ^ (16 * n)) 0) && eqb (value high) 0 ≡ key_slots_ok p r
  few_keys q =
      let z : 2 * (n - 4) ≡ 0 = omega arith in
      ap₂ ◌&&◌ (ap₂ ◌&&◌ (masked low (small_part r 16 8 h)) (shifted low n (small_part r 16 8 h)))
      (value-zero high ∙ zeros-clear high (forbidden p 4) ∙ ap (λ (k : ℕ). clear high (forbidden p 4) && zeros (drop k high)) (sym z))
      ∙ sym slots_are

  pub many_keys : 4 ≤ n
      → eqb (bit_and (value low) (value (forbidden p 4))) 0
      && (eqb (bit_and (value high) (value (forbidden p 4))) 0 && eqb (value high / 2 ^ (16 * (n - 4))) 0)
      ≡ key_slots_ok p r
  many_keys q =
      let d : drop (2 * n) low ≡ [] = drop_of_length-le low {i = 2 * n} (let e = length_part r 16 8 (omega arith) in omega arith) in
      ap₂ ◌&&◌
      (masked low (small_part r 16 8 h) ∙ sym (and_true (clear low (forbidden p 4))) ∙ ap (λ (s : List ℕ). clear low (forbidden p 4) && zeros s) (sym d))
      (ap₂ ◌&&◌ (masked high (small_part r 24 8 h)) (shifted high (n - 4) (small_part r 24 8 h)))
      ∙ sym slots_are

  pub no_keys : n ≡ 0 → zeros low && zeros high ≡ key_slots_ok p r
  no_keys q =
      let y : 2 * n ≡ 0 = omega arith in
      let z : 2 * (n - 4) ≡ 0 = omega arith in
      ap₂ ◌&&◌ (zeros-clear low (forbidden p 4) ∙ ap (λ (k : ℕ). clear low (forbidden p 4) && zeros (drop k low)) (sym y))
      (zeros-clear high (forbidden p 4) ∙ ap (λ (k : ℕ). clear high (forbidden p 4) && zeros (drop k high)) (sym z))
      ∙ sym slots_are
