-- The order has every row, also after one was taken out and put to the end. Assumes nothing.
use Rattle.std.specs.Prelude.{◌≡◌, refl, List, [], ◌∷◌, ℕ, zero, suc, ◌-◌, ◌<◌, ◌≤◌, length, get_or}
use Rattle.std.proofs.Common.{sym, ap, ◌∙◌, arith, length-append}
use Rattle.std.proofs.Math.Decide.{dec_lt, ℕ_discrete}
use Rattle.std.proofs.Math.ListN.{get_or-append}
use Rattle.std.proofs.lemmas.List.{get_or_at}
use Rattle.step_tables.specs.Places.{without, taken_out}
use Rattle.step_tables.specs.Found.{Known}
use Rattle.step_tables.specs.Turns.{length_without, get_or-without}

-- Each row number below n stands somewhere in the order
abbrev pub Complete : List ℕ → ℕ → Type 0
Complete order n = (r : ℕ) → r < n → (j : ℕ) × (j < length order) × (get_or order j 0 ≡ r)

without_before : (i j : ℕ) (l : List ℕ) → j < i → get_or (without i l) j 0 ≡ get_or l j 0
without_before i j [] h = refl
without_before zero j (x ∷ l) h = absurd (omega arith)
without_before (suc i) zero (x ∷ l) h = refl
without_before (suc i) (suc j) (x ∷ l) h = without_before i j l (omega arith)

module _ (i : ℕ) (l : List ℕ) (h : i < length l) where
  pub length_taken : length (taken_out i l) ≡ length l
  length_taken = omega (arith, length-append (without i l) (get_or l i 0 ∷ []), length_without i l h)

  -- ---- what stands where
  taken_before : (j : ℕ) → j < i → get_or (taken_out i l) j 0 ≡ get_or l j 0
  taken_before j k = get_or-append (without i l) (get_or l i 0 ∷ []) 0 j (omega (arith, length_without i l h)) ∙ without_before i j l k

  taken_after : (j : ℕ) → i ≤ j → suc j < length l → get_or (taken_out i l) j 0 ≡ get_or l (suc j) 0
  taken_after j k f = get_or-append (without i l) (get_or l i 0 ∷ []) 0 j (omega (arith, length_without i l h)) ∙ get_or-without i j l k

  taken_last : (j : ℕ) → suc j ≡ length l → get_or (taken_out i l) j 0 ≡ get_or l i 0
  taken_last j e = get_or_at (without i l) (get_or l i 0) [] 0 j (omega (arith, length_without i l h))

  pub complete_kept : (n : ℕ) → Complete l n → Complete (taken_out i l) n
  complete_kept n c r f = let w = c r f in go w.0 w.1 w.2 (ℕ_discrete w.0 i) (dec_lt w.0 i)
    where
      go : (j : ℕ) → j < length l → get_or l j 0 ≡ r → Dec (j ≡ i) → Dec (j < i) → (k : ℕ) × (k < length (taken_out i l)) × (get_or (taken_out i l) k 0 ≡ r)
      go j k e (yes z) d = (length l - 1, omega (arith, length_taken), taken_last (length l - 1) (omega arith) ∙ ap (λ (x : ℕ). get_or l x 0) (sym z) ∙ e)
      go j k e (no z) (yes d) = (j, omega (arith, length_taken), taken_before j d ∙ e)
      go j k e (no z) (no d) =
          let y : suc (j - 1) ≡ j = omega arith in
          (j - 1, omega (arith, length_taken), taken_after (j - 1) (omega arith) (omega arith) ∙ ap (λ (x : ℕ). get_or l x 0) y ∙ e)

  pub known_kept : (n : ℕ) → Known l n → Known (taken_out i l) n
  known_kept n known j f = go (dec_lt j i) (ℕ_discrete (suc j) (length l))
    where
      go : Dec (j < i) → Dec (suc j ≡ length l) → get_or (taken_out i l) j 0 < n
      go (yes d) e = omega (arith, taken_before j d, known j (omega arith))
      go (no d) (yes e) = omega (arith, taken_last j e, known i h)
      go (no d) (no e) = omega (arith, taken_after j (omega arith) (omega (arith, length_taken)), known (suc j) (omega (arith, length_taken)))
