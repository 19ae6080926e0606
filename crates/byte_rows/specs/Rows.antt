-- Numbers as bytes. Assumes nothing.
use Rattle.std.specs.Prelude.{◌≡◌, refl, List, [], ◌∷◌, map, ℕ, zero, suc, ◌%◌, length, get_or}
use Rattle.std.proofs.Common.{sym, ap, ◌∙◌}
use Rattle.std.specs.Int.Bits.{bit_and}
use Rattle.std.proofs.lemmas.Nat.{and_mask}

-- The low byte of each number
abbrev pub low_bytes : List ℕ → List ℕ
low_bytes l = map (λ k. k % 256) l

pub low_at : (l : List ℕ) (i : ℕ) → get_or (low_bytes l) i 0 ≡ get_or l i 0 % 256
low_at [] i = refl
low_at (k ∷ l) zero = refl
low_at (k ∷ l) (suc i) = low_at l i

-- as the code masks it
pub low_mask : (l : List ℕ) (i : ℕ) → bit_and (get_or l i 0) 255 ≡ get_or (low_bytes l) i 0
low_mask l i = and_mask (get_or l i 0) 8 ∙ sym (low_at l i)

pub length_low : (l : List ℕ) → length (low_bytes l) ≡ length l
length_low [] = refl
length_low (k ∷ l) = ap suc (length_low l)
