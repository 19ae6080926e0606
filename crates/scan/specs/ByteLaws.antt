-- Laws of the words of Bytes. Assumes nothing.
use Rattle.std.specs.Prelude.{◌≡◌, refl, ◌&&◌, List, [], ◌∷◌, ℕ, zero, suc, ◌+◌, ◌-◌, ◌≤◌, eqb, length, take, drop}
use Rattle.std.proofs.Common.{sym, ap, ◌∙◌, arith, length-drop, length-take-le, take_all}
use Rattle.scan.specs.Bytes.{part, total, zeros}
use Rattle.scan.specs.Below.{and_assoc}

-- the sum of both parts
pub total_parts : (s : List ℕ) (h : ℕ) → total (take h s) + total (drop h s) ≡ total s
total_parts s zero = omega arith
total_parts [] (suc h) = omega arith
total_parts (x ∷ s) (suc h) = let z = total_parts s h in omega arith

-- the first n bytes, and the others; from u on, up to n and past it
pub zeros_parts : (s : List ℕ) (n : ℕ) → zeros s ≡ zeros (take n s) && zeros (drop n s)
zeros_parts s zero = refl
zeros_parts [] (suc n) = refl
zeros_parts (x ∷ s) (suc n) = ap (λ z. eqb x 0 && z) (zeros_parts s n) ∙ sym (and_assoc (eqb x 0) (zeros (take n s)) (zeros (drop n s)))

pub zeros_from : (s : List ℕ) (u n : ℕ) → u ≤ n → zeros (drop u s) ≡ zeros (drop u (take n s)) && zeros (drop n s)
zeros_from s zero n h = zeros_parts s n
zeros_from s (suc u) zero h = absurd (omega arith)
zeros_from [] (suc u) (suc n) h = refl
zeros_from (x ∷ s) (suc u) (suc n) h = zeros_from s u n (omega arith)

-- the part that `&s[a..a + n]` lends: its length, as the code writes it
pub cut : (s : List ℕ) (a n : ℕ) → take (a + n - a) (drop a s) ≡ part a n s
cut s a n = let e : a + n - a ≡ n = omega arith in ap (λ (k : ℕ). take k (drop a s)) e

-- the part that `&s[a..]` lends
pub cut_end : (s : List ℕ) (a : ℕ) → take (length s - a) (drop a s) ≡ drop a s
cut_end s a = take_all (length s - a) (drop a s) (omega (arith, length-drop a s))

pub length_part : (s : List ℕ) (a n : ℕ) → a + n ≤ length s → length (part a n s) ≡ n
length_part s a n h = length-take-le n (drop a s) (rw length-drop (omega arith))
