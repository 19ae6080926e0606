-- Bytes padded with zeros, and single bytes of lists.
use Rattle.std.specs.Prelude.{◌≡◌, refl, true, List, [], ◌∷◌, ℕ, zero, suc, ◌+◌, ◌≤◌, eqb, length, get_or, take, drop}
use Rattle.std.proofs.Common.{sym, ap, ap₂, ◌∙◌, arith, drop-cons, eqb-true}
use Rattle.scan.specs.Below.{and_left, and_right}
use Rattle.scan.specs.Bytes.{part, zeros}
use Rattle.plan_format.specs.Blocks.{span}
use Rattle.plan_codec.specs.Encode.{fill}

pub length-fill : (n : ℕ) (l : List ℕ) → length (fill n l) ≡ n
length-fill zero l = refl
length-fill (suc n) [] = ap suc (length-fill n [])
length-fill (suc n) (x ∷ l) = ap suc (length-fill n l)

pub fill_at : (n : ℕ) (l : List ℕ) (i : ℕ) → length l ≤ n → get_or (fill n l) i 0 ≡ get_or l i 0
fill_at zero [] i h = refl
fill_at zero (x ∷ l) i h = absurd (omega arith)
fill_at (suc n) [] zero h = refl
fill_at (suc n) [] (suc i) h = fill_at n [] i (omega arith)
fill_at (suc n) (x ∷ l) zero h = refl
fill_at (suc n) (x ∷ l) (suc i) h = fill_at n l i (omega arith)

pub fill-take : (n : ℕ) (l : List ℕ) → length l ≤ n → take (length l) (fill n l) ≡ l
fill-take n [] h = refl
fill-take zero (x ∷ l) h = absurd (omega arith)
fill-take (suc n) (x ∷ l) h = ap (λ (m : List ℕ). x ∷ m) (fill-take n l (omega arith))

-- past its bytes there are zeros
pub fill_rest : (n k : ℕ) (l : List ℕ) → length l ≤ k → zeros (drop k (fill n l)) ≡ true
fill_rest zero zero l h = refl
fill_rest zero (suc k) l h = refl
fill_rest (suc n) zero [] h = fill_rest n zero [] h
fill_rest (suc n) zero (x ∷ l) h = absurd (omega arith)
fill_rest (suc n) (suc k) [] h = fill_rest n k [] (omega arith)
fill_rest (suc n) (suc k) (x ∷ l) h = fill_rest n k l (omega arith)

-- bytes that are zero from k on
pub fill_back : (k : ℕ) (l : List ℕ) → zeros (drop k l) ≡ true → fill (length l) (take k l) ≡ l
fill_back zero [] h = refl
fill_back zero (x ∷ l) h = ap₂ ◌∷◌ (sym (eqb-true x 0 (and_left (eqb x 0) (zeros l) h))) (fill_back zero l (and_right (eqb x 0) (zeros l) h))
fill_back (suc k) [] h = refl
fill_back (suc k) (x ∷ l) h = ap (λ (m : List ℕ). x ∷ m) (fill_back k l h)

-- a part, byte by byte
pub part_bytes : (s : List ℕ) (n a : ℕ) → a + n ≤ length s → part a n s ≡ span (λ i. get_or s i 0) a n
unfolding span
part_bytes s zero a h = refl
part_bytes s (suc n) a h = ap (take (suc n)) (drop-cons s a 0 (omega arith)) ∙ ap (λ (m : List ℕ). get_or s a 0 ∷ m) (part_bytes s n (suc a) (omega arith))
