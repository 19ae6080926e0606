-- The cells of a row, read one by one. Assumes nothing.
use Rattle.std.specs.Prelude.{◌≡◌, refl, List, [], ◌∷◌, ◌++◌, ℕ, zero, suc, ◌+◌, ◌*◌, ◌<◌, ◌≤◌, ℤ, length, take, set}
use Rattle.std.proofs.Common.{sym, ap, ap₂, ◌∙◌, subst, arith, add-one, take-suc-set}
use Rattle.row_order.specs.Lists.{tab}
use Rattle.row_order.specs.ListLaws.{length-tab}
use Rattle.scan.specs.Bytes.{part}
use Rattle.scan.specs.Words.{value}
use Rattle.stepping.specs.RowBytes.{signed, numbers_at}

-- a table with one entry more, at its end
pub tab_more : {A : Type 0} (n : ℕ) (f : ℕ → A) → tab (suc n) f ≡ tab n f ++ (f n ∷ [])
tab_more zero f = refl
tab_more {A} (suc n) f = ap (λ (l : List A). f zero ∷ l) (tab_more n (λ k. f (suc k)))

pub numbers_more : (s : List ℕ) (at c : ℕ) (l : List ℤ) (x : ℕ) (z : ℤ) → c < length l → take c l ≡ numbers_at s at c →
    x ≡ value (part (at + 4 + 8 * c) 8 s) → z ≡ signed x → take (c + 1) (set l c z) ≡ numbers_at s at (c + 1)
numbers_more s at c l x z h e f g =
    ap (λ (n : ℕ). take n (set l c z)) (add-one c) ∙ take-suc-set l c z h
    ∙ ap₂ (λ (m : List ℤ) (y : ℤ). m ++ (y ∷ [])) e (g ∙ ap signed f)
    ∙ sym (ap (numbers_at s at) (add-one c) ∙ tab_more c (λ k. signed (value (part (at + 4 + 8 * k) 8 s))))

pub numbers_end : (s : List ℕ) (at w c : ℕ) (l : List ℤ) → c ≤ w → w ≤ c → take c l ≡ numbers_at s at c → take w l ≡ numbers_at s at w
numbers_end s at w c l a b e = let q : c ≡ w = omega arith in subst (λ (n : ℕ). take n l ≡ numbers_at s at n) q e

pub numbers_length : (s : List ℕ) (at w : ℕ) (l : List ℤ) → take w l ≡ numbers_at s at w → w ≡ length (take w l)
numbers_length s at w l e = sym (ap length e ∙ length-tab w (λ k. signed (value (part (at + 4 + 8 * k) 8 s))))
