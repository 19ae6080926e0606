-- The front of an array that the code lends. Assumes nothing.
use Rattle.std.specs.Prelude.{◌≡◌, List, [], ◌∷◌, ℕ, zero, suc, ◌≤◌, length, take}
use Rattle.std.proofs.Common.{sym, ap, arith, length-take, length-take-le}
use Rattle.class_tables.specs.Tables.{Columns}

-- its length, where the whole array is known
pub counted : (ks ps : List ℕ) (m n : ℕ) → ks ≡ ps → length ps ≡ m → n ≤ m → n ≡ length (take n ks)
counted ks ps m n e l h = let z = ap length e in sym (length-take-le n ks (omega arith))

pub short : (m n : ℕ) (l : List ℕ) → n ≤ m → length (take n l) ≤ m
short m n l h = omega (arith, length-take n l)

-- columns stay columns
pub front_columns : (n : ℕ) (l : List ℕ) → Columns l → Columns (take n l)
front_columns zero l h i = omega arith
front_columns (suc n) [] h i = omega arith
front_columns (suc n) (c ∷ l) h zero = h 0
front_columns (suc n) (c ∷ l) h (suc i) = front_columns n l (λ j. h (suc j)) i
