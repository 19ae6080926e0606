-- Bytes of a list: sums, zeros, little-endian numbers, parts; a test at every number below n. These are definitions.
use Rattle.std.specs.Prelude.{Bool, true, false, ◌&&◌, List, [], ◌∷◌, ℕ, zero, suc, ◌+◌, ◌*◌, ◌<◌, eqb, length, get_or, take, drop}

-- each number of the list is a byte
pub record AllBytes (l : List ℕ) : Type 0 where
  pub below : (i : ℕ) → i < length l → get_or l i 0 < 256

-- n bytes from `at` on
abbrev pub part : ℕ → ℕ → List ℕ → List ℕ
part at n s = take n (drop at s)

-- the sum of the bytes
abbrev pub total : List ℕ → ℕ
total [] = 0
total (x ∷ l) = x + total l

-- whether each byte is zero
abbrev pub zeros : List ℕ → Bool
zeros [] = true
zeros (x ∷ l) = eqb x 0 && zeros l

-- a flag as a number
abbrev pub one_if : Bool → ℕ
one_if false = 0
one_if true = 1

-- little-endian numbers of two and of four bytes
abbrev pub le16 : List ℕ → ℕ → ℕ
le16 s at = get_or s at 0 + 256 * get_or s (at + 1) 0

abbrev pub le32 : List ℕ → ℕ → ℕ
le32 s at = get_or s at 0 + 256 * get_or s (at + 1) 0 + 65536 * get_or s (at + 2) 0 + 16777216 * get_or s (at + 3) 0

-- a test at every number below n. It is shut: at a numeral such as 508 it must not unroll
unfoldable pub all_below : (ℕ → Bool) → ℕ → Bool
all_below p zero = true
all_below p (suc n) = all_below p n && p n
