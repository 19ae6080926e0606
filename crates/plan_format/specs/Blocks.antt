-- A plan file as bytes: its length, its blocks and its records. These are definitions; the sentences are document 01's.
use Rattle.std.specs.Prelude.{Bool, ◌&&◌, List, [], ◌∷◌, ℕ, zero, suc, ◌+◌, ◌*◌, ◌-◌, ◌/◌, ◌%◌, eqb, length, get_or, take}
use Rattle.scan.specs.Bytes.{part, total, zeros, le16, le32}
use Rattle.plan.specs.WellFormed.{between}
use Rattle.plan_format.specs.Record.{either}

-- 'A file is 1 to 18 blocks of 512 bytes'; n: its length
abbrev pub length_ok : ℕ → Bool
length_ok n = between 1 9216 n && eqb (n % 512) 0

abbrev pub block_count : List ℕ → ℕ
block_count s = length s / 512

abbrev pub block : List ℕ → ℕ → List ℕ
block s k = part (k * 512) 512 s

-- '508-511 the sum of bytes 0-507'
abbrev pub sum_ok : List ℕ → Bool
sum_ok b = eqb (total (take 508 b)) (le32 b 508)

-- '4 its records (7, in the last block 1 to 7)'
abbrev pub count_ok : Bool → ℕ → Bool
count_ok last c = either last (between 1 7 c) (eqb c 7)

-- '5-7 zero; from 8 the records of 64 bytes; then zeros'
abbrev pub padding_ok : List ℕ → Bool
padding_ok b = zeros (part 5 3 b) && zeros (part (8 + 64 * get_or b 4 0) (508 - (8 + 64 * get_or b 4 0)) b)

-- 'bytes 0-1 its number from 0; 2-3 the block total'; block k of n
abbrev pub header_ok : ℕ → ℕ → List ℕ → Bool
header_ok n k b = ((eqb (le16 b 0) k && eqb (le16 b 2) n) && count_ok (eqb (k + 1) n) (get_or b 4 0)) && padding_ok b

-- The records of a file: seven in each block but the last
abbrev pub record_count : List ℕ → ℕ
record_count s = 7 * (block_count s - 1) + get_or (block s (block_count s - 1)) 4 0

-- Where record i starts
abbrev pub record_start : ℕ → ℕ
record_start i = 512 * (i / 7) + (8 + 64 * (i % 7))

abbrev pub record_at : List ℕ → ℕ → List ℕ
record_at s i = part (record_start i) 64 s

-- f i, f (i + 1), .., n of them
module _ {A : Type 0} (f : ℕ → A) where
  unfoldable pub span : ℕ → ℕ → List A
  span i zero = []
  span i (suc n) = f i ∷ span (suc i) n

abbrev pub records : List ℕ → List (List ℕ)
records s = span (record_at s) 0 (record_count s)
