-- The file of a list of records, and what the writer leaves in the lent output. These are definitions; the sentences are document 01's.
use Rattle.std.specs.Prelude.{Bool, cond, List, [], ◌∷◌, ◌++◌, ℕ, zero, suc, ◌+◌, ◌*◌, ◌-◌, ◌/◌, ◌%◌, ltb, length, drop, replicate, Err}
use Rattle.scan.specs.Bytes.{total, part}
use Rattle.plan.specs.Numbers.{Verdict, Accepted}
use Rattle.plan.specs.declared.Refusal.TheVariants.{OutputTooShort}

-- 'multi-byte fields little-endian': a number in four bytes
abbrev pub four_bytes : ℕ → List ℕ
four_bytes x = (x % 256) ∷ (x / 256 % 256) ∷ (x / 65536 % 256) ∷ (x / 16777216 % 256) ∷ []

-- 'bytes 0-1 its number from 0; 2-3 the block total; 4 its records; 5-7 zero': block k of n, with c records
abbrev pub header : ℕ → ℕ → ℕ → List ℕ
header k n c = (k % 256) ∷ (k / 256 % 256) ∷ (n % 256) ∷ (n / 256 % 256) ∷ c ∷ 0 ∷ 0 ∷ 0 ∷ []

-- 'from 8 the records of 64 bytes; then zeros'; rs: the records' bytes, one record after the other
unfoldable pub body : ℕ → ℕ → List ℕ → List ℕ
body n k rs = (header k n (length rs / 64) ++ rs) ++ replicate (500 - length rs) 0

-- '508-511 the sum of bytes 0-507'
unfoldable pub block_of : ℕ → ℕ → List ℕ → List ℕ
block_of n k rs = body n k rs ++ four_bytes (total (body n k rs))

-- Seven records to a block: how many blocks some bytes of records take, and the records of block k
abbrev pub blocks_for : ℕ → ℕ
blocks_for bytes = (bytes / 64 + 6) / 7

abbrev pub seven_at : List ℕ → ℕ → List ℕ
seven_at rs k = part (k * 448) 448 rs

-- Blocks 0 to k - 1 of n
unfoldable pub blocks_to : ℕ → List ℕ → ℕ → List ℕ
blocks_to n rs zero = []
blocks_to n rs (suc k) = blocks_to n rs k ++ block_of n k (seven_at rs k)

-- The file of records that stand one after the other
unfoldable pub file_of_bytes : List ℕ → List ℕ
file_of_bytes rs = blocks_to (blocks_for (length rs)) rs (blocks_for (length rs))

abbrev pub joined : List (List ℕ) → List ℕ
joined [] = []
joined (r ∷ l) = r ++ joined l

-- The file of a list of records
abbrev pub file_of : List (List ℕ) → List ℕ
file_of l = file_of_bytes (joined l)

-- 24: 'the output buffer is shorter than the file to write'
abbrev pub too_short : List ℕ → List ℕ → Bool
too_short rs out = ltb (length out) (blocks_for (length rs) * 512)

abbrev pub write_refusal : List ℕ → List ℕ → Verdict
write_refusal rs out = cond (too_short rs out) (Err OutputTooShort) Accepted

-- The output after a call: the file over its start, and 'bytes past the file stay'; all of it stays where the file does not fit
unfoldable pub written : List ℕ → List ℕ → List ℕ
written rs out = cond (too_short rs out) out (file_of_bytes rs ++ drop (blocks_for (length rs) * 512) out)
