-- What the writer leaves in the output. The definition stands in Writing; here is what it says. Assumes nothing.
use Rattle.std.specs.Prelude.{◌≡◌, refl, true, false, List, ◌++◌, ℕ, zero, suc, ◌+◌, ◌*◌, ◌-◌, ◌/◌, ◌≤◌, length, take, drop, replicate}
use Rattle.std.proofs.Common.{ap, ◌∙◌, arith, length-append, length-take, take_at, drop_at}
use Rattle.std.proofs.lemmas.List.{length-replicate}
use Rattle.scan.specs.Bytes.{total}
use Rattle.plan_format.specs.Writing.{header, four_bytes, body, block_of, seven_at, blocks_for, blocks_to, file_of_bytes, too_short, written}

-- ---- lengths

pub length_block : (n k : ℕ) (rs : List ℕ) → length rs ≤ 448 → length (block_of n k rs) ≡ 512
unfolding block_of body
length_block n k rs h =
    let a = length-append ((header k n (length rs / 64) ++ rs) ++ replicate (500 - length rs) 0)
    (four_bytes (total ((header k n (length rs / 64) ++ rs) ++ replicate (500 - length rs) 0))) in
    let b = length-append (header k n (length rs / 64) ++ rs) (replicate (500 - length rs) 0) in
    let c = length-append (header k n (length rs / 64)) rs in
    let d = length-replicate {A = ℕ} (500 - length rs) 0 in
    omega arith

pub length_seven : (rs : List ℕ) (k : ℕ) → length (seven_at rs k) ≤ 448
length_seven rs k = omega (arith, length-take 448 (drop (k * 448) rs))

pub length_blocks : (n : ℕ) (rs : List ℕ) (N : ℕ) → length (blocks_to n rs N) ≡ N * 512
unfolding blocks_to
length_blocks n rs zero = refl
length_blocks n rs (suc N) =
    let a = length-append (blocks_to n rs N) (block_of n N (seven_at rs N)) in
    let b = length_block n N (seven_at rs N) (length_seven rs N) in
    let c = length_blocks n rs N in
    omega arith

pub length_whole : (rs : List ℕ) → length (file_of_bytes rs) ≡ blocks_for (length rs) * 512
unfolding file_of_bytes
length_whole rs = length_blocks (blocks_for (length rs)) rs (blocks_for (length rs))

-- ---- the output after a call

module _ (rs out : List ℕ) where
  -- the file stands at the start
  pub file_first : too_short rs out ≡ false → take (blocks_for (length rs) * 512) (written rs out) ≡ file_of_bytes rs
  unfolding written
  file_first e = rw e (take_at (file_of_bytes rs) _ (blocks_for (length rs) * 512) (length_whole rs))

  -- 'bytes past the file stay'
  pub past_stays : too_short rs out ≡ false → drop (blocks_for (length rs) * 512) (written rs out) ≡ drop (blocks_for (length rs) * 512) out
  unfolding written
  past_stays e = rw e (drop_at (file_of_bytes rs) (drop (blocks_for (length rs) * 512) out) (blocks_for (length rs) * 512) (length_whole rs))

  -- 'A refusal .. leaves tree and buffers alone'
  pub refusal_writes_nothing : too_short rs out ≡ true → written rs out ≡ out
  unfolding written
  refusal_writes_nothing e = rw e
