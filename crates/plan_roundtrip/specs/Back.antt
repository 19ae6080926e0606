-- What the writer writes, the reader's first passes accept, and the records come back.
use Rattle.std.specs.Prelude.{◌≡◌, refl, Bool, ◌||◌, get_or, take, drop}
use Rattle.std.proofs.Common.{sym, ◌∙◌, take_at, get_or-append-add}
use Rattle.std.proofs.Math.Path.{ap, ap₂}
use Rattle.std.proofs.Math.Bool.{true, false, ◌&&◌}
use mathlib.Core.List.{List, [], ◌∷◌, ◌++◌}
use Prim.Native.Nat.{ℕ, zero, suc, ◌+◌, ◌*◌, ◌-◌, ◌/◌, ◌%◌, ◌≤◌, ◌<◌, min}
use native.Mathlib.Omega.{arith}
use Rattle.std.proofs.Math.Decide.{dec_lt}
use Rattle.std.proofs.Math.Dec.{eqb}
use Rattle.std.proofs.Math.ListN.{length, replicate, length-append, length-take, length-drop, length-replicate}
use Rattle.std.proofs.Math.Seq.{take_all}
use borrow.Author.Tests.{eq-eqb, le-leb, eqb-false}
use Rattle.scan.specs.Bytes.{AllBytes, all_below, part, total, zeros, le32}
use Rattle.scan.specs.Below.{all_intro}
use Rattle.scan.specs.Words.{four_again}
use Rattle.plan_format.specs.Blocks.{length_ok, block_count, block, sum_ok, count_ok, header_ok, record_start, record_at, record_count}
use Rattle.plan_format.specs.Reading.{sums_ok, headers_ok}
use Rattle.plan_format.specs.Writing.{header, four_bytes, body, block_of, blocks_for, seven_at, blocks_to, file_of_bytes}
use Rattle.scan.specs.Parts.{at_part, part-part, part_left, part_right}
use Rattle.plan_format.specs.Written.{length_block, length_seven, length_blocks, length_whole}

-- ---- bytes

total_le : (l : List ℕ) → AllBytes l → total l ≤ 255 * length l
total_le [] b = omega arith
total_le (x ∷ l) b = let h = b.below 0 (omega arith) in let t = total_le l (record { below = λ i k. b.below (suc i) (omega arith) }) in omega arith

total_append : (x y : List ℕ) → total (x ++ y) ≡ total x + total y
total_append [] y = omega arith
total_append (a ∷ x) y = omega (arith, total_append x y)

total-zeros : (n : ℕ) → total (replicate n 0) ≡ 0
total-zeros zero = refl
total-zeros (suc n) = omega (arith, total-zeros n)

zeros-zeros : (n : ℕ) → zeros (replicate n 0) ≡ true
zeros-zeros zero = refl
zeros-zeros (suc n) = zeros-zeros n

pub two : (x : ℕ) → x < 65536 → x % 256 + 256 * (x / 256 % 256) ≡ x
two x h = omega arith

at_tail : (p l : List ℕ) (a i : ℕ) → length p ≡ a → get_or (p ++ l) (a + i) 0 ≡ get_or l i 0
at_tail p l a i h = ap (λ (n : ℕ). get_or (p ++ l) (n + i) 0) (sym h) ∙ get_or-append-add p l i 0

-- ---- one block

module _ (n k : ℕ) (rs : List ℕ) (lr : length rs ≤ 448) where
  tail : List ℕ
  tail = replicate (500 - length rs) 0

  length-body : length (body n k rs) ≡ 508
  unfolding body
  length-body =
      let b = length-append (header k n (length rs / 64) ++ rs) (replicate (500 - length rs) 0) in
      let c = length-append (header k n (length rs / 64)) rs in
      let d = length-replicate {A = ℕ} (500 - length rs) 0 in
      omega arith

  total_body : AllBytes rs → total (body n k rs) < 4294967296
  unfolding body
  total_body h =
      let a = total_append (header k n (length rs / 64) ++ rs) (replicate (500 - length rs) 0) in
      let b = total_append (header k n (length rs / 64)) rs in
      let z = total-zeros (500 - length rs) in
      let t = total_le rs h in
      let e : total (header k n (length rs / 64)) ≤ 2048 = omega arith in
      omega arith

  pub block_sum : AllBytes rs → sum_ok (block_of n k rs) ≡ true
  unfolding block_of
  block_sum h =
      let x : ℕ = total (body n k rs) in
      let p : List ℕ = body n k rs in
      let e : total (take 508 (p ++ four_bytes x)) ≡ x = ap total (take_at p (four_bytes x) 508 length-body) in
      let a = at_tail p (four_bytes x) 508 0 length-body in
      let b = at_tail p (four_bytes x) 508 1 length-body in
      let c = at_tail p (four_bytes x) 508 2 length-body in
      let d = at_tail p (four_bytes x) 508 3 length-body in
      let f = four_again x (total_body h) in
      eq-eqb (total (take 508 (p ++ four_bytes x))) (le32 (p ++ four_bytes x) 508) (omega arith)

  -- the records of the block
  pub block_record : (j : ℕ) → j + 64 ≤ length rs → part (8 + j) 64 (block_of n k rs) ≡ part j 64 rs
  unfolding block_of body
  block_record j h =
      let hd : List ℕ = header k n (length rs / 64) in
      let x : List ℕ = (hd ++ rs) ++ replicate (500 - length rs) 0 in
      let z = length-append (hd ++ rs) (replicate (500 - length rs) 0) in let y = length-append hd rs in
      part_left (8 + j) 64 x (four_bytes (total x)) (omega arith)
      ∙ part_left (8 + j) 64 (hd ++ rs) (replicate (500 - length rs) 0) (omega arith)
      ∙ part_right j 64 hd rs

  pub block-header : k < 65536 → n < 65536 → 64 * (length rs / 64) ≡ length rs → count_ok (eqb (k + 1) n) (length rs / 64) ≡ true
      → header_ok n k (block_of n k rs) ≡ true
  unfolding block_of body
  block-header hk hn m c =
      let hd : List ℕ = header k n (length rs / 64) in
      let w : List ℕ = replicate (500 - length rs) 0 in
      let x : List ℕ = (hd ++ rs) ++ w in
      let z = length-append (hd ++ rs) w in let y = length-append hd rs in let d = length-replicate {A = ℕ} (500 - length rs) 0 in
      let q : 8 + 64 * (length rs / 64) ≡ length (hd ++ rs) + 0 = omega arith in
      let g : 508 - (8 + 64 * (length rs / 64)) ≡ 500 - length rs = omega arith in
      let pad : zeros (part (8 + 64 * (length rs / 64)) (508 - (8 + 64 * (length rs / 64))) (x ++ four_bytes (total x))) ≡ true =
      (ap₂ (λ (a b : ℕ). zeros (part a b (x ++ four_bytes (total x)))) q g
      ∙ ap zeros (part_left (length (hd ++ rs) + 0) (500 - length rs) x (four_bytes (total x)) (omega arith) ∙ part_right 0 (500 - length rs) (hd ++ rs) w
      ∙ take_all (500 - length rs) w (omega arith))
      ∙ zeros-zeros (500 - length rs)) in
      ap₂ ◌&&◌ (ap₂ ◌&&◌ (ap₂ ◌&&◌ (eq-eqb _ k (two k hk)) (eq-eqb _ n (two n hn))) c) pad

-- ---- the whole file

blocks_at : (n : ℕ) (rs : List ℕ) (N k : ℕ) → k < N → block (blocks_to n rs N) k ≡ block_of n k (seven_at rs k)
unfolding blocks_to
blocks_at n rs zero k h = absurd (omega arith)
blocks_at n rs (suc N) k h = go (dec_lt k N) (blocks_at n rs N k)
  where
    go : Dec (k < N) → (k < N → block (blocks_to n rs N) k ≡ block_of n k (seven_at rs k)) → block (blocks_to n rs N ++ block_of n N (seven_at rs N)) k
        ≡ block_of n k (seven_at rs k)
    go (yes l) ih = part_left (k * 512) 512 (blocks_to n rs N) (block_of n N (seven_at rs N)) (let a = length_blocks n rs N in omega arith) ∙ ih l
    go (no l) ih =
        let e : k ≡ N = omega arith in
        let a = length_blocks n rs N in
        let b = length_block n N (seven_at rs N) (length_seven rs N) in
        let q : N * 512 ≡ length (blocks_to n rs N) + 0 = omega arith in
        rw e (ap (λ (x : ℕ). part x 512 (blocks_to n rs N ++ block_of n N (seven_at rs N))) q ∙ part_right 0 512 (blocks_to n rs N) (block_of n N (seven_at rs N))
        ∙ take_all 512 (block_of n N (seven_at rs N)) (omega arith))

fifth : (n k : ℕ) (rs : List ℕ) → get_or (block_of n k rs) 4 0 ≡ length rs / 64
unfolding block_of body
fifth n k rs = refl

-- rs: m whole records
module _ (rs : List ℕ) (m : ℕ) (lm : length rs ≡ 64 * m) where
  pub length_file : length (file_of_bytes rs) ≡ blocks_for (length rs) * 512
  length_file = length_whole rs

  pub file_blocks : block_count (file_of_bytes rs) ≡ blocks_for (length rs)
  file_blocks = let h = length_file in omega arith

  pub file_block : (k : ℕ) → k < blocks_for (length rs) → block (file_of_bytes rs) k ≡ block_of (blocks_for (length rs)) k (seven_at rs k)
  unfolding file_of_bytes
  file_block k h = blocks_at (blocks_for (length rs)) rs (blocks_for (length rs)) k h

  -- the records come back
  pub file_record : (i : ℕ) → i < m → record_at (file_of_bytes rs) i ≡ part (i * 64) 64 rs
  file_record i h =
      let k : ℕ = i / 7 in
      let j : ℕ = i % 7 in
      let s : List ℕ = file_of_bytes rs in
      let lk : k < blocks_for (length rs) = omega arith in
      let lh : length (seven_at rs k) ≤ 448 = length_seven rs k in
      let l₁ = length-take 448 (drop (k * 448) rs) in
      let l₂ = length-drop (k * 448) rs in
      let fit : 64 * j + 64 ≤ length (seven_at rs k) = omega arith in
      let p : record_start i ≡ k * 512 + (8 + 64 * j) = omega arith in
      let q : k * 448 + 64 * j ≡ i * 64 = omega arith in
      ap (λ (x : ℕ). part x 64 s) p ∙ sym (part-part (8 + 64 * j) 64 (k * 512) 512 s (omega arith))
      ∙ ap (part (8 + 64 * j) 64) (file_block k lk)
      ∙ block_record (blocks_for (length rs)) k (seven_at rs k) lh (64 * j) fit
      ∙ part-part (64 * j) 64 (k * 448) 448 rs (omega arith)
      ∙ ap (λ (x : ℕ). part x 64 rs) q

  -- the records of block k: seven, or what is left
  seven_length : (k : ℕ) → k < blocks_for (length rs) → (64 * (length (seven_at rs k) / 64) ≡ length (seven_at rs k)) × (1 ≤ length (seven_at rs k) / 64)
      × (length (seven_at rs k) / 64 ≤ 7) × (k + 1 < blocks_for (length rs) → length (seven_at rs k) / 64 ≡ 7)
      × (k + 1 ≡ blocks_for (length rs) → 7 * k + length (seven_at rs k) / 64 ≡ m)
  seven_length k h =
      let l₁ = length-take 448 (drop (k * 448) rs) in
      let l₂ = length-drop (k * 448) rs in
      let c : ℕ = m - 7 * k in
      let e : length (seven_at rs k) ≡ min 448 (64 * c) = omega arith in
      (omega arith, omega arith, omega arith, λ x. omega arith, λ x. omega arith)

  pub file_headers : m ≤ 126 → headers_ok (file_of_bytes rs) ≡ true
  unfolding headers_ok
  file_headers hm =
      let n : ℕ = blocks_for (length rs) in
      ap₂ (λ (a b : ℕ). all_below (λ k. header_ok a k (block (file_of_bytes rs) k)) b) file_blocks file_blocks
      ∙ all_intro (λ k. header_ok n k (block (file_of_bytes rs) k)) n (λ k h. ap (header_ok n k) (file_block k h) ∙ one k h)
    where
      counted : (k : ℕ) → k < blocks_for (length rs) → (b : Bool) → eqb (k + 1) (blocks_for (length rs)) ≡ b → count_ok b (length (seven_at rs k) / 64) ≡ true
      counted k h true e =
          let l = seven_length k h in
          ap₂ (λ (a b : Bool). (a && b) || false) (le-leb 1 (length (seven_at rs k) / 64) l.1) (le-leb (length (seven_at rs k) / 64) 7 l.2)
      counted k h false e =
          let f = eqb-false (k + 1) (blocks_for (length rs)) e in
          eq-eqb (length (seven_at rs k) / 64) 7 ((seven_length k h).3 (omega arith))

      one : (k : ℕ) → k < blocks_for (length rs) → header_ok (blocks_for (length rs)) k (block_of (blocks_for (length rs)) k (seven_at rs k)) ≡ true
      one k h = block-header (blocks_for (length rs)) k (seven_at rs k) (length_seven rs k) (omega arith) (omega arith) (seven_length k h).0
          (counted k h (eqb (k + 1) (blocks_for (length rs))) refl)

  pub file_sums : AllBytes rs → sums_ok (file_of_bytes rs) ≡ true
  unfolding sums_ok
  file_sums b =
      let n : ℕ = blocks_for (length rs) in
      ap (λ (x : ℕ). all_below (λ k. sum_ok (block (file_of_bytes rs) k)) x) file_blocks
      ∙ all_intro (λ k. sum_ok (block (file_of_bytes rs) k)) n (λ k h. ap sum_ok (file_block k h) ∙ block_sum n k (seven_at rs k) (length_seven rs k) (few k))
    where
      few : (k : ℕ) → AllBytes (seven_at rs k)
      few k = record {
        below = λ i h. (let a = length-take 448 (drop (k * 448) rs) in let d = length-drop (k * 448) rs in
            let e = at_part rs (k * 448) 448 i (omega arith) in let f = b.below (k * 448 + i) (omega arith) in omega arith);
      }

  pub file_length : 1 ≤ m → m ≤ 126 → length_ok (length (file_of_bytes rs)) ≡ true
  file_length h k =
      let l = length_file in
      let z : length (file_of_bytes rs) % 512 ≡ 0 = omega arith in
      ap₂ ◌&&◌ (ap₂ ◌&&◌ (le-leb 1 (length (file_of_bytes rs)) (omega arith)) (le-leb (length (file_of_bytes rs)) 9216 (omega arith)))
      (eq-eqb (length (file_of_bytes rs) % 512) 0 z)

  pub file_count : 1 ≤ m → record_count (file_of_bytes rs) ≡ m
  file_count h =
      let n : ℕ = blocks_for (length rs) in
      let e : get_or (block_of n (n - 1) (seven_at rs (n - 1))) 4 0 ≡ length (seven_at rs (n - 1)) / 64 = fifth n (n - 1) (seven_at rs (n - 1)) in
      let l = seven_length (n - 1) (omega arith) in
      let q : 7 * (n - 1) + length (seven_at rs (n - 1)) / 64 ≡ m = l.4 (omega arith) in
      ap (λ (x : ℕ). 7 * (x - 1) + get_or (block (file_of_bytes rs) (x - 1)) 4 0) file_blocks
      ∙ ap (λ (b : List ℕ). 7 * (n - 1) + get_or b 4 0) (file_block (n - 1) (omega arith)) ∙ ap (λ (x : ℕ). 7 * (n - 1) + x) e ∙ q
