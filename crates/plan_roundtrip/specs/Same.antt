-- An accepted file is the file that the writer writes of its records: block by block.
use Rattle.std.specs.Prelude.{◌≡◌, Bool, true, false, ◌&&◌, leb, eqb, drop, replicate}
use Rattle.std.proofs.Math.Path.{refl, sym, ap, ap₂}
use Rattle.std.proofs.Common.{◌∙◌, shr-shr, length-drop, take-append-drop, take-add, get_or-drop, leb-true, eqb-true}
use mathlib.Core.List.{List, [], ◌∷◌, ◌++◌}
use Prim.Native.Nat.{ℕ, zero, suc, ◌+◌, ◌*◌, ◌-◌, ◌/◌, ◌%◌, ◌≤◌, ◌<◌}
use native.Mathlib.Omega.{arith}
use Rattle.std.proofs.Math.Decide.{dec_lt}
use Rattle.std.proofs.Math.Arith.{digits_div, digits_mod}
use Rattle.std.proofs.Math.ListN.{length, get_or, take, length-append}
use Rattle.std.proofs.Math.Seq.{take_all}
use Rattle.scan.specs.Below.{all_at, and_left, and_right, or_false}
use Rattle.scan.specs.Bytes.{part, total, zeros, le16, le32, AllBytes}
use Rattle.scan.specs.ByteLaws.{length_part}
use Rattle.plan_format.specs.Blocks.{length_ok, block_count, block, sum_ok, count_ok, padding_ok, header_ok}
use Rattle.plan_format.specs.Reading.{sums_ok, headers_ok}
use Rattle.plan_format.specs.Writing.{header, four_bytes, body, block_of, blocks_for, seven_at, blocks_to, file_of_bytes}
use Rattle.plan_format.specs.Passed.{count_small}
use Rattle.scan.specs.Parts.{at_part, part_left, part_right}

-- lists by their elements
eight : (b : List ℕ) → 8 ≤ length b → take 8 b ≡ get_or b 0 0 ∷ get_or b 1 0 ∷ get_or b 2 0 ∷ get_or b 3 0 ∷ get_or b 4 0 ∷ get_or b 5 0 ∷ get_or b 6 0 ∷ get_or b 7 0 ∷ []
eight [] h = absurd (omega arith)
eight (x₀ ∷ []) h = absurd (omega arith)
eight (x₀ ∷ x₁ ∷ []) h = absurd (omega arith)
eight (x₀ ∷ x₁ ∷ x₂ ∷ []) h = absurd (omega arith)
eight (x₀ ∷ x₁ ∷ x₂ ∷ x₃ ∷ []) h = absurd (omega arith)
eight (x₀ ∷ x₁ ∷ x₂ ∷ x₃ ∷ x₄ ∷ []) h = absurd (omega arith)
eight (x₀ ∷ x₁ ∷ x₂ ∷ x₃ ∷ x₄ ∷ x₅ ∷ []) h = absurd (omega arith)
eight (x₀ ∷ x₁ ∷ x₂ ∷ x₃ ∷ x₄ ∷ x₅ ∷ x₆ ∷ []) h = absurd (omega arith)
eight (x₀ ∷ x₁ ∷ x₂ ∷ x₃ ∷ x₄ ∷ x₅ ∷ x₆ ∷ x₇ ∷ l) h = refl

quad : (l : List ℕ) → length l ≡ 4 → l ≡ get_or l 0 0 ∷ get_or l 1 0 ∷ get_or l 2 0 ∷ get_or l 3 0 ∷ []
quad [] h = absurd (omega arith)
quad (x₀ ∷ []) h = absurd (omega arith)
quad (x₀ ∷ x₁ ∷ []) h = absurd (omega arith)
quad (x₀ ∷ x₁ ∷ x₂ ∷ []) h = absurd (omega arith)
quad (x₀ ∷ x₁ ∷ x₂ ∷ x₃ ∷ []) h = refl
quad (x₀ ∷ x₁ ∷ x₂ ∷ x₃ ∷ x₄ ∷ l) h = absurd (omega arith)

zeros_are : (l : List ℕ) → zeros l ≡ true → l ≡ replicate (length l) 0
zeros_are [] e = refl
zeros_are (x ∷ l) e = ap₂ ◌∷◌ (eqb-true x 0 (and_left (eqb x 0) (zeros l) e)) (zeros_are l (and_right (eqb x 0) (zeros l) e))

zeros_at : (l : List ℕ) → zeros l ≡ true → (i : ℕ) → get_or l i 0 ≡ 0
zeros_at [] e i = refl
zeros_at (x ∷ l) e zero = eqb-true x 0 (and_left (eqb x 0) (zeros l) e)
zeros_at (x ∷ l) e (suc i) = zeros_at l (and_right (eqb x 0) (zeros l) e) i

-- the bytes of a number that four bytes make
pub fourth : (a b c d : ℕ) → a < 256 → b < 256 → c < 256 → d < 256 → (x : ℕ) → x ≡ a + 256 * b + 65536 * c + 16777216 * d → four_bytes x ≡ a ∷ b ∷ c ∷ d ∷ []
fourth a b c d ha hb hc hd x e =
    let p : ℕ = (d * 256 + c) * 256 + b in
    let q : ℕ = d * 256 + c in
    let f : x ≡ p * 256 + a = omega arith in
    let x₁ : x / 256 ≡ p = ap (λ (n : ℕ). n / 256) f ∙ digits_div p ha in
    let x₂ : x / 65536 ≡ q = sym (shr-shr x 8 8) ∙ ap (λ (n : ℕ). n / 256) x₁ ∙ digits_div q hb in
    let x₃ : x / 16777216 ≡ d = sym (shr-shr x 16 8) ∙ ap (λ (n : ℕ). n / 256) x₂ ∙ digits_div d hc in
    let y₀ : x % 256 ≡ a = ap (λ (n : ℕ). n % 256) f ∙ digits_mod p ha in
    let y₁ : x / 256 % 256 ≡ b = ap (λ (n : ℕ). n % 256) x₁ ∙ digits_mod q hb in
    let y₂ : x / 65536 % 256 ≡ c = ap (λ (n : ℕ). n % 256) x₂ ∙ digits_mod d hc in
    let z : x / 16777216 % 256 ≡ d = ap (λ (n : ℕ). n % 256) x₃ ∙ (omega arith) in
    λ i. y₀ i ∷ y₁ i ∷ y₂ i ∷ z i ∷ []

second : (a b x : ℕ) → a < 256 → b < 256 → a + 256 * b ≡ x → (a ≡ x % 256) × (b ≡ x / 256 % 256)
second a b x ha hb e = (omega arith, omega arith)

-- one block that passed 2 and 3
pub block_same : (n k : ℕ) (b : List ℕ) → length b ≡ 512 → AllBytes b → header_ok n k b ≡ true → sum_ok b ≡ true → block_of n k (part 8 (64 * get_or b 4 0) b)
    ≡ b
unfolding block_of body
block_same n k b lb h e s =
    let c : ℕ = get_or b 4 0 in
    let rs : List ℕ = part 8 (64 * c) b in
    let t : ((eqb (le16 b 0) k && eqb (le16 b 2) n) && count_ok (eqb (k + 1) n) c) ≡ true =
    and_left ((eqb (le16 b 0) k && eqb (le16 b 2) n) && count_ok (eqb (k + 1) n) c) (padding_ok b) e in
    let pad : padding_ok b ≡ true = and_right ((eqb (le16 b 0) k && eqb (le16 b 2) n) && count_ok (eqb (k + 1) n) c) (padding_ok b) e in
    let nums : (eqb (le16 b 0) k && eqb (le16 b 2) n) ≡ true = and_left (eqb (le16 b 0) k && eqb (le16 b 2) n) (count_ok (eqb (k + 1) n) c) t in
    let hc : c ≤ 7 = count_small (eqb (k + 1) n) c (and_right (eqb (le16 b 0) k && eqb (le16 b 2) n) (count_ok (eqb (k + 1) n) c) t) in
    let ek : le16 b 0 ≡ k = eqb-true (le16 b 0) k (and_left (eqb (le16 b 0) k) (eqb (le16 b 2) n) nums) in
    let en : le16 b 2 ≡ n = eqb-true (le16 b 2) n (and_right (eqb (le16 b 0) k) (eqb (le16 b 2) n) nums) in
    let z₁ : zeros (part 5 3 b) ≡ true = and_left (zeros (part 5 3 b)) (zeros (part (8 + 64 * c) (508 - (8 + 64 * c)) b)) pad in
    let z₂ : zeros (part (8 + 64 * c) (508 - (8 + 64 * c)) b) ≡ true = and_right (zeros (part 5 3 b)) (zeros (part (8 + 64 * c) (508 - (8 + 64 * c)) b))
    pad in
    let lr : length rs ≡ 64 * c = length_part b 8 (64 * c) (omega arith) in
    let lc : length rs / 64 ≡ c = omega arith in
    let by : (i : ℕ) → i < 512 → get_or b i 0 < 256 = λ i q. h.below i (omega arith) in
    let k₂ = second (get_or b 0 0) (get_or b 1 0) k (by 0 (omega arith)) (by 1 (omega arith)) ek in
    let n₂ = second (get_or b 2 0) (get_or b 3 0) n (by 2 (omega arith)) (by 3 (omega arith)) en in
    let w₅ : get_or b 5 0 ≡ 0 = sym (at_part b 5 3 0 (omega arith)) ∙ zeros_at (part 5 3 b) z₁ 0 in
    let w₆ : get_or b 6 0 ≡ 0 = sym (at_part b 5 3 1 (omega arith)) ∙ zeros_at (part 5 3 b) z₁ 1 in
    let w₇ : get_or b 7 0 ≡ 0 = sym (at_part b 5 3 2 (omega arith)) ∙ zeros_at (part 5 3 b) z₁ 2 in
    let hd : take 8 b ≡ header k n (length rs / 64) =
    (eight b (omega arith) ∙ (λ i. k₂.0 i ∷ k₂.1 i ∷ n₂.0 i ∷ n₂.1 i ∷ sym lc i ∷ w₅ i ∷ w₆ i ∷ w₇ i ∷ [])) in
    let lz : length (part (8 + 64 * c) (508 - (8 + 64 * c)) b) ≡ 508 - (8 + 64 * c) = length_part b (8 + 64 * c) (508 - (8 + 64 * c)) (omega arith) in
    let lz₂ : 508 - (8 + 64 * c) ≡ 500 - length rs = omega arith in
    let zs : part (8 + 64 * c) (508 - (8 + 64 * c)) b ≡ replicate (500 - length rs) 0 = zeros_are (part (8 + 64 * c) (508 - (8 + 64 * c)) b) z₂
    ∙ ap (λ (m : ℕ). replicate m 0) (lz ∙ lz₂) in
    let q : 8 + 64 * c + (508 - (8 + 64 * c)) ≡ 508 = omega arith in
    let bd : take 508 b ≡ (header k n (length rs / 64) ++ rs) ++ replicate (500 - length rs) 0 =
    (ap (λ (m : ℕ). take m b) (sym q) ∙ take-add (8 + 64 * c) (508 - (8 + 64 * c)) b ∙ ap₂ ◌++◌ (take-add 8 (64 * c) b ∙ ap (λ (x : List ℕ). x ++ rs) hd)
    zs) in
    let x : ℕ = total (take 508 b) in
    let ex : x ≡ le32 b 508 = eqb-true x (le32 b 508) s in
    let ld : length (drop 508 b) ≡ 4 = (let y = length-drop 508 b in omega arith) in
    let tl : drop 508 b ≡ four_bytes x =
    (quad (drop 508 b) ld
    ∙ (λ i. get_or-drop 508 b 0 0 i ∷ get_or-drop 508 b 1 0 i ∷ get_or-drop 508 b 2 0 i ∷ get_or-drop 508 b 3 0 i ∷ [])
    ∙ sym (fourth (get_or b 508 0) (get_or b 509 0) (get_or b 510 0) (get_or b 511 0) (by 508 (omega arith)) (by 509 (omega arith)) (by 510 (omega arith))
    (by 511 (omega arith)) x ex)) in
    sym (ap₂ ◌++◌ bd (ap four_bytes (ap total bd))) ∙ ap (λ (l : List ℕ). take 508 b ++ l) (sym tl) ∙ take-append-drop 508 b

-- ---- the whole file

-- the record bytes of block k, and of blocks 0 to k - 1
abbrev pub in_block : List ℕ → ℕ → List ℕ
in_block s k = part 8 (64 * get_or (block s k) 4 0) (block s k)

unfoldable pub gather : List ℕ → ℕ → List ℕ
gather s zero = []
gather s (suc k) = gather s k ++ in_block s k

module _ (s : List ℕ) (by : AllBytes s) (len : length_ok (length s) ≡ true) (sums : sums_ok s ≡ true) (heads : headers_ok s ≡ true) where
  pub whole : (length s ≡ block_count s * 512) × (1 ≤ block_count s)
  whole =
      let l : ℕ = length s in
      let a = leb-true 1 l (and_left (leb 1 l) (leb l 9216) (and_left (leb 1 l && leb l 9216) (eqb (l % 512) 0) len)) in
      let d = eqb-true (l % 512) 0 (and_right (leb 1 l && leb l 9216) (eqb (l % 512) 0) len) in
      (omega arith, omega arith)

  head_at : (k : ℕ) → k < block_count s → header_ok (block_count s) k (block s k) ≡ true
  unfolding headers_ok
  head_at k h = all_at (λ k. header_ok (block_count s) k (block s k)) (block_count s) heads k h

  sum_at : (k : ℕ) → k < block_count s → sum_ok (block s k) ≡ true
  unfolding sums_ok
  sum_at k h = all_at (λ k. sum_ok (block s k)) (block_count s) sums k h

  long : (k : ℕ) → k < block_count s → length (block s k) ≡ 512
  long k h = length_part s (k * 512) 512 (let w = whole in let a = w.0 in omega arith)

  bytes_at : (k : ℕ) → k < block_count s → AllBytes (block s k)
  bytes_at k h = record {
    below = λ i q. (let w = whole.0 in let l = long k h in let e = at_part s (k * 512) 512 i (omega arith) in
        let f = by.below (k * 512 + i) (omega arith) in omega arith);
  }

  counted : (k : ℕ) → k < block_count s → count_ok (eqb (k + 1) (block_count s)) (get_or (block s k) 4 0) ≡ true
  counted k h =
      let b : List ℕ = block s k in
      let m : ℕ = block_count s in
      and_right (eqb (le16 b 0) k && eqb (le16 b 2) m) (count_ok (eqb (k + 1) m) (get_or b 4 0))
      (and_left ((eqb (le16 b 0) k && eqb (le16 b 2) m) && count_ok (eqb (k + 1) m) (get_or b 4 0)) (padding_ok b) (head_at k h))

  pub few : (k : ℕ) → k < block_count s → (1 ≤ get_or (block s k) 4 0) × (get_or (block s k) 4 0 ≤ 7) × (k + 1 < block_count s → get_or (block s k) 4 0 ≡ 7)
  few k h = go (eqb (k + 1) (block_count s)) refl (counted k h)
    where
      go : (t : Bool) → eqb (k + 1) (block_count s) ≡ t → count_ok t (get_or (block s k) 4 0) ≡ true → (1 ≤ get_or (block s k) 4 0) × (get_or (block s k) 4 0 ≤ 7)
          × (k + 1 < block_count s → get_or (block s k) 4 0 ≡ 7)
      go true q e =
          let c : ℕ = get_or (block s k) 4 0 in
          let p = sym (or_false (leb 1 c && leb c 7)) ∙ e in
          let l = eqb-true (k + 1) (block_count s) q in
          (leb-true 1 c (and_left (leb 1 c) (leb c 7) p), leb-true c 7 (and_right (leb 1 c) (leb c 7) p), λ x. absurd (omega arith))
      go false q e = let l = eqb-true (get_or (block s k) 4 0) 7 e in (omega arith, omega arith, λ x. l)

  length_in : (k : ℕ) → k < block_count s → length (in_block s k) ≡ 64 * get_or (block s k) 4 0
  length_in k h = let l = long k h in let f = (few k h).1 in length_part (block s k) 8 (64 * get_or (block s k) 4 0) (omega arith)

  length-gather : (k : ℕ) → k < block_count s → length (gather s k) ≡ k * 448
  unfolding gather
  length-gather zero h = refl
  length-gather (suc k) h =
      let a = length-append (gather s k) (in_block s k) in
      let b = length_in k (omega arith) in
      let c = (few k (omega arith)).2 (omega arith) in
      let d = length-gather k (omega arith) in
      omega arith

  gather_at : (N k : ℕ) → N ≤ block_count s → k < N → seven_at (gather s N) k ≡ in_block s k
  unfolding gather
  gather_at zero k l h = absurd (omega arith)
  gather_at (suc N) k l h = go (dec_lt k N) (λ q. gather_at N k (omega arith) q)
    where
      go : Dec (k < N) → (k < N → seven_at (gather s N) k ≡ in_block s k) → seven_at (gather s N ++ in_block s N) k ≡ in_block s k
      go (yes q) ih = part_left (k * 448) 448 (gather s N) (in_block s N) (let a = length-gather N (omega arith) in omega arith) ∙ ih q
      go (no q) ih =
          let e : k ≡ N = omega arith in
          let a = length-gather N (omega arith) in
          let b = length_in N (omega arith) in
          let f = (few N (omega arith)).1 in
          let p : N * 448 ≡ length (gather s N) + 0 = omega arith in
          rw e (ap (λ (x : ℕ). part x 448 (gather s N ++ in_block s N)) p ∙ part_right 0 448 (gather s N) (in_block s N) ∙ take_all 448 (in_block s N)
          (omega arith))

  blocks_same : (k : ℕ) → k ≤ block_count s → blocks_to (block_count s) (gather s (block_count s)) k ≡ take (k * 512) s
  unfolding blocks_to
  blocks_same zero h = refl
  blocks_same (suc k) h =
      let m : ℕ = block_count s in
      let g : suc k * 512 ≡ k * 512 + 512 = omega arith in
      let e : block_of m k (seven_at (gather s m) k) ≡ block s k = ap (block_of m k) (gather_at m k (omega arith) (omega arith)) ∙ block_same m k (block s k)
      (long k (omega arith)) (bytes_at k (omega arith)) (head_at k (omega arith)) (sum_at k (omega arith)) in
      ap₂ ◌++◌ (blocks_same k (omega arith)) e ∙ sym (take-add (k * 512) 512 s) ∙ ap (λ (x : ℕ). take x s) (sym g)

  all_records : blocks_for (length (gather s (block_count s))) ≡ block_count s
  unfolding gather
  all_records = go (block_count s - 1) (let w = whole.1 in omega arith)
    where
      go : (j : ℕ) → block_count s ≡ suc j → blocks_for (length (gather s (block_count s))) ≡ block_count s
      go j e =
          let a = length-append (gather s j) (in_block s j) in
          let b = length-gather j (omega arith) in
          let c = length_in j (omega arith) in
          let f = few j (omega arith) in
          let f₀ = f.0 in let f₁ = f.1 in
          let q : length (gather s (suc j)) ≡ j * 448 + 64 * get_or (block s j) 4 0 = omega arith in
          ap (λ (x : ℕ). blocks_for (length (gather s x))) e ∙ (let r : blocks_for (length (gather s (suc j))) ≡ suc j = omega arith in r) ∙ sym e

  -- writing what was accepted gives the same bytes
  pub same_bytes : file_of_bytes (gather s (block_count s)) ≡ s
  unfolding file_of_bytes
  same_bytes =
      ap (λ (x : ℕ). blocks_to x (gather s (block_count s)) x) all_records ∙ blocks_same (block_count s) (omega arith) ∙ take_all (block_count s * 512) s
      (let w = whole.0 in omega arith)
