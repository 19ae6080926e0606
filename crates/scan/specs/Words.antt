-- Bytes as one number: put together by shifts, tested by masks and shifts. Assumes nothing.
use Rattle.std.specs.Prelude.{◌≡◌, refl, Bool, true, false, ◌&&◌, List, [], ◌∷◌, ℕ, zero, suc, ◌+◌, ◌*◌, ◌/◌, ◌%◌, ◌^◌, ◌≤◌, ◌<◌, eqb, length, get_or, take, drop}
use Rattle.std.proofs.Common.{sym, ap, ◌∙◌, arith, mul_comm, add_comm, pow_pos, pow_mono, shl_exact, shr-shr, drop-cons, eqb-true, eq-eqb, ne_eqb}
use Rattle.std.proofs.Math.Nat.{div-eq_of_lt}
use Rattle.std.proofs.Math.Pow.{high}
use Rattle.std.specs.Int.Bits.{bit_and, bit_or, or_shifted_r, and_zero_l, and_zero_r}
use Rattle.std.proofs.lemmas.Nat.{and_block}
use Rattle.std.proofs.lemmas.Bool.{eqb-false}
use Rattle.scan.specs.Bytes.{part, zeros, le32}

-- the number that some bytes hold, the first lowest
abbrev pub value : List ℕ → ℕ
value [] = 0
value (x ∷ l) = value l * 256 + x

-- ---- or

-- b, j bits wide, shifted above the k bits of x, in a number of w bits: an or adds
pub or_above : (j k w x b : ℕ) → x < 2 ^ k → b < 2 ^ j → j + k ≤ w → bit_or x (b * 2 ^ k % 2 ^ w) ≡ x + 2 ^ k * b
or_above j k w x b h l f = ap (bit_or x) (shl_exact j k w l f) ∙ or_shifted_r b k x h ∙ add_comm (b * 2 ^ k) x ∙ ap (λ n. x + n) (mul_comm b (2 ^ k))

pub four_bytes : (a b c d : ℕ) → a < 256 → b < 256 → c < 256 → d < 256
    → bit_or (bit_or (bit_or a (b * 256 % 4294967296)) (c * 65536 % 4294967296)) (d * 16777216 % 4294967296) ≡ a + 256 * b + 65536 * c + 16777216 * d
four_bytes a b c d p q r s =
    ap (λ n. bit_or (bit_or n (c * 65536 % 4294967296)) (d * 16777216 % 4294967296)) (or_above 8 8 32 a b p q (omega arith))
    ∙ ap (λ n. bit_or n (d * 16777216 % 4294967296)) (or_above 8 16 32 (a + 256 * b) c (omega arith) r (omega arith))
    ∙ or_above 8 24 32 (a + 256 * b + 65536 * c) d (omega arith) s (omega arith)

digit : (x : ℕ) → x % 256 + 256 * (x / 256) ≡ x
digit x = omega arith

-- over variables: with `/` and `%` in sight omega looks for whole numbers and gives up
join : (x p q t a b c d : ℕ) → a + 256 * p ≡ x → b + 256 * q ≡ p → c + 256 * t ≡ q → d ≡ t → a + 256 * b + 65536 * c + 16777216 * d ≡ x
join x p q t a b c d h₁ h₂ h₃ h₄ = omega arith

-- the four bytes of a number are the number again
pub four_again : (x : ℕ) → x < 4294967296 → x % 256 + 256 * (x / 256 % 256) + 65536 * (x / 65536 % 256) + 16777216 * (x / 16777216 % 256) ≡ x
four_again x h =
    join x (x / 256) (x / 65536) (x / 16777216) (x % 256) (x / 256 % 256) (x / 65536 % 256) (x / 16777216 % 256) (digit x)
    (ap (λ (n : ℕ). x / 256 % 256 + 256 * n) (sym (shr-shr x 8 8)) ∙ digit (x / 256))
    (ap (λ (n : ℕ). x / 65536 % 256 + 256 * n) (sym (shr-shr x 16 8)) ∙ digit (x / 65536))
    (omega arith)

-- the value of a part, by its first byte and the rest
module _ (s : List ℕ) (a : ℕ) where
  value-part : (i n : ℕ) → a + i < length s → value (part (a + i) (suc n) s) ≡ value (part (a + suc i) n s) * 256 + get_or s (a + i) 0
  value-part i n h =
      let e : suc (a + i) ≡ a + suc i = omega arith in
      ap (λ l. value (take (suc n) l)) (drop-cons s (a + i) 0 h) ∙ ap (λ (k : ℕ). value (part k n s) * 256 + get_or s (a + i) 0) e

  pub eight_bytes : a + 8 ≤ length s → le32 s a + 4294967296 * le32 s (a + 4) ≡ value (part a 8 s)
  eight_bytes h =
      let z : value (part (a + 0) 8 s) ≡ value (part a 8 s) = ap (λ (k : ℕ). value (part k 8 s)) (let q : a + 0 ≡ a = omega arith in q) in
      let b0 : get_or s (a + 0) 0 ≡ get_or s a 0 = ap (λ (k : ℕ). get_or s k 0) (let q : a + 0 ≡ a = omega arith in q) in
      let b5 : get_or s (a + 4 + 1) 0 ≡ get_or s (a + 5) 0 = ap (λ (k : ℕ). get_or s k 0) (let q : a + 4 + 1 ≡ a + 5 = omega arith in q) in
      let b6 : get_or s (a + 4 + 2) 0 ≡ get_or s (a + 6) 0 = ap (λ (k : ℕ). get_or s k 0) (let q : a + 4 + 2 ≡ a + 6 = omega arith in q) in
      let b7 : get_or s (a + 4 + 3) 0 ≡ get_or s (a + 7) 0 = ap (λ (k : ℕ). get_or s k 0) (let q : a + 4 + 3 ≡ a + 7 = omega arith in q) in
      let v0 = value-part 0 7 (omega arith) in
      let v1 = value-part 1 6 (omega arith) in
      let v2 = value-part 2 5 (omega arith) in
      let v3 = value-part 3 4 (omega arith) in
      let v4 = value-part 4 3 (omega arith) in
      let v5 = value-part 5 2 (omega arith) in
      let v6 = value-part 6 1 (omega arith) in
      let v7 = value-part 7 0 (omega arith) in
      omega arith

-- ---- zeros

sum_zero : (v x : ℕ) → eqb (v * 256 + x) 0 ≡ eqb x 0 && eqb v 0
sum_zero v x = go (eqb x 0) (eqb v 0) refl refl
  where
    go : (a b : Bool) → eqb x 0 ≡ a → eqb v 0 ≡ b → eqb (v * 256 + x) 0 ≡ a && b
    go true true p q = eq-eqb (v * 256 + x) 0 (let y = eqb-true x 0 p in let z = eqb-true v 0 q in omega arith)
    go true false p q = ne_eqb (v * 256 + x) 0 (λ e. eqb-false v 0 q (omega arith))
    go false b p q = ne_eqb (v * 256 + x) 0 (λ e. eqb-false x 0 p (omega arith))

pub value-zero : (l : List ℕ) → eqb (value l) 0 ≡ zeros l
value-zero [] = refl
value-zero (x ∷ l) = sum_zero (value l) x ∙ ap (λ b. eqb x 0 && b) (value-zero l)

-- ---- numbers below 256

abbrev pub Small : List ℕ → Type 0
Small l = (i : ℕ) → get_or l i 0 < 256

pub small_part : (s : List ℕ) (a n : ℕ) → Small s → Small (part a n s)
small_part s a n h = taken (drop a s) n (dropped s a h)
  where
    dropped : (l : List ℕ) (a : ℕ) → Small l → Small (drop a l)
    dropped l zero h = h
    dropped [] (suc a) h = h
    dropped (x ∷ l) (suc a) h = dropped l a (λ i. h (suc i))

    taken : (l : List ℕ) (n : ℕ) → Small l → Small (take n l)
    taken l zero h i = omega arith
    taken [] (suc n) h i = h i
    taken (x ∷ l) (suc n) h zero = h zero
    taken (x ∷ l) (suc n) h (suc i) = taken l n (λ j. h (suc j)) i

-- a shift drops the lowest bytes
pub value-drop : (l : List ℕ) (u : ℕ) → Small l → value l / 2 ^ (8 * u) ≡ value (drop u l)
value-drop l zero h = omega arith
value-drop [] (suc u) h = div-eq_of_lt (pow_pos (8 * suc u))
value-drop (x ∷ l) (suc u) h =
    let e : 8 * suc u ≡ 8 + 8 * u = omega arith in
    rw e (sym (shr-shr (value l * 256 + x) 8 (8 * u)) ∙ ap (λ n. n / 2 ^ (8 * u)) (high (value l) 8 (h zero)) ∙ value-drop l u (λ i. h (suc i)))

-- a shift by all bits leaves nothing
pub shifted_out : (x k j : ℕ) → x < 2 ^ k → k ≤ j → x / 2 ^ j ≡ 0
shifted_out x k j h l = let p : 2 ^ k ≤ 2 ^ j = pow_mono l in div-eq_of_lt (omega arith)

-- ---- a mask of bytes

-- no byte has a bit of the byte of ms at its place
abbrev pub clear : List ℕ → List ℕ → Bool
clear [] ms = true
clear (x ∷ l) [] = true
clear (x ∷ l) (m ∷ ms) = eqb (bit_and x m) 0 && clear l ms

pub value_mask : (l ms : List ℕ) → Small l → Small ms → eqb (bit_and (value l) (value ms)) 0 ≡ clear l ms
value_mask [] ms h k = ap (λ n. eqb n 0) (and_zero_l (value ms))
value_mask (x ∷ l) [] h k = ap (λ n. eqb n 0) (and_zero_r (value l * 256 + x))
value_mask (x ∷ l) (m ∷ ms) h k =
    ap (λ n. eqb n 0) (and_block 8 (value l) (value ms) x m (h zero) (k zero))
    ∙ sum_zero (bit_and (value l) (value ms)) (bit_and x m)
    ∙ ap (λ b. eqb (bit_and x m) 0 && b) (value_mask l ms (λ i. h (suc i)) (λ i. k (suc i)))

-- zeros are clear of every mask
pub zeros-clear : (l ms : List ℕ) → zeros l ≡ clear l ms && zeros l
zeros-clear [] ms = refl
zeros-clear (x ∷ l) [] = refl
zeros-clear (x ∷ l) (m ∷ ms) = go (eqb x 0) refl (zeros-clear l ms)
  where
    stop : (a : Bool) → false ≡ a && false
    stop true = refl
    stop false = refl

    go : (b : Bool) → eqb x 0 ≡ b → zeros l ≡ clear l ms && zeros l → b && zeros l ≡ (eqb (bit_and x m) 0 && clear l ms) && (b && zeros l)
    go true e h = h ∙ ap (λ t. (t && clear l ms) && zeros l) (sym (ap (λ n. eqb (bit_and n m) 0) (eqb-true x 0 e) ∙ ap (λ n. eqb n 0) (and_zero_l m)))
    go false e h = stop (eqb (bit_and x m) 0 && clear l ms)
