-- The laws of single bits: what a mask, a shift and an or do to one column. Assumes nothing.
use Rattle.std.specs.Prelude.{◌≡◌, refl, Bool, true, false, ◌&&◌, ◌||◌, ℕ, zero, suc, ◌+◌, ◌-◌, ◌*◌, ◌/◌, ◌%◌, ◌^◌, ◌≤◌, ◌<◌, eqb, ltb, leb}
use Rattle.std.proofs.Common.{ap, sym, ◌∙◌, arith, mul_assoc, pow_pos, pow_mono, pow-add, shl_exact, shr-shr, eqb-true, ltb-true, ltb-false, leb-true, leb-false}
use Rattle.std.proofs.Math.Nat.{div-eq_of_lt, mul-mod_left}
use Rattle.std.proofs.Math.Pow.{pow-lt, field, mod-mod-pow}
use Rattle.std.proofs.lemmas.Nat.{shl-shr, and_mask, or_shr, or_mod}
use Rattle.std.specs.Int.Bits.{bit_and, bit_or}
use Rattle.std.proofs.lemmas.Bool.{eqb-false, lt-leb}
use Rattle.row_order.specs.Packed.{bit}

-- the code's mask and shift
pub masked : (s c : ℕ) → eqb (bit_and (s / 2 ^ c) 1) 1 ≡ bit s c
masked s c = ap (λ n. eqb n 1) (and_mask (s / 2 ^ c) 1)

pub past : (s c w : ℕ) → s < 2 ^ w → w ≤ c → bit s c ≡ false
past s c w h l =
    let p : 2 ^ w ≤ 2 ^ c = pow_mono l in
    let z : s < 2 ^ c = omega arith in
    rw (div-eq_of_lt z)

pub bit_none : (d : ℕ) → bit 0 d ≡ false
bit_none d = rw (div-eq_of_lt (pow_pos d))

pub one_shifted : (c : ℕ) → c < 32 → 1 * 2 ^ c % 2 ^ 32 ≡ 2 ^ c
one_shifted c h = shl_exact 1 c 32 (omega arith) (omega arith) ∙ omega arith

-- ---- or

bits : (x y : ℕ) → x < 2 → y < 2 → eqb (bit_or x y) 1 ≡ eqb x 1 || eqb y 1
bits zero zero p q = refl
bits zero (suc zero) p q = refl
bits (suc zero) zero p q = refl
bits (suc zero) (suc zero) p q = refl
bits zero (suc (suc y)) p q = absurd (omega arith)
bits (suc zero) (suc (suc y)) p q = absurd (omega arith)
bits (suc (suc x)) y p q = absurd (omega arith)

pub bit-bit_or : (a b d : ℕ) → bit (bit_or a b) d ≡ bit a d || bit b d
bit-bit_or a b d =
    rw (or_shr a b d, or_mod (a / 2 ^ d) (b / 2 ^ d) 1) (bits (a / 2 ^ d % 2) (b / 2 ^ d % 2) (omega arith) (omega arith))

-- ---- a shift up by w, cut at 32 bits

bit_cut : (n c : ℕ) → c < 32 → bit (n % 2 ^ 32) c ≡ bit n c
bit_cut n c h =
    let j : ℕ = 31 - c in
    let e : n % 2 ^ 32 / 2 ^ c ≡ n / 2 ^ c % 2 ^ (j + 1) = ap (λ k. n % 2 ^ k / 2 ^ c) (let z : 32 ≡ j + 1 + c = omega arith in z) ∙ field n (j + 1) c in
    let f : n / 2 ^ c % 2 ^ (j + 1) % 2 ≡ n / 2 ^ c % 2 = mod-mod-pow (n / 2 ^ c) j 1 in
    rw (e, f)

bit_above : (b w c : ℕ) → w ≤ c → bit (b * 2 ^ w) c ≡ bit b (c - w)
bit_above b w c h =
    let e : b * 2 ^ w / 2 ^ c ≡ b / 2 ^ (c - w) = ap (λ k. b * 2 ^ w / 2 ^ k) (let z : c ≡ w + (c - w) = omega arith in z)
    ∙ sym (shr-shr (b * 2 ^ w) w (c - w)) ∙ ap (λ x. x / 2 ^ (c - w)) (shl-shr b w) in
    rw e

bit_under : (b w c : ℕ) → c < w → bit (b * 2 ^ w) c ≡ false
bit_under b w c h =
    let k : ℕ = w - c - 1 in
    let e : 2 ^ w ≡ 2 ^ k * 2 * 2 ^ c = ap (λ n. 2 ^ n) (let z : w ≡ k + 1 + c = omega arith in z) ∙ pow-add 2 (k + 1) c
    ∙ ap (λ x. x * 2 ^ c) (pow-add 2 k 1) in
    let f : b * 2 ^ w ≡ b * 2 ^ k * 2 * 2 ^ c = ap (λ x. b * x) e ∙ sym (mul_assoc b (2 ^ k * 2) (2 ^ c))
    ∙ ap (λ x. x * 2 ^ c) (sym (mul_assoc b (2 ^ k) 2)) in
    rw (f, shl-shr (b * 2 ^ k * 2) c, mul-mod_left (b * 2 ^ k) 2)

pub bit_shifted : (b w c : ℕ) → bit (b * 2 ^ w) c ≡ leb w c && bit b (c - w)
bit_shifted b w c = go (leb w c) refl
  where
    go : (x : Bool) → leb w c ≡ x → bit (b * 2 ^ w) c ≡ x && bit b (c - w)
    go true e = bit_above b w c (leb-true w c e)
    go false e = bit_under b w c (leb-false w c e)

pub bit_moved : (b w c : ℕ) → bit (b * 2 ^ w % 2 ^ 32) c ≡ ltb c 32 && (leb w c && bit b (c - w))
bit_moved b w c = go (ltb c 32) refl
  where
    go : (x : Bool) → ltb c 32 ≡ x → bit (b * 2 ^ w % 2 ^ 32) c ≡ x && (leb w c && bit b (c - w))
    go true e = bit_cut (b * 2 ^ w) c (ltb-true c 32 e) ∙ bit_shifted b w c
    go false e = past (b * 2 ^ w % 2 ^ 32) c 32 (omega arith) (ltb-false c 32 e)

-- a shift by 32 or more leaves nothing
pub moved_out : (b w c : ℕ) → 32 ≤ w → bit 0 c ≡ ltb c 32 && (leb w c && bit b (c - w))
moved_out b w c h = bit_none c ∙ go (ltb c 32) refl
  where
    go : (x : Bool) → ltb c 32 ≡ x → false ≡ x && (leb w c && bit b (c - w))
    go true e = rw (lt-leb w c (let l = ltb-true c 32 e in omega arith))
    go false e = refl

-- ---- one column

one_same : (c : ℕ) → bit (2 ^ c) c ≡ true
one_same c = let e : 2 ^ c / 2 ^ c ≡ 1 = ap (λ n. n / 2 ^ c) (let z : 2 ^ c ≡ 1 * 2 ^ c = omega arith in z) ∙ shl-shr 1 c in rw e

one_below : (c d : ℕ) → c < d → bit (2 ^ c) d ≡ false
one_below c d h = rw (div-eq_of_lt (pow-lt h))

one_above : (c d : ℕ) → d < c → bit (2 ^ c) d ≡ false
one_above c d h = ap (λ n. bit n d) (let z : 2 ^ c ≡ 1 * 2 ^ c = omega arith in z) ∙ bit_under 1 c d h

pub bit_one : (c d : ℕ) → bit (2 ^ c) d ≡ eqb d c
bit_one c d = go (eqb d c) refl
  where
    differ : (d ≡ c → ⊥) → (b : Bool) → ltb c d ≡ b → bit (2 ^ c) d ≡ false
    differ n true e = one_below c d (ltb-true c d e)
    differ n false e = one_above c d (let l = ltb-false c d e in omega arith)

    go : (b : Bool) → eqb d c ≡ b → bit (2 ^ c) d ≡ b
    go true e = rw (eqb-true d c e) (one_same c)
    go false e = differ (eqb-false d c e) (ltb c d) refl

or_swap : (a b : Bool) → a || b ≡ b || a
or_swap true true = refl
or_swap true false = refl
or_swap false true = refl
or_swap false false = refl

pub bit_with : (s c d : ℕ) → bit (bit_or s (2 ^ c)) d ≡ eqb d c || bit s d
bit_with s c d = bit-bit_or s (2 ^ c) d ∙ ap (λ b. bit s d || b) (bit_one c d) ∙ or_swap (bit s d) (eqb d c)
