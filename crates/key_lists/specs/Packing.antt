-- One key as one number: another column, and equality by its seven bits. Assumes nothing.
use Rattle.std.specs.Prelude.{◌≡◌, refl, Bool, true, false, ◌&&◌, ℕ, zero, suc, ◌+◌, ◌*◌, ◌/◌, ◌%◌, ◌^◌, ◌<◌, eqb}
use Rattle.std.proofs.Common.{ap, ap₂, sym, ◌∙◌, arith, shr-shr, eqb-true, eq-eqb, ne_eqb}
use Rattle.std.specs.Bool.{beq}
use Rattle.std.specs.Int.Bits.{bit_and, bit_or}
use Rattle.std.proofs.lemmas.Nat.{and_mask, or_shifted}
use Rattle.std.proofs.Math.Pow.{field, mod-mod-pow}
use Rattle.std.proofs.lemmas.Bool.{eqb-false}
use Rattle.row_order.specs.Packed.{key_of}
use Rattle.semantics.specs.Facts.{with_column, eq_key}

-- only seven bits of a key count
pub seven_bits : (k : ℕ) → key_of (k % 128) ≡ key_of k
seven_bits k =
    let a : k % 128 % 32 ≡ k % 32 = omega arith in
    let b : k % 128 / 32 % 2 ≡ k / 32 % 2 = ap (λ n. n % 2) (field k 2 5) ∙ mod-mod-pow (k / 32) 1 1 in
    let d : k % 128 / 64 % 2 ≡ k / 64 % 2 = ap (λ n. n % 2) (field k 1 6) ∙ mod-mod-pow (k / 64) 0 1 in
    λ i. record { col = a i; desc = eqb (b i) 1; first = eqb (d i) 1 }

pub low_key : (k : ℕ) → key_of (k % 256) ≡ key_of k
low_key k = sym (seven_bits (k % 256)) ∙ ap key_of (let e : k % 256 % 128 ≡ k % 128 = omega arith in e) ∙ seven_bits k

pub same_low : (a b : ℕ) → a % 256 ≡ b % 256 → key_of a ≡ key_of b
same_low a b e = sym (low_key a) ∙ ap key_of e ∙ low_key b

rekeyed : (k c : ℕ) → c < 32 → key_of (k / 32 * 32 + c) ≡ with_column c (key_of k)
rekeyed k c h =
    let p : (k / 32 * 32 + c) % 32 ≡ c = omega arith in
    let a : (k / 32 * 32 + c) / 32 ≡ k / 32 = omega arith in
    let q : (k / 32 * 32 + c) / 32 % 2 ≡ k / 32 % 2 = ap (λ n. n % 2) a in
    let r : (k / 32 * 32 + c) / 64 % 2 ≡ k / 64 % 2 = ap (λ n. n % 2) (sym (shr-shr (k / 32 * 32 + c) 5 1) ∙ ap (λ n. n / 2) a ∙ shr-shr k 5 1) in
    λ i. record { col = p i; desc = eqb (q i) 1; first = eqb (r i) 1 }

-- the code's shifts and or
pub with_column_lem : (k c : ℕ) → k < 2 ^ 64 → c < 32 → key_of (bit_or (k / 32 * 32 % 2 ^ 64) c) ≡ with_column c (key_of k)
with_column_lem k c h l =
    let e : k / 32 * 32 % 2 ^ 64 ≡ k / 32 * 32 = omega arith in
    rw (e, or_shifted (k / 32) 5 c l) (rekeyed k c l)

same_bits : (x y : ℕ) → x < 2 → y < 2 → beq (eqb x 1) (eqb y 1) ≡ eqb x y
same_bits zero zero p q = refl
same_bits zero (suc zero) p q = refl
same_bits (suc zero) zero p q = refl
same_bits (suc zero) (suc zero) p q = refl
same_bits zero (suc (suc y)) p q = absurd (omega arith)
same_bits (suc zero) (suc (suc y)) p q = absurd (omega arith)
same_bits (suc (suc x)) y p q = absurd (omega arith)

-- a number below 128 by its column and its two option bits
digits : (x y z x' y' z' : ℕ) → x < 32 → x' < 32 → y < 2 → y' < 2 → eqb (x + 32 * y + 64 * z) (x' + 32 * y' + 64 * z') ≡ eqb x x' && (eqb y y' && eqb z z')
digits x y z x' y' z' a a' b b' = go (eqb x x') refl (eqb y y') refl (eqb z z') refl
  where
    a₀ : ℕ
    a₀ = x + 32 * y + 64 * z

    b₀ : ℕ
    b₀ = x' + 32 * y' + 64 * z'

    go : (p : Bool) → eqb x x' ≡ p → (q : Bool) → eqb y y' ≡ q → (r : Bool) → eqb z z' ≡ r → eqb a₀ b₀ ≡ p && (q && r)
    go true e true f true g = eq-eqb a₀ b₀ (omega (arith, eqb-true x x' e, eqb-true y y' f, eqb-true z z' g))
    go true e true f false g = ne_eqb a₀ b₀ (λ h. eqb-false z z' g (omega (arith, h)))
    go true e false f r g = ne_eqb a₀ b₀ (λ h. eqb-false y y' f (omega (arith, h)))
    go false e q f r g = ne_eqb a₀ b₀ (λ h. eqb-false x x' e (omega (arith, h)))

pub same_key : (a b : ℕ) → eqb (bit_and a 127) (bit_and b 127) ≡ eq_key (key_of a) (key_of b)
same_key a b =
    let e : a % 128 ≡ a % 32 + 32 * (a / 32 % 2) + 64 * (a / 64 % 2) = omega arith in
    let f : b % 128 ≡ b % 32 + 32 * (b / 32 % 2) + 64 * (b / 64 % 2) = omega arith in
    ap₂ eqb (and_mask a 7 ∙ e) (and_mask b 7 ∙ f)
    ∙ digits (a % 32) (a / 32 % 2) (a / 64 % 2) (b % 32) (b / 32 % 2) (b / 64 % 2) (omega arith) (omega arith) (omega arith) (omega arith)
    ∙ ap (λ t. eqb (a % 32) (b % 32) && t)
    (sym (ap₂ ◌&&◌ (same_bits (a / 32 % 2) (b / 32 % 2) (omega arith) (omega arith)) (same_bits (a / 64 % 2) (b / 64 % 2) (omega arith) (omega arith))))
