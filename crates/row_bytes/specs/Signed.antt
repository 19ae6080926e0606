-- A signed number read from its unsigned one, as the code computes it: below 2 ^ 63 itself, else -1 less what is missing to 2 ^ 64 - 1. Assumes nothing.
use Rattle.std.specs.Prelude.{◌≡◌, refl, Bool, cond, ℕ, zero, suc, ◌+◌, ◌-◌, ◌^◌, ◌<◌, ◌≤◌, ℤ, pos, negsuc, ◌-ℤ◌}
use Rattle.std.proofs.Common.{sym, ap, ◌∙◌, subst, arith, lt-ltb, le-ltb}
use Rattle.std.specs.Int.{w64}
use mir.Val.{sel, to_z, of_z, SFits}
use Rattle.stepping.specs.RowBytes.{signed}

low_read : (x : ℕ) → x < 9223372036854775808 → to_z w64 x ≡ pos x
low_read x h = ap (λ (b : Bool). sel b (pos x) (negsuc (2 ^ 64 - suc x))) (lt-ltb x (2 ^ 63) h)

high_read : (x : ℕ) → 9223372036854775808 ≤ x → to_z w64 x ≡ negsuc (18446744073709551615 - x)
high_read x h =
    let e : 18446744073709551616 - suc x ≡ 18446744073709551615 - x = omega arith in
    ap (λ (b : Bool). sel b (pos x) (negsuc (2 ^ 64 - suc x))) (le-ltb x (2 ^ 63) h) ∙ ap (λ (n : ℕ). negsuc n) e

pub signed_low : (x : ℕ) → x < 9223372036854775808 → to_z w64 x ≡ signed x
signed_low x h = low_read x h ∙ sym (ap (λ (b : Bool). cond b (pos x) (negsuc (2 ^ 64 - 1 - x))) (lt-ltb x (2 ^ 63) h))

less_one : (n : ℕ) → negsuc 0 -ℤ pos n ≡ negsuc n
less_one zero = refl
less_one (suc n) = let e : suc (0 + n) ≡ suc n = omega arith in ap (λ (m : ℕ). negsuc m) e

-- what the code computes
below : (x : ℕ) → 9223372036854775808 ≤ x → negsuc 0 -ℤ to_z w64 (18446744073709551615 - x) ≡ negsuc (18446744073709551615 - x)
below x h = ap (λ (z : ℤ). negsuc 0 -ℤ z) (low_read (18446744073709551615 - x) (omega arith)) ∙ less_one (18446744073709551615 - x)

pub signed_fits : (x : ℕ) → 9223372036854775808 ≤ x → SFits w64 (negsuc 0 -ℤ to_z w64 (18446744073709551615 - x))
signed_fits x l = subst (SFits w64) (sym (below x l)) (record { sfits = omega arith })

pub signed_high : (x : ℕ) → x < 18446744073709551616 → 9223372036854775808 ≤ x → to_z w64 (of_z w64 (negsuc 0 -ℤ to_z w64 (18446744073709551615 - x))) ≡ signed x
signed_high x h l =
    let e : 18446744073709551616 - suc (18446744073709551615 - x) ≡ x = omega arith in
    ap (λ (z : ℤ). to_z w64 (of_z w64 z)) (below x l) ∙ ap (to_z w64) e ∙ high_read x l
    ∙ sym (ap (λ (b : Bool). cond b (pos x) (negsuc (2 ^ 64 - 1 - x))) (le-ltb x (2 ^ 63) l))
