-- A signed number's two's complement, as the code computes it: what is not below 0 itself, else 2 ^ 64 - 1 less what it lacks to -1. Assumes nothing.
use Rattle.std.specs.Prelude.{◌≡◌, refl, Bool, true, false, cond, ℕ, suc, ◌-◌, ◌<◌, ◌≤◌, T, ℤ, pos, negsuc, ◌-ℤ◌, nat_abs}
use Rattle.std.proofs.Common.{sym, ap, ◌∙◌, subst, arith, le-ltb, to_z, of_z, Fits, SFits, to_z-of_z}
use Rattle.std.proofs.lemmas.Bool.{lt-leb}
use Rattle.std.specs.Int.Signed.{mag, lt_z, non_neg}
use Rattle.std.specs.Int.{w64}
use Rattle.row_order.proofs.Order.{no_bool}
use Rattle.stepping.specs.RowBytes.{unsigned}

sub_small : (n : ℕ) → negsuc 0 -ℤ negsuc n ≡ pos n
sub_small n =
    let e : suc n - 1 ≡ n = omega arith in
    ap (λ (b : Bool). cond b (negsuc (1 - suc (suc n))) (pos (suc n - 1))) (lt-leb (suc (suc n)) 1 (omega arith)) ∙ ap (λ (k : ℕ). pos k) e

flip : (z : ℤ) → lt_z z (pos 0) ≡ true → negsuc 0 -ℤ z ≡ pos (mag z)
flip (pos n) h = no_bool (sym (le-ltb n 0 (omega arith)) ∙ h)
flip (negsuc n) h = sub_small n

low : (z : ℤ) → lt_z z (pos 0) ≡ true → 18446744073709551615 - mag z ≡ unsigned z
low (pos n) h = no_bool (sym (le-ltb n 0 (omega arith)) ∙ h)
low (negsuc n) h = refl

high : (z : ℤ) → lt_z z (pos 0) ≡ false → z ≡ pos (mag z)
high (pos n) h = refl
high (negsuc n) h = no_bool (sym h)

high_is : (z : ℤ) → lt_z z (pos 0) ≡ false → mag z ≡ unsigned z
high_is (pos n) h = refl
high_is (negsuc n) h = no_bool (sym h)

module _ (z : ℤ) (f : SFits w64 z) where
  same : to_z w64 (of_z w64 z) ≡ z
  same = to_z-of_z {w = w64} {z = z} f

  small : mag z < 9223372036854775808
  small = f.sfits

  module _ (h : lt_z (to_z w64 (of_z w64 z)) (pos 0) ≡ true) where
    flipped : negsuc 0 -ℤ to_z w64 (of_z w64 z) ≡ pos (mag z)
    flipped = ap (λ (y : ℤ). negsuc 0 -ℤ y) same ∙ flip z (sym (ap (λ (y : ℤ). lt_z y (pos 0)) same) ∙ h)

    pub back_fits : SFits w64 (negsuc 0 -ℤ to_z w64 (of_z w64 z))
    back_fits = subst (SFits w64) (sym flipped) (record { sfits = small })

    again : to_z w64 (of_z w64 (negsuc 0 -ℤ to_z w64 (of_z w64 z))) ≡ pos (mag z)
    again = to_z-of_z {w = w64} {z = negsuc 0 -ℤ to_z w64 (of_z w64 z)} back_fits ∙ flipped

    pub back_cast : T (non_neg (to_z w64 (of_z w64 (negsuc 0 -ℤ to_z w64 (of_z w64 z))))) × Fits w64 (nat_abs (to_z w64 (of_z w64 (negsuc 0 -ℤ to_z w64 (of_z w64 z)))))
    back_cast = subst (λ (y : ℤ). T (non_neg y) × Fits w64 (nat_abs y)) (sym again) (tt, record { fits = omega (arith, small) })

    pub back_low : nat_abs (to_z w64 (of_z w64 (negsuc 0 -ℤ to_z w64 (of_z w64 z)))) ≤ 18446744073709551615
    back_low = omega (arith, ap nat_abs again, small)

    pub back_is : 18446744073709551615 - nat_abs (to_z w64 (of_z w64 (negsuc 0 -ℤ to_z w64 (of_z w64 z)))) ≡ unsigned z
    back_is = ap (λ (y : ℤ). 18446744073709551615 - nat_abs y) again ∙ low z (sym (ap (λ (y : ℤ). lt_z y (pos 0)) same) ∙ h)

  module _ (h : lt_z (to_z w64 (of_z w64 z)) (pos 0) ≡ false) where
    on : to_z w64 (of_z w64 z) ≡ pos (mag z)
    on = same ∙ high z (sym (ap (λ (y : ℤ). lt_z y (pos 0)) same) ∙ h)

    pub on_cast : T (non_neg (to_z w64 (of_z w64 z))) × Fits w64 (nat_abs (to_z w64 (of_z w64 z)))
    on_cast = subst (λ (y : ℤ). T (non_neg y) × Fits w64 (nat_abs y)) (sym on) (tt, record { fits = omega (arith, small) })

    pub on_is : nat_abs (to_z w64 (of_z w64 z)) ≡ unsigned z
    on_is = ap nat_abs on ∙ high_is z (sym (ap (λ (y : ℤ). lt_z y (pos 0)) same) ∙ h)
