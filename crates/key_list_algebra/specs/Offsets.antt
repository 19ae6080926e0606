-- A column moved by a signed offset, as the machine computes it. Assumes nothing.
use Rattle.std.specs.Prelude.{◌≡◌, refl, ℕ, ◌<◌, ℤ, pos, negsuc, ◌+ℤ◌}
use Rattle.std.proofs.Common.{ap, ap₂, ◌∙◌, arith, ltb→lt, SFits, to_z, of_z}
use Rattle.std.proofs.Math.Path.{subst⁻¹}
use Rattle.std.specs.Int.{w64}
use Rattle.std.proofs.lemmas.Int.{to_z-of_z}
use Rattle.key_lists.specs.Keys.{InRange}

-- the column that a number in range is
pub record Column (z : ℤ) : Type 0 where
  pub n : ℕ
  pub is : z ≡ pos n
  pub below : n < 32

pub column : (z : ℤ) → InRange z → Column z
column (pos n) h = record { n = n; is = refl; below = ltb→lt n 32 h.high.lt }
column (negsuc n) h = absurd h.low.le

pub column-below : (r : ℕ) {z : ℤ} → pos r ≡ z → InRange z → r < 32
column-below r e h = let i = subst⁻¹ InRange e h in ltb→lt r 32 i.high.lt

-- the machine's sum of a column and an offset
module _ (c : ℕ) (by : ℤ) (h : c < 32) (f : SFits w64 by) where
  pub added : to_z w64 c +ℤ to_z w64 (of_z w64 by) ≡ pos c +ℤ by
  added = ap₂ ◌+ℤ◌ (to_z-of_z w64 (pos c) (record { sfits = omega arith })) (to_z-of_z w64 by f)

  pub back : (k : Column (pos c +ℤ by)) → to_z w64 (of_z w64 (to_z w64 c +ℤ to_z w64 (of_z w64 by))) ≡ pos k.n
  back k =
      let l = k.below in
      ap (λ z. to_z w64 (of_z w64 z)) (added ∙ k.is) ∙ to_z-of_z w64 (pos k.n) (record { sfits = omega arith })
