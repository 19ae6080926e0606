use mathlib.Core.Path.{◌≡◌, ap, ◌∙◌}
use Prim.Native.Nat.{ℕ, ◌/◌, ◌%◌}
use native.Mathlib.Omega.{arith}
use lib.Bits.{bit_and, and_mask}
use lib.Dec.{eqb}
use lib.ListN.{get_or}
use Rattle.row_order.specs.Packed.{bit}
use Rattle.record_fields.proofs.preserves.Goals as goal

masked : (m : ℕ) → eqb (bit_and m 1) 1 ≡ bit m 0
masked m = ap (λ (n : ℕ). eqb n 1) (and_mask m 1 ∙ (let e : m % 2 ≡ m / 1 % 2 = omega arith in e))

pub returns : goal.returns
returns c = masked (get_or c.args.r.now 3 0)
