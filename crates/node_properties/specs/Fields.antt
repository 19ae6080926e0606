-- The fields of a record, as the code reads them. Assumes nothing.
use Rattle.std.specs.Prelude.{◌≡◌, ℕ, ◌/◌, ◌^◌, eqb}
use Rattle.std.proofs.Common.{ap}
use Rattle.std.specs.Int.Bits.{bit_and}
use Rattle.std.proofs.lemmas.Nat.{and_mask}
use Rattle.row_order.specs.Packed.{bit}

-- ---- single fields

pub masked : (m k : ℕ) → eqb (bit_and (m / 2 ^ k) 1) 1 ≡ bit m k
masked m k = ap (λ (n : ℕ). eqb n 1) (and_mask (m / 2 ^ k) 1)
