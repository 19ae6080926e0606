-- What the rules of columns use of the definitions.
use Rattle.std.specs.Prelude.{◌≡◌, true, ℕ, ◌/◌, ◌^◌, ◌≤◌, ◌<◌, eqb}
use Rattle.std.proofs.Common.{sym, ap}
use Rattle.scan.specs.Words.{shifted_out}

-- a set shifted by 32 or more is gone
pub wide_set : (x w : ℕ) → x < 2 ^ 32 → 32 ≤ w → true ≡ eqb (x / 2 ^ w) 0
wide_set x w h l = ap (λ (n : ℕ). eqb n 0) (sym (shifted_out x 32 w h l))
