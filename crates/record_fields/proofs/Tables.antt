-- A match on a number whose last arm takes all other numbers. Assumes nothing.
use mathlib.Core.Path.{◌≡◌}
use Prim.Native.Nat.{ℕ, suc, ◌<◌}
use native.Mathlib.Omega.{arith}

-- one number less to look at
pub down : (n : ℕ) {k : ℕ} → (k ≡ n → ⊥) → k < suc n → k < n
down n {k} e h = omega arith
