-- What a set of columns holds. This is a definition.
use Rattle.std.specs.Prelude.{◌≡◌, Bool, ◌&&◌, ℕ, ltb}
use Rattle.row_order.specs.Packed.{bit}

-- The set s holds exactly the columns of which p is true
abbrev pub Holding : (ℕ → Bool) → ℕ → Type 0
Holding p s = (c : ℕ) → bit s c ≡ p c

-- The columns below n of which p is true
abbrev pub below : ℕ → (ℕ → Bool) → ℕ → Bool
below n p c = ltb c n && p c
