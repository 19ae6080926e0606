-- The bits that a key's options may not have, and the same of all bytes of its slots.
use Rattle.std.specs.Prelude.{Bool, true, false, List, [], ◌∷◌, ℕ, zero, suc, ◌-◌}

-- the bits that the options of a key may not have: 'hash join and hash repartition keys have options 0', and so have group
-- columns; 'bit 0 descending, bit 1 nulls first'
abbrev pub no_option : Bool → ℕ
no_option true = 255
no_option false = 252

-- the same for the bytes of k keys
abbrev pub forbidden : Bool → ℕ → List ℕ
forbidden p zero = []
forbidden p (suc k) = 0 ∷ no_option p ∷ forbidden p k
