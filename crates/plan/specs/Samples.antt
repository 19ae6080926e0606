-- The keys and sources that small plans in examples are made of. These are definitions.
use Rattle.std.specs.Prelude.{Bool, false, List, [], ◌∷◌, ℕ}
use Rattle.row_order.specs.Iso.{Key}
use Rattle.plan.specs.Op.{Op, source}

abbrev pub up : ℕ → Key
up c = record { col = c; desc = false; first = false }

abbrev pub by : ℕ → List Key
by c = up c ∷ []

-- A source: width, streams, constants, keys, unbounded
abbrev pub source_of : ℕ → ℕ → ℕ → List Key → Bool → Op
source_of w n c ks u = source (record { width = w; streams = n; constants = c; keys = ks; unbounded = u })
