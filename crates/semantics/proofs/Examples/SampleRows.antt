-- What small runs in examples are made of. These are definitions.
use Rattle.std.specs.Prelude.{◌≡◌, [], ◌∷◌, ℕ, pos, length}
use Rattle.row_order.specs.Iso.{Cell, num, Row}
use Rattle.row_order.specs.Lists.{tab}
use Rattle.semantics.specs.Runs.{Streams, Env}

-- A row of one number, and of two cells
abbrev pub row : ℕ → Row
row n = num (pos n) ∷ []

abbrev pub pair : Cell → Cell → Row
pair x y = x ∷ y ∷ []

-- A row of one number twice
abbrev pub twin : ℕ → Row
twin n = pair (num (pos n)) (num (pos n))

-- What the streams of source i are
abbrev pub Has : Env → ℕ → Streams → Type 0
Has E i s = tab (length s) (E.rows i) ≡ s
