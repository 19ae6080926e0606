-- Class tables as the code holds them. These are definitions.
use Rattle.std.specs.Prelude.{◌≡◌, Bool, cond, ◌&&◌, ◌||◌, List, ℕ, ◌+◌, ◌-◌, min, ◌≤◌, ◌<◌, eqb, ltb, length, get_or}
use Rattle.semantics.specs.Facts.{lowest}

-- A column's class's lowest, from a table of 32; past the table a column is alone in its class (the semantics' cl)
abbrev pub at : List ℕ → ℕ → ℕ
at t c = cond (ltb c 32) (get_or t c 0) c

-- A table of 32 entries: below w they are f's, from w on each column is alone
pub record Filled (w : ℕ) (f : ℕ → ℕ) (t : List ℕ) : Type 0 where
  pub long : length t ≡ 32
  pub is : (c : ℕ) → at t c ≡ cond (ltb c w) (f c) c

-- From w on each column is alone
abbrev pub Alone : ℕ → List ℕ → Type 0
Alone w t = (c : ℕ) → w ≤ c → at t c ≡ c

-- An entry is no higher than its column
abbrev pub Down : List ℕ → Type 0
Down t = (c : ℕ) → at t c ≤ c

-- Each entry is a column
abbrev pub Small : List ℕ → Type 0
Small t = (c : ℕ) → c < 32 → at t c < 32

-- Each is a column: below 32
abbrev pub Columns : List ℕ → Type 0
Columns cols = (i : ℕ) → get_or cols i 0 < 32

-- ---- the entries of the semantics' tables (both, proj_facts, beside, linked), with a table's entry for cl

abbrev pub alike_at : List ℕ → List ℕ → ℕ → ℕ → Bool
alike_at a b c i = eqb (at a i) (at a c) && eqb (at b i) (at b c)

abbrev pub union_low : List ℕ → List ℕ → ℕ → ℕ
union_low a b c = lowest (alike_at a b c) c

abbrev pub carries : List ℕ → List ℕ → ℕ → ℕ → Bool
carries t cols d i = eqb (at t (get_or cols i 0)) d

abbrev pub projection_low : List ℕ → List ℕ → ℕ → ℕ
projection_low t cols j = lowest (carries t cols (at t (get_or cols j 0))) j

abbrev pub beside_low : List ℕ → List ℕ → ℕ → ℕ → ℕ
beside_low a b w c = cond (ltb c w) (at a c) (w + at b (c - w))

abbrev pub in_classes : List ℕ → ℕ → ℕ → ℕ → Bool
in_classes t x y c = eqb (at t c) x || eqb (at t c) y

abbrev pub linked_low : List ℕ → ℕ → ℕ → ℕ → ℕ
linked_low t x y c = cond (in_classes t x y c) (min x y) (at t c)
