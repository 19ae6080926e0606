-- What it means that facts are held in one way only. These are definitions.
use Rattle.std.specs.Prelude.{◌≡◌, Bool, false, List, [], ◌∷◌, ℕ, ◌≤◌, length}
use Rattle.row_order.specs.Iso.{Key}
use Rattle.plan.specs.WellFormed.{member}
use Rattle.semantics.specs.Facts.{Facts, cl, is_c}

-- A key list in normal form: each key's column is its class's lowest, not constant, and not seen before
pub data Normal (cs : ℕ → Bool) (low : ℕ → ℕ) : List ℕ → List Key → Type 0 where
  n_nil : {seen : List ℕ} → Normal cs low seen []
  n_cons : {seen : List ℕ} {k : Key} {ks : List Key} → low k.col ≡ k.col → cs k.col ≡ false → member k.col seen ≡ false
      → Normal cs low (k.col ∷ seen) ks → Normal cs low seen (k ∷ ks)

-- Both tables have an entry for each column. A class's lowest is no higher than the column, and is its own lowest.
-- "A class that holds a constant is all constant."
pub record Classes (F : Facts) : Type 0 where
  pub consts_long : length F.consts ≡ F.width
  pub cls_long : length F.cls ≡ F.width
  pub low : (c : ℕ) → cl F c ≤ c
  pub idem : (c : ℕ) → cl F (cl F c) ≡ cl F c
  pub const : (c : ℕ) → is_c F (cl F c) ≡ is_c F c

-- "A known order is held in normal form"
pub record Canon (F : Facts) : Type 0 where
  pub classes : Classes F
  pub normal : Normal (is_c F) (cl F) [] F.order
