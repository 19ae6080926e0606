-- What is asked of a row of facts. These are definitions.
use Rattle.std.specs.Prelude.{◌≡◌, true, false, List, [], ℕ, suc, ◌≤◌, ◌<◌, length, take}
use Rattle.row_order.specs.Iso.{Key}
use Rattle.semantics.specs.Facts.{Facts, nf, prefixb, known_order}
use Rattle.facts.specs.Known.{known, Coherent}
use Rattle.fact_slots.specs.Slots.{loaded}

-- The facts that a row holds in its first 48 bytes
abbrev pub told : List ℕ → Facts
told b = known (loaded b)

pub record FactRow (b : List ℕ) : Type 0 where
  pub long : 48 ≤ length b
  pub fine : Coherent (loaded b)

-- r leading keys of ks, and no more, have a normal form that is a prefix of q
pub record Fronts (F : Facts) (q ks : List Key) (r : ℕ) : Type 0 where
  pub few : r ≤ length ks
  pub front : (i : ℕ) → i < r → prefixb (nf F [] (take (suc i) ks)) q ≡ true
  pub stop : r < length ks → prefixb (nf F [] (take (suc r) ks)) q ≡ false

-- r leading keys of ks, and no more, are met
abbrev pub MetKeys : Facts → List Key → ℕ → Type 0
MetKeys F ks r = Fronts F (known_order F) ks r
