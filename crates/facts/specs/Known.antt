-- The facts that the code's struct holds. These are definitions.
use Rattle.std.specs.Prelude.{◌≡◌, false, List, ℕ, ◌≤◌, length, take}
use Rattle.row_order.specs.Packed.{bit}
use Rattle.row_order.specs.Lists.{tab}
use Rattle.semantics.specs.Facts.{Facts, cl}
use Rattle.class_tables.specs.Tables.{at, Alone, Down}
use Rattle.key_lists.specs.Keys.{keys_of}
use Rattle.facts.specs.declared.Facts.{Facts as Coded}

-- The semantics' facts that the struct f says
abbrev pub known : Coded → Facts
known f = record {
  width = f.width;
  streams = f.streams;
  consts = tab f.width (bit f.consts);
  cls = take f.width f.low;
  order = keys_of f.order;
}

-- What travels with the struct: from the width on no column is constant and each is alone in its class
pub record Coherent (f : Coded) : Type 0 where
  pub wide : f.width ≤ 32
  pub long : length f.low ≡ 32
  pub alone : Alone f.width f.low
  pub down : Down f.low
  pub none : (c : ℕ) → f.width ≤ c → bit f.consts c ≡ false
  pub few : f.order.len ≤ 8

-- The struct f says the facts F, and is fine
pub record Says (F : Facts) (f : Coded) : Type 0 where
  pub is : known f ≡ F
  pub fine : Coherent f

-- A table has F's classes
abbrev pub Agrees : Facts → List ℕ → Type 0
Agrees F t = (c : ℕ) → cl F c ≡ at t c
