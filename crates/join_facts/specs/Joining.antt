-- A join's sides and key pairs as the code has them. These are definitions.
use Rattle.std.specs.Prelude.{◌≡◌, true, List, [], ◌∷◌, ℕ, ◌+◌, ◌≤◌, ◌<◌, length}
use Rattle.row_order.specs.Packed.{key_of}
use Rattle.plan.specs.Op.{On}
use Rattle.plan.specs.WellFormed.{join_width, on_fit}
use Rattle.plan.specs.declared.JoinType.{JoinType}
use Rattle.semantics.proofs.Theorems.Facts.Fits.{Fits}
use Rattle.facts.specs.declared.Facts.{Facts as Coded}
use Rattle.facts.specs.Known.{known, Coherent}

-- The key pairs: left keys beside right columns
abbrev pub on_of : List ℕ → List ℕ → List On
on_of [] cs = []
on_of (k ∷ ks) [] = []
on_of (k ∷ ks) (c ∷ cs) = record { key = key_of k; other = c } ∷ on_of ks cs

-- A key pair whose columns stand in a join of w left columns
pub record Linkable (w : ℕ) (k : On) : Type 0 where
  pub left : k.key.col < w
  pub right : w + k.other < 32

-- Both sides' facts, as a plan has them
pub record Sides (t : JoinType) (a b : Coded) : Type 0 where
  pub left : Coherent a
  pub right : Coherent b
  pub left_fits : Fits (known a)
  pub right_fits : Fits (known b)
  pub wide : join_width t a.width b.width ≤ 32

-- with the key pairs of a well-formed join
pub record Joinable (t : JoinType) (a b : Coded) (lefts rights : List ℕ) : Type 0 where
  pub sides : Sides t a b
  pub pairs : length lefts ≡ length rights
  pub fit : on_fit a.width b.width (on_of lefts rights) ≡ true
