-- Depths computed: a union of three children, the second a join over two sources, and the depths that its nodes have. Assumes nothing.
use Rattle.std.specs.Prelude.{◌≡◌, refl, List, [], ◌∷◌, ℕ, length}
use Rattle.plan_listing.specs.Listing.{after}

-- the depth of each node, from the child counts in node order
abbrev depths : List ℕ → List ℕ → List ℕ
depths ns [] = []
depths ns (k ∷ ks) = length ns ∷ depths (after ns k) ks

-- a limit, a union, a source, a join, a filter over a source, a source, a source
union : depths [] (1 ∷ 3 ∷ 0 ∷ 2 ∷ 1 ∷ 0 ∷ 0 ∷ 0 ∷ []) ≡ 0 ∷ 1 ∷ 2 ∷ 2 ∷ 3 ∷ 4 ∷ 3 ∷ 2 ∷ []
union = refl

-- the joins lean to the left: after the last leaf of the inner one the depth falls by two
joins : depths [] (2 ∷ 2 ∷ 0 ∷ 1 ∷ 0 ∷ 0 ∷ []) ≡ 0 ∷ 1 ∷ 2 ∷ 2 ∷ 3 ∷ 1 ∷ []
joins = refl
