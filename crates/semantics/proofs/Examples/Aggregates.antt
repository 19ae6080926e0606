-- Aggregates, by computation: what one knows, maintains, fetches, and that it is unbounded over an unbounded child (02, P1).
use Rattle.std.specs.Prelude.{◌≡◌, refl, true, false, List, [], ◌∷◌, map, ℕ, Some, None}
use Rattle.plan.specs.Forest.{none, tree}
use Rattle.plan.specs.Op.{projection, sort_op, aggregate, Plan}
use Rattle.plan.specs.Samples.{up, by, source_of}
use Rattle.semantics.specs.Facts.{Facts, at0, facts}
use Rattle.semantics.specs.Properties.{endless, fetches, maintains}

-- three columns on two streams, known [0, 1], column 2 constant; the projection has column 0 twice, so its columns 0 and 1 are equal
abbrev child : Plan
child = tree (projection (0 ∷ 0 ∷ 1 ∷ 2 ∷ [])) (tree (source_of 3 2 4 (up 0 ∷ up 1 ∷ []) false) none none) none

abbrev grouped : List ℕ → ℕ → Facts
grouped cols n = at0 (facts (tree (aggregate (map up cols) n) child none))

-- "knows order, constants and classes as a projection to its group columns would", and nothing of the columns behind them: by columns 1, 3 and 2,
-- of which 1 equals 0 and 3 is constant; by 1 and 0, which are one class; by 2 alone, which is no first key
pub known :
    (grouped (1 ∷ 3 ∷ 2 ∷ []) 2
    ≡ record { width = 5; streams = 2; consts = false ∷ true ∷ false ∷ false ∷ false ∷ []; cls = 0 ∷ 1 ∷ 2 ∷ 3 ∷ 4 ∷ []; order = up 0 ∷ up 2 ∷ [] })
    × (grouped (1 ∷ 0 ∷ []) 1 ≡ record { width = 3; streams = 2; consts = false ∷ false ∷ false ∷ []; cls = 0 ∷ 0 ∷ 2 ∷ []; order = by 0 })
    × (grouped (2 ∷ []) 0 ≡ record { width = 1; streams = 2; consts = false ∷ []; cls = 0 ∷ []; order = [] })
known = (refl, refl, refl)

-- "It maintains exactly when the first key of the child's known order is a group column or equals one": the child knows [0, 2]
pub maintained : map (λ cols. maintains (aggregate (map up cols) 1) (facts child) 0) ((0 ∷ []) ∷ (1 ∷ []) ∷ (2 ∷ []) ∷ (3 ∷ []) ∷ (2 ∷ 1 ∷ []) ∷ [])
    ≡ true ∷ true ∷ false ∷ false ∷ true ∷ []
maintained = refl

-- without a known order it maintains nothing; a sort's fetch is not its own; it ends where its child does
abbrev over : Plan → Plan
over f = tree (aggregate (by 0) 1) f none

pub others :
    (maintains (aggregate (by 0) 1) (facts (tree (source_of 2 1 0 [] false) none none)) 0 ≡ false)
    × (fetches (over (tree (sort_op false (by 0) (Some 3)) child none)) ≡ None ∷ [])
    × (endless (over child) ≡ false ∷ [])
    × (endless (over (tree (source_of 2 1 0 [] true) none none)) ≡ true ∷ [])
others = (refl, refl, refl, refl)
