-- A join's sides as the code answers. These are definitions.
use Rattle.std.specs.Prelude.{Bool, true, false, ◌&&◌, ℕ, ◌+◌, ◌≤◌, eqb, ltb, leb, Option, Some, None}
use Rattle.plan.specs.declared.JoinType.{JoinType}
use Rattle.plan.specs.declared.JoinType.TheVariants as type
use Rattle.semantics.specs.Facts.{lowest}
use Rattle.key_lists.specs.declared.Keys.{Keys}
use Rattle.key_lists.specs.Keys.{Keyed}
use Rattle.walks.specs.SortPushdown as walk
use Rattle.join_sides.specs.declared.JoinSide.{JoinSide}
use Rattle.join_sides.specs.declared.JoinSide.TheVariants.{Left, Right, Neither}

abbrev pub found_if : Bool → ℕ → Option ℕ → Option ℕ
found_if true c s = Some c
found_if false c s = s

-- The lowest of n columns from lo on whose class is the given one
abbrev pub lowest_from : (ℕ → ℕ) → ℕ → ℕ → ℕ → Option ℕ
lowest_from low lo n class = let i : ℕ = lowest (λ j. eqb (low (lo + j)) class) n in found_if (ltb i n) (lo + i) None

-- Column c if it is there, else the lowest equal one
abbrev pub side_column : (ℕ → ℕ) → ℕ → ℕ → ℕ → Option ℕ
side_column low lo n c = found_if (leb lo c && ltb c (lo + n)) c (lowest_from low lo n (low c))

-- ---- 01's values for each answer

abbrev pub Valids : walk.Valid → Option Keys → Type 0
Valids walk.invalid None = Unit {0}
Valids walk.invalid (Some k) = ⊥
Valids (walk.valid ks) None = ⊥
Valids (walk.valid ks) (Some k) = Keyed ks k

abbrev pub SideIs : walk.JoinSide → JoinSide → Type 0
SideIs walk.no_side Neither = Unit {0}
SideIs walk.no_side (Left k) = ⊥
SideIs walk.no_side (Right k) = ⊥
SideIs (walk.left_side ks) (Left k) = Keyed ks k
SideIs (walk.left_side ks) (Right k) = ⊥
SideIs (walk.left_side ks) Neither = ⊥
SideIs (walk.right_side ks) (Left k) = ⊥
SideIs (walk.right_side ks) (Right k) = Keyed ks k
SideIs (walk.right_side ks) Neither = ⊥

-- The left columns are the first of a join's that has both sides'
abbrev pub Roomy : JoinType → ℕ → ℕ → Type 0
Roomy type.Inner left w = left ≤ w
Roomy type.Left left w = left ≤ w
Roomy type.Right left w = left ≤ w
Roomy type.Full left w = left ≤ w
Roomy type.LeftSemi left w = Unit {0}
Roomy type.LeftAnti left w = Unit {0}
Roomy type.RightSemi left w = Unit {0}
Roomy type.RightAnti left w = Unit {0}
