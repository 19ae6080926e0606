-- The side whose order a join keeps, and where orders of its sides have a place. These are definitions.
use Rattle.std.specs.Prelude.{ℕ, ◌+◌, ◌≤◌, ◌<◌}
use Rattle.row_order.specs.Lists.{All}
use Rattle.plan.specs.WellFormed.{join_width}
use Rattle.plan.specs.declared.JoinType.{JoinType}
use Rattle.semantics.specs.Facts.{Kept, k_left, k_right, k_none}
use Rattle.key_lists.specs.declared.Keys.{Keys}
use Rattle.key_lists.specs.Keys.{keys_of}
use Rattle.join_orders.specs.declared.KeptSide.{KeptSide}
use Rattle.join_orders.specs.declared.KeptSide.TheVariants.{Left, Right, Neither}

-- The semantics' name for each case
abbrev pub kept_of : KeptSide → Kept
kept_of Left = k_left
kept_of Right = k_right
kept_of Neither = k_none

-- Orders of the two sides, of which the left one is w wide, have a place in the join
pub record Placeable (t : JoinType) (w : ℕ) (left right : Keys) : Type 0 where
  pub wide : w ≤ 32
  pub few : left.len ≤ 8
  pub fewer : right.len ≤ 8
  pub lefts : All (λ k. k.col < w) (keys_of left)
  pub rights : All (λ k. join_width t w (k.col + 1) ≤ 32) (keys_of right)
