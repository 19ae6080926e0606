-- The kept side's order at its place. Assumes nothing.
use Rattle.std.specs.Prelude.{◌≡◌, refl, List, [], ◌∷◌, map, ℕ, ◌+◌, ◌≤◌, ◌<◌, pos}
use Rattle.std.proofs.Common.{ap, ap₂, sym, arith, le→leb, lt→ltb}
use Rattle.row_order.specs.Iso.{Key}
use Rattle.row_order.specs.Lists.{All}
use Rattle.row_order.specs.ListLaws.{all_map}
use Rattle.plan.specs.WellFormed.{join_width}
use Rattle.plan.specs.declared.JoinType.{JoinType}
use Rattle.plan.specs.declared.JoinType.TheVariants.{Inner, Left, Right, Full, LeftSemi, LeftAnti, RightSemi, RightAnti}
use Rattle.semantics.specs.Facts.{with_column, moved, within}
use Rattle.semantics.proofs.Theorems.Facts.Fits.{within-fits}
use Rattle.key_lists.specs.declared.Keys.{Keys}
use Rattle.key_lists.specs.Keys.{keys_of, Keyed, Movable, moved_by}
use Rattle.join_orders.specs.KeptSides.{Placeable}

-- a left order stays in the left columns
pub left_kept : (k : Keys) (w : ℕ) → k.len ≤ 8 → All (λ k. k.col < w) (keys_of k) → Keyed (within w (keys_of k)) k
left_kept k w h a = record { is = sym (within-fits w (keys_of k) a); few = h }

-- an offset of w is a move behind w columns
pub moved_by_lem : (w : ℕ) (ks : List Key) → map (moved_by (pos w)) ks ≡ map (moved w) ks
moved_by_lem w [] = refl
moved_by_lem w (k ∷ ks) = ap₂ ◌∷◌ (ap (λ c. with_column c k) (let e : k.col + w ≡ w + k.col = omega arith in e)) (moved_by_lem w ks)

pub room : (w : ℕ) (ks : List Key) → All (λ k. w + k.col < 32) ks → All (Movable (pos w)) ks
room w ks h = all_map (λ k m. record {
  low = record { le = le→leb 0 (k.col + w) (omega arith) };
  high = record { lt = lt→ltb (k.col + w) 32 (omega arith) };
}) h

-- a right column is inside the join
right_wide : (t : JoinType) (w v c : ℕ) → w ≤ 32 → v ≤ 32 → join_width t w v ≤ 32 → c < v → join_width t w (c + 1) ≤ 32
right_wide Inner w v c a b h l = omega arith
right_wide Left w v c a b h l = omega arith
right_wide Right w v c a b h l = omega arith
right_wide Full w v c a b h l = omega arith
right_wide LeftSemi w v c a b h l = omega arith
right_wide LeftAnti w v c a b h l = omega arith
right_wide RightSemi w v c a b h l = omega arith
right_wide RightAnti w v c a b h l = omega arith

pub placeable : (t : JoinType) (w v : ℕ) (left right : Keys) → w ≤ 32 → v ≤ 32 → join_width t w v ≤ 32 → left.len ≤ 8 → right.len ≤ 8
    → All (λ k. k.col < w) (keys_of left) → All (λ k. k.col < v) (keys_of right)
    → Placeable t w left right
placeable t w v left right a b h m n p q = record { wide = a; few = m; fewer = n; lefts = p; rights = all_map (λ k l. right_wide t w v k.col a b h l) q }
