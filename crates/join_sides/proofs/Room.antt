-- Where the columns of an order on one side of a join stand: the range of the signed offset. Assumes nothing.
use Rattle.std.specs.Prelude.{◌≡◌, refl, Bool, true, false, cond, ◌&&◌, List, [], ◌∷◌, ℕ, ◌+◌, ◌-◌, ◌≤◌, ◌<◌, eqb, ltb, leb}
use Rattle.std.proofs.Common.{arith, leb-true, ltb-true}
use Rattle.row_order.specs.Iso.{Key}
use Rattle.row_order.specs.Lists.{All, all_nil, all_cons}
use Rattle.row_order.specs.ListLaws.{all_map}
use Rattle.plan.specs.WellFormed.{join_width}
use Rattle.plan.specs.declared.JoinType.{JoinType}
use Rattle.plan.specs.declared.JoinType.TheVariants.{Inner, Left, Right, Full, LeftSemi, LeftAnti, RightSemi, RightAnti}
use Rattle.semantics.proofs.Theorems.Common.Bools.{and_left, and_right}
use Rattle.semantics.specs.Facts.{Facts, cl, with_column, lowest}
use Rattle.walks.specs.SortPushdown.{JoinSide, no_side, left_side, right_side, left_first, either_side, expr_source_side, Valid, invalid, valid, and_key, on_side}
use Rattle.join_sides.specs.Sides.{Roomy}

-- every column of an ordering on a side stands there
abbrev pub Inside : ℕ → ℕ → Valid → Type 0
Inside lo n invalid = Unit {0}
Inside lo n (valid ks) = All (λ k. (lo ≤ k.col) × (k.col < lo + n)) ks

inside_and : (lo n : ℕ) (k : Key) (v : Valid) → lo ≤ k.col → k.col < lo + n → Inside lo n v → Inside lo n (and_key k v)
inside_and lo n k invalid a b h = tt
inside_and lo n k (valid ks) a b h = all_cons (a, b) h

pub inside : (F : Facts) (lo n : ℕ) (ks : List Key) → Inside lo n (on_side F lo n ks)
inside F lo n [] = all_nil
inside F lo n (k ∷ ks) = go (leb lo k.col && ltb k.col (lo + n)) refl (ltb i n) refl (inside F lo n ks)
  where
    i : ℕ
    i = lowest (λ j. eqb (cl F (lo + j)) (cl F k.col)) n

    go : (a : Bool) → leb lo k.col && ltb k.col (lo + n) ≡ a → (b : Bool) → ltb i n ≡ b → Inside lo n (on_side F lo n ks)
        → Inside lo n (cond a (and_key k (on_side F lo n ks)) (cond b (and_key (with_column (lo + i) k) (on_side F lo n ks)) invalid))
    go true e b d ih = inside_and lo n k (on_side F lo n ks) (leb-true lo k.col (and_left (leb lo k.col) (ltb k.col (lo + n)) e))
        (ltb-true k.col (lo + n) (and_right (leb lo k.col) (ltb k.col (lo + n)) e)) ih
    go false e true d ih = inside_and lo n (with_column (lo + i) k) (on_side F lo n ks) (omega arith) (omega (arith, ltb-true i n d)) ih
    go false e false d ih = tt

-- where an order stands has room there: wl left columns, wr right ones
abbrev pub Room : ℕ → ℕ → ℕ → JoinSide → Type 0
Room wl off wr no_side = Unit {0}
Room wl off wr (left_side ks) = All (λ k. k.col < wl) ks
Room wl off wr (right_side ks) = All (λ k. (off ≤ k.col) × (k.col - off < wr)) ks

first_room : (wl off wr n : ℕ) (l r : Valid) → off ≡ wl → n ≡ wr → Inside 0 wl l → Inside wl n r → Room wl off wr (left_first l r)
first_room wl off wr n invalid invalid e d f g = tt
first_room wl off wr n invalid (valid ks) e d f g = all_map (λ k p. (omega (arith, p.0), omega (arith, p.0, p.1))) g
first_room wl off wr n (valid ks) r e d f g = all_map (λ k p. omega (arith, p.1)) f

module _ (F : Facts) (wl wr : ℕ) (ks : List Key) (h : All (λ k. k.col < F.width) ks) where
  either_room : F.width ≡ wl + wr → Room wl (F.width - wr) wr (either_side F ks wl)
  either_room e = first_room wl (F.width - wr) wr (F.width - wl) (on_side F 0 wl ks) (on_side F wl (F.width - wl) ks) (omega arith) (omega arith)
      (inside F 0 wl ks) (inside F wl (F.width - wl) ks)

  right_room : F.width ≡ wr → Room wl (F.width - wr) wr (right_side ks)
  right_room e = all_map (λ k l. (omega arith, omega arith)) h

  left_room : F.width ≡ wl → Room wl (F.width - wr) wr (left_side ks)
  left_room e = all_map (λ k l. omega arith) h

  pub side_room : (t : JoinType) → F.width ≡ join_width t wl wr → Room wl (F.width - wr) wr (expr_source_side F ks t wl)
  side_room Inner e = either_room e
  side_room Left e = either_room e
  side_room Right e = either_room e
  side_room Full e = either_room e
  side_room LeftSemi e = left_room e
  side_room LeftAnti e = left_room e
  side_room RightSemi e = right_room e
  side_room RightAnti e = right_room e

pub right_wide : (F : Facts) (wl wr : ℕ) (ks ls : List Key) (t : JoinType) → F.width ≡ join_width t wl wr → right_side ls ≡ expr_source_side F ks t wl
    → wr ≤ F.width
right_wide F wl wr ks ls Inner e d = omega arith
right_wide F wl wr ks ls Left e d = omega arith
right_wide F wl wr ks ls Right e d = omega arith
right_wide F wl wr ks ls Full e d = omega arith
right_wide F wl wr ks ls LeftSemi e d = let z : ◌≡◌ {A = ℕ} 0 1 = cc in absurd (omega arith)
right_wide F wl wr ks ls LeftAnti e d = let z : ◌≡◌ {A = ℕ} 0 1 = cc in absurd (omega arith)
right_wide F wl wr ks ls RightSemi e d = omega arith
right_wide F wl wr ks ls RightAnti e d = omega arith

-- the left columns are among a join's, where it has both sides'
pub roomy : (t : JoinType) (wl wr w : ℕ) → w ≡ join_width t wl wr → Roomy t wl w
roomy Inner wl wr w e = omega arith
roomy Left wl wr w e = omega arith
roomy Right wl wr w e = omega arith
roomy Full wl wr w e = omega arith
roomy LeftSemi wl wr w e = tt
roomy LeftAnti wl wr w e = tt
roomy RightSemi wl wr w e = tt
roomy RightAnti wl wr w e = tt
