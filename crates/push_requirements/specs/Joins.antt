-- How an order goes past a join, step by step. Assumes nothing.
use Rattle.std.specs.Prelude.{◌≡◌, refl, Bool, true, false, cond, List, [], ◌∷◌, ℕ, zero, suc, ◌-◌, ◌<◌, ◌≤◌, Option, Some, None}
use Rattle.std.proofs.Common.{sym, ap, ap₂, ◌∙◌, subst, arith}
use Rattle.std.proofs.Math.Path.{subst⁻¹}
use Rattle.row_order.specs.Iso.{Key}
use Rattle.row_order.proofs.Order.{no_bool}
use Rattle.row_order.specs.Lists.{All, all_nil, all_cons}
use Rattle.row_order.specs.ListLaws.{all_map, all_over}
use Rattle.plan.specs.WellFormed.{join_width, member}
use Rattle.plan.specs.declared.JoinType.{JoinType}
use Rattle.plan.specs.declared.JoinType.TheVariants.{Inner, Left, Right, Full, LeftSemi, LeftAnti, RightSemi, RightAnti}
use Rattle.plan_codec.specs.Decode.{decode}
use Rattle.semantics.specs.Facts.{Facts, met, compatible, ordered, drop_repeats, join_order, smj_kept, hash_kept, known_order}
use Rattle.semantics.specs.Properties.{kept_side, wanted}
use Rattle.key_lists.specs.declared.Keys.{Keys}
use Rattle.key_lists.specs.Keys.{keys_of, keys_in, Keyed, Ordered}
use Rattle.asked_facts.specs.Asked.{told}
use Rattle.join_orders.specs.declared.KeptSide.{KeptSide}
use Rattle.join_orders.specs.KeptSides.{Placeable, kept_of}
use Rattle.join_orders.specs.Orders.{placeable}
use Rattle.join_sides.specs.declared.JoinSide.{JoinSide}
use Rattle.join_sides.specs.declared.JoinSide.TheVariants as side
use Rattle.join_sides.specs.Sides.{SideIs}
use Rattle.join_sides.proofs.Room.{Room, side_room, right_wide}
use Rattle.walks.specs.SortPushdown as walk
use Rattle.push_requirements.specs.declared.ChildOrders.{ChildOrders}
use Rattle.push_requirements.specs.Pushing.{HandsOn, JoinRows}
use Rattle.push_requirements.specs.Answers.{go_stop, go_on, and_no, and_so, to_left, to_right}
use Rattle.scan.specs.Below.{and_false}

drop_keep : (P : Key → Type 0) (seen : List ℕ) (k : Key) (ks : List Key) (b : Bool) → P k → All P (drop_repeats seen ks)
    → All P (drop_repeats (k.col ∷ seen) ks)
    → All P (cond b (drop_repeats seen ks) (k ∷ drop_repeats (k.col ∷ seen) ks))
drop_keep P seen k ks true h a b = a
drop_keep P seen k ks false h a b = all_cons h b

drop_all : {P : Key → Type 0} (seen : List ℕ) (ks : List Key) → All P ks → All P (drop_repeats seen ks)
drop_all seen [] all_nil = all_nil
drop_all {P} seen (k ∷ ks) (all_cons h hs) = drop_keep P seen k ks (member k.col seen) h (drop_all seen ks hs) (drop_all (k.col ∷ seen) ks hs)

-- reordered, if there is an order to put
pub reorder_none : (F : Facts) (n : Keys) (ps : List Key) → n.len ≡ 0 → met F ps ≡ met (walk.reorder_to F (keys_of n)) ps
reorder_none F n ps e = sym (ap (λ j. met (walk.reorder_to F (keys_in j n.word)) ps) e)

pub reorder_some : (F : Facts) (n : Keys) (ps : List Key) → (n.len ≡ 0 → ⊥) → compatible F (keys_of n) ps ≡ met (walk.reorder_to F (keys_of n)) ps
reorder_some F n ps e = go n.len e
  where
    go : (j : ℕ) → (j ≡ 0 → ⊥) → compatible F (keys_in j n.word) ps ≡ met (walk.reorder_to F (keys_in j n.word)) ps
    go zero f = absurd (f refl)
    go (suc j) f = refl

-- ---- try_pushdown_requirements_to_join: ks are the keys for the side, ws the keys wanted of it, ds those without repeats, os the other side's order
module _ (t : JoinType) (r own a b : List ℕ) (j : JoinRows t r own a b) (parent keys : Keys) where
  abbrev ks : List Key
  ks = keys_of keys

  abbrev tries : ℕ → walk.Pushed
  tries s = walk.try_pushdown_requirements_to_join (decode r) t (told own) (told a) (told b) (keys_of parent) (keys_of keys) s

  module _ (d o : Keys) (kd : Keyed (drop_repeats [] (keys_of keys)) d) (w : ℕ) (e : w ≡ (told a).width) where
    pub left_place : Keyed (known_order (told b)) o → All (λ k. k.col < (told a).width) (keys_of keys) → Placeable t w d o
    left_place ko h =
        rw e
        (placeable t (told a).width (told b).width d o j.sides.left.wide j.sides.right.wide j.sides.wide kd.few ko.few
        (subst⁻¹ (All (λ k. k.col < (told a).width)) kd.is (drop_all [] ks h))
        (subst⁻¹ (All (λ k. k.col < (told b).width)) ko.is j.sides.right_fits))

    pub right_place : Keyed (known_order (told a)) o → All (λ k. k.col < (told b).width) (keys_of keys) → Placeable t w o d
    right_place ko h =
        rw e
        (placeable t (told a).width (told b).width o d j.sides.left.wide j.sides.right.wide j.sides.wide ko.few kd.few
        (subst⁻¹ (All (λ k. k.col < (told a).width)) ko.is j.sides.left_fits)
        (subst⁻¹ (All (λ k. k.col < (told b).width)) kd.is (drop_all [] ks h)))

    -- the join's order once the side's child has the new one
    module _ (kept : KeptSide) (ek : kept_of kept ≡ smj_kept t) (n : Keys) where
      pub left_new : Keyed (known_order (told b)) o → ((F G : Facts) → F.width ≡ w → keys_of d ≡ F.order → keys_of o ≡ G.order
          → Keyed (join_order t (kept_of kept) F G) n) → keys_of n ≡ walk.new_output_ordering t (told a) (told b) (keys_of keys) 0
      left_new ko h = (h (ordered (told a) 0 (drop_repeats [] ks)) (told b) (sym e) kd.is ko.is).is
          ∙ ap (λ k. join_order t k (ordered (told a) 0 (drop_repeats [] ks)) (told b)) ek

      pub right_new : Keyed (known_order (told a)) o → ((F G : Facts) → F.width ≡ w → keys_of o ≡ F.order → keys_of d ≡ G.order
          → Keyed (join_order t (kept_of kept) F G) n) → keys_of n ≡ walk.new_output_ordering t (told a) (told b) (keys_of keys) 1
      right_new ko h = (h (told a) (ordered (told b) 0 (drop_repeats [] ks)) (sym e) ko.is kd.is).is
          ∙ ap (λ k. join_order t k (told a) (ordered (told b) 0 (drop_repeats [] ks))) ek

  -- the side does not meet what the join wants of it
  module _ (ws : List Key) (x : Bool) where
    pub left_unmet : ws ≡ wanted (decode r) 0 → x ≡ compatible (told a) (keys_of keys) ws → x ≡ false → HandsOn 2 (tries 0) None
    left_unmet e h f = go_stop 2 _ _ (and_no (compatible (told a) ks (wanted (decode r) 0)) _ (sym (h ∙ ap (compatible (told a) ks) e) ∙ f))

    pub right_unmet : ws ≡ wanted (decode r) 1 → x ≡ compatible (told b) (keys_of keys) ws → x ≡ false → HandsOn 2 (tries 1) None
    right_unmet e h f = go_stop 2 _ _ (and_no (compatible (told b) ks (wanted (decode r) 1)) _ (sym (h ∙ ap (compatible (told b) ks) e) ∙ f))

    -- it does; y: the join then meets what is required of it
    module _ (n : Keys) (y : Bool) (hy : y ≡ met (walk.reorder_to (told own) (keys_of n)) (keys_of parent)) where
      pub left_lost : keys_of n ≡ walk.new_output_ordering t (told a) (told b) (keys_of keys) 0 → y ≡ false → HandsOn 2 (tries 0) None
      left_lost e f = go_stop 2 _ _
          (and_false (compatible (told a) ks (wanted (decode r) 0)) _ (sym (hy ∙ ap (λ l. met (walk.reorder_to (told own) l) (keys_of parent)) e) ∙ f))

      pub right_lost : keys_of n ≡ walk.new_output_ordering t (told a) (told b) (keys_of keys) 1 → y ≡ false → HandsOn 2 (tries 1) None
      right_lost e f = go_stop 2 _ _
          (and_false (compatible (told b) ks (wanted (decode r) 1)) _ (sym (hy ∙ ap (λ l. met (walk.reorder_to (told own) l) (keys_of parent)) e) ∙ f))

      module _ (d : Keys) (kd : Keyed (drop_repeats [] (keys_of keys)) d) (p q : Option Keys) where
        pub left_goes : ws ≡ wanted (decode r) 0 → x ≡ compatible (told a) (keys_of keys) ws → x ≡ true → keys_of n ≡ walk.new_output_ordering t (told a)
            (told b) (keys_of keys) 0 → y ≡ true
            → Ordered (keys_of d) p → Ordered (wanted (decode r) 1) q → HandsOn 2 (tries 0) (Some (record { first = p; rest = q }))
        left_goes e h f i g op oq =
            go_on 2 _ _ (Some (record { first = p; rest = q }))
            (and_so (compatible (told a) ks (wanted (decode r) 0)) _ (sym (h ∙ ap (compatible (told a) ks) e) ∙ f)
            ∙ sym (hy ∙ ap (λ l. met (walk.reorder_to (told own) l) (keys_of parent)) i) ∙ g)
            (to_left (drop_repeats [] ks) (wanted (decode r)) p q (subst (λ l. Ordered l p) kd.is op) oq)

        pub right_goes : ws ≡ wanted (decode r) 1 → x ≡ compatible (told b) (keys_of keys) ws → x ≡ true → keys_of n ≡ walk.new_output_ordering t (told a)
            (told b) (keys_of keys) 1 → y ≡ true
            → Ordered (wanted (decode r) 0) p → Ordered (keys_of d) q → HandsOn 2 (tries 1) (Some (record { first = p; rest = q }))
        right_goes e h f i g op oq =
            go_on 2 _ _ (Some (record { first = p; rest = q }))
            (and_so (compatible (told b) ks (wanted (decode r) 1)) _ (sym (h ∙ ap (compatible (told b) ks) e) ∙ f)
            ∙ sym (hy ∙ ap (λ l. met (walk.reorder_to (told own) l) (keys_of parent)) i) ∙ g)
            (to_right (drop_repeats [] ks) (wanted (decode r)) p q op (subst (λ l. Ordered l q) kd.is oq))

-- ---- the side

left_is : (S : walk.JoinSide) (k : Keys) → SideIs S (side.Left k) → walk.left_side (keys_of k) ≡ S
left_is walk.no_side k h = absurd h
left_is (walk.left_side ks) k h = ap walk.left_side h.is
left_is (walk.right_side ks) k h = absurd h

right_is : (S : walk.JoinSide) (k : Keys) → SideIs S (side.Right k) → walk.right_side (keys_of k) ≡ S
right_is walk.no_side k h = absurd h
right_is (walk.left_side ks) k h = absurd h
right_is (walk.right_side ks) k h = ap walk.right_side h.is

neither_is : (S : walk.JoinSide) → SideIs S side.Neither → walk.no_side ≡ S
neither_is walk.no_side h = refl
neither_is (walk.left_side ks) h = absurd h
neither_is (walk.right_side ks) h = absurd h

left_few : (S : walk.JoinSide) (k : Keys) → SideIs S (side.Left k) → k.len ≤ 8
left_few walk.no_side k h = absurd h
left_few (walk.left_side ks) k h = h.few
left_few (walk.right_side ks) k h = absurd h

right_few : (S : walk.JoinSide) (k : Keys) → SideIs S (side.Right k) → k.len ≤ 8
right_few walk.no_side k h = absurd h
right_few (walk.left_side ks) k h = absurd h
right_few (walk.right_side ks) k h = h.few

module _ (t : JoinType) (r own a b : List ℕ) (j : JoinRows t r own a b) (parent : Keys) (inside : All (λ k. k.col < (told own).width) (keys_of parent))
    (w : ℕ) (ew : w ≡ (told a).width) (s : JoinSide) (h : SideIs (walk.expr_source_side (told own) (keys_of parent) t w) s) where
  abbrev S : walk.JoinSide
  S = walk.expr_source_side (told own) (keys_of parent) t (told a).width

  abbrev off : ℕ
  off = (told own).width - (told b).width

  room : Room (told a).width off (told b).width S
  room = side_room (told own) (told a).width (told b).width (keys_of parent) inside t j.width

  at_side : SideIs S s
  at_side = subst (λ v. SideIs (walk.expr_source_side (told own) (keys_of parent) t v) s) ew h

  module _ (k : Keys) where
    pub left_keys : s ≡ side.Left k → (k.len ≤ 8) × All (λ k. k.col < (told a).width) (keys_of k)
    left_keys e = let x = subst (SideIs S) e at_side in (left_few S k x, subst⁻¹ (Room (told a).width off (told b).width) (left_is S k x) room)

    pub pushed_left : s ≡ side.Left k → (p : Option ChildOrders)
        → HandsOn 2 (walk.try_pushdown_requirements_to_join (decode r) t (told own) (told a) (told b) (keys_of parent) (keys_of k) 0) p
        → HandsOn 2 (walk.push_to_side (decode r) t (told own) (told a) (told b) (keys_of parent) S) p
    pushed_left e p g = subst (λ x. HandsOn 2 (walk.push_to_side (decode r) t (told own) (told a) (told b) (keys_of parent) x) p)
        (left_is S k (subst (SideIs S) e at_side)) g

    right_all : s ≡ side.Right k → All (λ k. (off ≤ k.col) × (k.col - off < (told b).width)) (keys_of k)
    right_all e = subst⁻¹ (Room (told a).width off (told b).width) (right_is S k (subst (SideIs S) e at_side)) room

    pub right_off : s ≡ side.Right k → (told b).width ≤ (told own).width
    right_off e = right_wide (told own) (told a).width (told b).width (keys_of parent) (keys_of k) t j.width (right_is S k (subst (SideIs S) e at_side))

    module _ (e : s ≡ side.Right k) (x y : ℕ) (ex : x ≡ (told own).width) (ey : y ≡ (told b).width) where
      pub right_keys : (x - y ≤ 32) × All (λ k. x - y ≤ k.col) (keys_of k) × (k.len ≤ 8)
      right_keys =
          let l = j.here.fine.wide in
          (omega arith, all_map (λ k p. omega (arith, p.0)) (right_all e), right_few S k (subst (SideIs S) e at_side))

      module _ (q : Keys) (kq : Keyed (walk.add_offset_to_physical_sort_exprs (x - y) (keys_of k)) q) where
        back_is : keys_of q ≡ walk.add_offset_to_physical_sort_exprs off (keys_of k)
        back_is = kq.is ∙ ap₂ (λ u v. walk.add_offset_to_physical_sort_exprs (u - v) (keys_of k)) ex ey

        pub right_inside : (q.len ≤ 8) × All (λ k. k.col < (told b).width) (keys_of q)
        right_inside = (kq.few, subst⁻¹ (All (λ k. k.col < (told b).width)) back_is (all_over (walk.at_column (λ c. c - off)) (λ k p. p.1) (right_all e)))

        pub pushed_right : (p : Option ChildOrders) → HandsOn 2 (walk.try_pushdown_requirements_to_join (decode r) t (told own) (told a) (told b) (keys_of parent)
            (keys_of q) 1) p
            → HandsOn 2 (walk.push_to_side (decode r) t (told own) (told a) (told b) (keys_of parent) S) p
        pushed_right p g =
            subst (λ x. HandsOn 2 (walk.push_to_side (decode r) t (told own) (told a) (told b) (keys_of parent) x) p)
            (right_is S k (subst (SideIs S) e at_side))
            (subst (λ l. HandsOn 2 (walk.try_pushdown_requirements_to_join (decode r) t (told own) (told a) (told b) (keys_of parent) l 1) p) back_is g)

  pub pushed_neither : s ≡ side.Neither → HandsOn 2 (walk.push_to_side (decode r) t (told own) (told a) (told b) (keys_of parent) S) None
  pushed_neither e = subst (λ x. HandsOn 2 (walk.push_to_side (decode r) t (told own) (told a) (told b) (keys_of parent) x) None)
      (neither_is S (subst (SideIs S) e at_side)) tt

-- where a hash join keeps its right side, its columns are the last
pub hash_room : (t : JoinType) (wl wr w : ℕ) → w ≡ join_width t wl wr → kept_side (hash_kept t) 1 ≡ true → wr ≤ w
hash_room Inner wl wr w e d = omega arith
hash_room Left wl wr w e d = no_bool d
hash_room Right wl wr w e d = omega arith
hash_room Full wl wr w e d = no_bool d
hash_room LeftSemi wl wr w e d = no_bool d
hash_room LeftAnti wl wr w e d = no_bool d
hash_room RightSemi wl wr w e d = omega arith
hash_room RightAnti wl wr w e d = omega arith
