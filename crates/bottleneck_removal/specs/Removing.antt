-- The recursion of remove_bottleneck_in_subplan: each connected child is opened, then its parent is put back.
use Rattle.std.specs.Prelude.{◌≡◌, refl, Bool, true, false, cond, not, ◌&&◌, List, ℕ, suc, ◌+◌, ◌*◌, ◌≤◌, ◌<◌, length, get_or, take, drop, set}
use Rattle.std.proofs.Common.{sym, ap, ap₂, ◌∙◌, subst, add-one}
use native.Mathlib.Omega.{arith}
use Rattle.scan.specs.Below.{and_left, and_right}
use Rattle.plan.specs.Forest.{Forest, none, tree, size}
use Rattle.plan.specs.Op.{Op}
use Rattle.plan_codec.specs.Decode.{decode}
use Rattle.plan_codec.specs.Encode.{encode}
use Rattle.semantics.specs.Properties.{singles}
use Rattle.arena.specs.Arena.{slot_size, index, marked, slot}
use Rattle.arena.specs.declared.At.{At}
use Rattle.walks.specs.Marks.{Marked, Tree, strip, node, plant, over, op_t, size_t, kid0}
use Rattle.walks.specs.Terms.{◌⊕◌}
use Rattle.walks.specs.Trees.{OkT}
use Rattle.walks.proofs.Theorems.Common.Trees.{ok_fit}
use Rattle.walks.proofs.Theorems.Common.Keeps.{kept_node, like_refl, KeepsAll}
use Rattle.walks.proofs.Theorems.Parallelize.Kept.{remove_bottleneck_in_subplan_impl_kept}
use Rattle.walks.specs.ParallelizeSorts.{bottleneck, first_is, without_self, lift_first, remove_bottleneck_in_subplan_impl, first_bottleneck_removed, remove_bottleneck_in_subplan, without_idle, skip_same}
use Rattle.plan_context.specs.View.{tree_of, forest, most_slots, Arena, Grown, Puts}
use Rattle.plan_updates.specs.Kids.{Kids, kids_none, kids_more, kids_forest}
use Rattle.plan_updates.specs.From.{from, from_first, from_next}
use Rattle.plan_context.specs.Summaries.{drop-size}
use Rattle.plan_updates.specs.ChildLoop.{half, up_to, view, whole, kid_below, split, counted, new_below, new_kids}
use Rattle.plan_context.specs.Laws.{same_trans}
use Rattle.plan_context.specs.Nodes.{Seen}
use Rattle.plan_updates.specs.Opening.{grown_none, grown_more}
use Rattle.bottleneck_removal.specs.Shown.{tree_of_lem}
use Rattle.bottleneck_removal.specs.Skipping.{Skips}
use Rattle.bottleneck_removal.specs.Sizes.{skip_size, one_size, each_size}
use Rattle.bottleneck_removal.specs.IdleNodes.{Lifts}

-- One root of remove_bottleneck_in_subplan_impl; q: it is removable
abbrev pub open_one : Bool → Tree → Tree
open_one q t = cond (t.top.mark && q)
    (without_idle t.top (first_bottleneck_removed (not (singles (op_t t) 0)) (op_t t) t.kids
    (remove_bottleneck_in_subplan_impl (λ i. not (singles (op_t t) i)) t.kids))) t

pub record Opens (m : List ℕ) (u h : ℕ) : Type 0 where
  pub arena : Arena m u
  pub here : h < 2 * u
  pub room : (u + size_t (tree_of m h)) * slot_size ≤ length m
  pub small : u + size_t (tree_of m h) ≤ most_slots

-- The first j children are opened
pub record Going (b₀ : List ℕ) (u h j w : ℕ) (kids b : List ℕ) : Type 0 where
  pub made : Kids b₀ u j w kids b
  pub is : forest b (take j kids) ⊕ remove_bottleneck_in_subplan_impl (from (λ i. not (singles (decode (slot b₀ (index h)).rec) i)) j)
      (forest b₀ (drop j (slot b₀ (index h)).kids)) ≡ remove_bottleneck_in_subplan_impl (λ i. not (singles (decode (slot b₀ (index h)).rec) i))
      (forest b₀ (slot b₀ (index h)).kids)
  pub left : w + size (forest b₀ (drop j (slot b₀ (index h)).kids)) ≤ u + size (forest b₀ (slot b₀ (index h)).kids)

module _ (b₀ : List ℕ) (u h : ℕ) (p : Opens b₀ u h) where
  abbrev hs : List ℕ
  hs = (slot b₀ (index h)).kids

  abbrev o : Op
  o = decode (slot b₀ (index h)).rec

  abbrev c₀ : Forest Marked
  c₀ = forest b₀ (slot b₀ (index h)).kids

  -- which children are removable
  abbrev free : ℕ → Bool
  free i = not (singles (decode (slot b₀ (index h)).rec) i)

  pub own : Arena b₀ (index h + 1)
  own = up_to p.arena p.here

  pub shown : Seen b₀ (index h)
  shown = view p.arena p.here

  abbrev sized : size_t (tree_of b₀ h) ≡ suc (size (forest b₀ (slot b₀ (index h)).kids))
  sized = whole p.arena p.here

  pub own_asks : ((index h + 1) * slot_size ≤ length b₀) × (length (slot b₀ (index h)).rec ≡ 64)
  own_asks = let l = p.here in let s = p.arena.slots in (omega arith, shown.long)

  -- what is not connected, or not removable, stays
  pub stays : (q : Bool) → marked h && q ≡ false → Grown b₀ u b₀ (record { used = u; root = h }) (open_one q (tree_of b₀ h)) (u + size_t (tree_of b₀ h))
  stays q e =
      let t : Tree = tree_of b₀ h in
      subst (λ x. Grown b₀ u b₀ (record { used = u; root = h }) x (u + size_t (tree_of b₀ h)))
      (sym (ap (λ b. cond b (without_idle t.top
      (first_bottleneck_removed (not (singles (op_t t) 0)) (op_t t) t.kids (remove_bottleneck_in_subplan_impl (λ i. not (singles (op_t t) i)) t.kids))) t)
      e))
      (grown_none b₀ u h (u + size_t (tree_of b₀ h)) p.arena p.here (omega arith))

  -- a connected one
  module _ (q : Bool) (e : marked h && q ≡ true) where
    now : open_one q (tree_of b₀ h) ≡ without_idle (record { op = decode (slot b₀ (index h)).rec; mark = true })
        (first_bottleneck_removed (not (singles (decode (slot b₀ (index h)).rec) 0)) (decode (slot b₀ (index h)).rec) (forest b₀ (slot b₀ (index h)).kids)
        (remove_bottleneck_in_subplan_impl (λ i. not (singles (decode (slot b₀ (index h)).rec) i)) (forest b₀ (slot b₀ (index h)).kids)))
    now =
        let d : Forest Marked = first_bottleneck_removed (free 0) o c₀ (remove_bottleneck_in_subplan_impl free c₀) in
        ap (open_one q) (tree_of_lem b₀ h own)
        ∙ ap₂ (λ x y. cond (x && y) (without_idle (record { op = o; mark = x }) d) (node o x c₀)) (and_left (marked h) q e) (and_right (marked h) q e)

    module _ (b : Bool) (f : b ≡ first_is bottleneck (forest b₀ (slot b₀ (index h)).kids) && not (singles (decode (slot b₀ (index h)).rec) 0)) where
      -- the first child goes
      module _ (t : b ≡ true) (r : List ℕ) (hr : r ≡ (slot b₀ (index h)).rec) where
        pub first_lifts : Lifts b₀ u (index h) r
        first_lifts =
            let x = p.room in let y = p.small in let z = sized in
            record {
              arena = p.arena;
              low = half p.arena p.here;
              rec = hr;
              room = omega arith;
              small = omega arith;
              first = and_left (first_is bottleneck c₀) (free 0) (sym f ∙ t);
            }

        pub first_grown : (b' : List ℕ) (a : At)
            → Grown b₀ u b' a (without_idle (record { op = decode r; mark = true }) (lift_first (decode r) (forest b₀ (slot b₀ (index h)).kids))) (u + 1)
            → Grown b₀ u b' a (open_one q (tree_of b₀ h)) (u + size_t (tree_of b₀ h))
        first_grown b' a g =
            let z = sized in
            grown_more b₀ u b' a (open_one q (tree_of b₀ h)) (u + 1) (u + size_t (tree_of b₀ h)) (omega arith)
            (subst (λ x. Grown b₀ u b' a x (u + 1))
            (ap (λ x. without_idle (record { op = decode x; mark = true }) (lift_first (decode x) c₀)) hr
            ∙ ap (λ x. without_idle (record { op = o; mark = true }) (cond x (lift_first o c₀) (remove_bottleneck_in_subplan_impl free c₀))) (sym t ∙ f)
            ∙ sym now) g)

      pub others : b ≡ false → open_one q (tree_of b₀ h) ≡ without_idle (record { op = decode (slot b₀ (index h)).rec; mark = true })
          (remove_bottleneck_in_subplan_impl (λ i. not (singles (decode (slot b₀ (index h)).rec) i)) (forest b₀ (slot b₀ (index h)).kids))
      others t = now ∙ ap (λ x. without_idle (record { op = o; mark = true }) (cond x (lift_first o c₀) (remove_bottleneck_in_subplan_impl free c₀))) (sym f ∙ t)

  pub going-none : (kids : List ℕ) → length kids ≡ 8 → Going b₀ u h 0 u kids b₀
  unfolding forest
  going-none kids l = record { made = kids_none b₀ u kids p.arena l; is = refl; left = omega arith }

  module _ (j w : ℕ) (kids b : List ℕ) (q : Going b₀ u h j w kids b) where
    module _ (l : j < length (slot b₀ (index h)).kids) (k : ℕ) (e : k ≡ get_or (slot b (index h)).kids j 0) where
      abbrev next_split : forest b₀ (drop j (slot b₀ (index h)).kids) ≡ plant (tree_of b k) (forest b₀ (drop (suc j) (slot b₀ (index h)).kids))
      next_split = split p.arena p.here q.made l e

      pub going_next : (size_t (tree_of b k) < size_t (tree_of b₀ h)) × Opens b w k
      going_next =
          let s = ap size next_split in let t = sized in let v = q.left in let y = q.made.long in let r = p.room in let m = p.small in
          let x = q.made.more in let z = kid_below p.arena p.here q.made l e in
          let d = drop-size b₀ hs j in
          (omega arith, record { arena = q.made.arena; here = omega arith; room = omega arith; small = omega arith })

      module _ (r : List ℕ) (hr : r ≡ (slot b₀ (index h)).rec) (one : Bool) (ho : one ≡ singles (decode r) j) where
        first_free : not one ≡ from free j 0
        first_free = ap not ho ∙ ap (λ x. not (singles (decode x) j)) hr ∙ sym (from_first free j)

        step : remove_bottleneck_in_subplan_impl (from free j) (plant (tree_of b k) (forest b₀ (drop (suc j) (slot b₀ (index h)).kids))) ≡ plant
            (open_one (not one) (tree_of b k)) (remove_bottleneck_in_subplan_impl (from free (suc j)) (forest b₀ (drop (suc j) (slot b₀ (index h)).kids)))
        step = ap₂ (λ s q. plant (open_one s (tree_of b k)) (remove_bottleneck_in_subplan_impl q (forest b₀ (drop (suc j) hs)))) (sym first_free)
            (from_next free j)

        pub going_more : (b' : List ℕ) → length b' ≡ length b → (a : At) → Grown b w b' a (open_one (not one) (tree_of b k)) (w + size_t (tree_of b k))
            → Going b₀ u h (j + 1) a.used (set kids j a.root) b'
        going_more b' lb a g =
            let y = shown.few in let s = ap size next_split in let v = q.left in let top = g.room in
            record {
              made = kids_more b₀ u j w kids b q.made (omega arith) b' lb a (open_one (not one) (tree_of b k)) (w + size_t (tree_of b k)) g;
              is = kids_forest b₀ u j w kids b q.made (omega arith) b' lb a (open_one (not one) (tree_of b k)) (w + size_t (tree_of b k)) g
                  (remove_bottleneck_in_subplan_impl (from free (j + 1)) (forest b₀ (drop (j + 1) hs)))
                  ∙ rw (add-one j) (ap (λ x. forest b (take j kids) ⊕ x) (sym (ap (remove_bottleneck_in_subplan_impl (from free j)) next_split ∙ step)))
                  ∙ q.is;
              left = rw (add-one j) (omega arith);
            }

    -- all children are opened
    module _ (n : ℕ) (e : n ≡ j) (c : n ≡ length (slot b₀ (index h)).kids) where
      news : forest b (take n kids) ≡ remove_bottleneck_in_subplan_impl free (forest b₀ (slot b₀ (index h)).kids)
      news = new_kids p.arena p.here q.made e c (remove_bottleneck_in_subplan_impl (from free j)) (remove_bottleneck_in_subplan_impl free c₀) refl q.is

      new_ok : OkT (node (decode (slot b₀ (index h)).rec) false (remove_bottleneck_in_subplan_impl free (forest b₀ (slot b₀ (index h)).kids)))
      new_ok =
          let v = shown.ok in
          let f = ok_fit (tree o (strip c₀) none) (v.0, v.1, tt) in
          let k : KeepsAll false true true c₀ (remove_bottleneck_in_subplan_impl free c₀) = remove_bottleneck_in_subplan_impl_kept free c₀ f.1 in
          (kept_node o o false false c₀ (remove_bottleneck_in_subplan_impl free c₀) (like_refl o) f.0 k).ok refl v

      module _ (r : List ℕ) (hr : r ≡ (slot b₀ (index h)).rec) where
        pub end_puts : Puts b w r (take n kids) × (index h < w)
        end_puts =
            let v = q.left in let t = sized in let l = q.made.long in let x = p.room in let y = p.small in let z = each_size free c₀ in
            let s = shown.small in let f = ap size news in let d = q.made.more in let i = half p.arena p.here in (
              record {
                arena = q.made.arena;
                room = omega arith;
                small = omega arith;
                below = new_below p.arena p.here q.made e c;
                canon = hr ∙ shown.canon ∙ ap₂ (λ i x. encode i (decode x)) (sym (counted p.arena p.here q.made e c)) (sym hr);
                ok = subst (λ f. OkT (node (decode r) false f)) (sym news) (subst (λ x. OkT (node (decode x) false (remove_bottleneck_in_subplan_impl free c₀)))
                    (sym hr) new_ok);
                few = omega arith;
              },
              omega arith,
            )

        pub end_grown : (z : Bool) → open_one z (tree_of b₀ h) ≡ without_idle (record { op = decode (slot b₀ (index h)).rec; mark = true })
            (remove_bottleneck_in_subplan_impl (λ i. not (singles (decode (slot b₀ (index h)).rec) i)) (forest b₀ (slot b₀ (index h)).kids))
            → (b' : List ℕ) (a : At) → Grown b w b' a (without_idle (record { op = decode r; mark = true }) (forest b (take n kids))) (w + 1)
            → Grown b₀ u b' a (open_one z (tree_of b₀ h)) (u + size_t (tree_of b₀ h))
        end_grown z f b' a g =
            let v = q.left in let t = sized in let x = q.made.more in let y = g.room in let m = g.more in
            record {
              arena = g.arena;
              old = same_trans u w b₀ b b' x q.made.old g.old;
              more = omega arith;
              here = g.here;
              tree = g.tree ∙ ap₂ (λ x d. without_idle (record { op = decode x; mark = true }) d) hr news ∙ sym f;
              room = omega arith;
            }

-- ---- the root: its own requirement does not constrain the removal

pub without_self_by : (o : Op) (x : Bool) (t : Tree) → without_self (over o x t) ≡ cond (bottleneck (op_t t)) (skip_same o t t.kids) (open_one true t)
without_self_by o x t = go (bottleneck (op_t t))
  where
    go : (y : Bool) → kid0 (remove_bottleneck_in_subplan (over o x t))
        (cond (y && true) (lift_first o (plant t none)) (remove_bottleneck_in_subplan_impl (λ i. true) (plant t none))) ≡ cond y (skip_same o t t.kids)
        (open_one true t)
    go true = refl
    go false = refl

pub without_self_size : (o : Op) (x : Bool) (t : Tree) → size_t (without_self (over o x t)) ≤ size_t t
without_self_size o x t = subst (λ y. size_t y ≤ size_t t) (sym (without_self_by o x t)) (go (bottleneck (op_t t)))
  where
    go : (y : Bool) → size_t (cond y (skip_same o t t.kids) (open_one true t)) ≤ size_t t
    go true = skip_size o t t.kids (omega arith)
    go false = one_size true t.top t.kids (remove_bottleneck_in_subplan_impl (λ i. not (singles (op_t t) i)) t.kids)
        (each_size (λ i. not (singles (op_t t) i)) t.kids)

module _ (m : List ℕ) (u h : ℕ) (p : Opens m u h) (r : List ℕ) where
  abbrev t : Tree
  t = tree_of m h

  op_is : decode (slot m (index h)).rec ≡ op_t (tree_of m h)
  op_is = ap op_t (sym (tree_of_lem m h (up_to p.arena p.here)))

  module _ (b : Bool) (e : b ≡ bottleneck (decode (slot m (index h)).rec)) where
    by_first : (x : Bool) → b ≡ x → cond x (skip_same (decode r) (tree_of m h) (tree_of m h).kids) (open_one true (tree_of m h)) ≡ without_self
        (over (decode r) false (tree_of m h))
    by_first x f = ap (λ y. cond y (skip_same (decode r) t t.kids) (open_one true t)) (sym f ∙ e ∙ ap bottleneck op_is)
        ∙ sym (without_self_by (decode r) false t)

    pub root_skips : b ≡ true → Skips m h
    root_skips x = record { arena = up_to p.arena p.here; coalesce = ap bottleneck (sym op_is) ∙ sym e ∙ x }

    pub root_lifted : b ≡ true → (k : ℕ) → (k < h) × (tree_of m k ≡ skip_same (decode r) (tree_of m h) (tree_of m h).kids)
        → Grown m u m (record { used = u; root = k }) (without_self (over (decode r) false (tree_of m h))) (u + size_t (tree_of m h))
    root_lifted x k q = let l = q.0 in let y = p.here in
        subst (λ y. Grown m u m (record { used = u; root = k }) y (u + size_t (tree_of m h))) (q.1 ∙ by_first true x)
        (grown_none m u k (u + size_t (tree_of m h)) p.arena (omega arith) (omega arith))

    pub root_opened : b ≡ false → (m' : List ℕ) (a : At) → Grown m u m' a (open_one true (tree_of m h)) (u + size_t (tree_of m h))
        → Grown m u m' a (without_self (over (decode r) false (tree_of m h))) (u + size_t (tree_of m h))
    root_opened x m' a g = subst (λ y. Grown m u m' a y (u + size_t (tree_of m h))) (by_first false x) g
