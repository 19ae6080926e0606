-- A recursion that enters the tree at h and makes its children anew, one after the other, in the arena that grows: `each j` is what the
-- children from number j on become.
use Rattle.std.specs.Prelude.{◌≡◌, refl, false, List, ℕ, suc, ◌+◌, ◌*◌, ◌≤◌, ◌<◌, length, get_or, take, drop, set}
use Rattle.std.proofs.Common.{sym, ap, ◌∙◌, subst, add-one}
use native.Mathlib.Omega.{arith}
use Rattle.plan.specs.Forest.{Forest, none, size}
use Rattle.plan_codec.specs.Decode.{decode}
use Rattle.plan_codec.specs.Encode.{encode}
use Rattle.arena.specs.Arena.{slot_size, index, slot}
use Rattle.arena.specs.declared.At.{At}
use Rattle.walks.specs.Marks.{Marked, Tree, node, plant, size_t}
use Rattle.walks.specs.Terms.{◌⊕◌}
use Rattle.walks.specs.Trees.{OkT}
use Rattle.plan_context.specs.View.{tree_of, forest, most_slots, Arena, Grown, Puts}
use Rattle.plan_updates.specs.Kids.{Kids, kids_none, kids_more, kids_forest}
use Rattle.plan_updates.specs.ChildLoop.{half, view, whole, same_slot, kid_below, split, counted, new_below, new_kids}
use Rattle.order_preservation_marks.specs.Replacing.{made_then}

-- What it asks: nothing is added, so there is room for as many nodes as the tree has
pub record Enters (m : List ℕ) (u h : ℕ) : Type 0 where
  pub arena : Arena m u
  pub here : h < 2 * u
  pub room : (u + size_t (tree_of m h)) * slot_size ≤ length m
  pub small : u + size_t (tree_of m h) ≤ most_slots

-- The first j children are done
pub record Going (each : ℕ → Forest Marked → Forest Marked) (m₀ : List ℕ) (u h j w : ℕ) (kids m : List ℕ) : Type 0 where
  pub made : Kids m₀ u j w kids m
  pub is : forest m (take j kids) ⊕ each j (forest m₀ (drop j (slot m₀ (index h)).kids)) ≡ each 0 (forest m₀ (slot m₀ (index h)).kids)
  pub left : w + size (forest m₀ (drop j (slot m₀ (index h)).kids)) ≤ u + size (forest m₀ (slot m₀ (index h)).kids)

module _ (m₀ : List ℕ) (u h : ℕ) (p : Enters m₀ u h) (each : ℕ → Forest Marked → Forest Marked) where
  abbrev hs : List ℕ
  hs = (slot m₀ (index h)).kids

  pub going-none : (kids : List ℕ) → length kids ≡ 8 → Going each m₀ u h 0 u kids m₀
  unfolding forest
  going-none kids l = record { made = kids_none m₀ u kids p.arena l; is = refl; left = omega arith }

  module _ (j w : ℕ) (kids m : List ℕ) (q : Going each m₀ u h j w kids m) where
    module _ (l : j < length (slot m₀ (index h)).kids) (k : ℕ) (e : k ≡ get_or (slot m (index h)).kids j 0) where
      abbrev next_split : forest m₀ (drop j (slot m₀ (index h)).kids) ≡ plant (tree_of m k) (forest m₀ (drop (suc j) (slot m₀ (index h)).kids))
      next_split = split p.arena p.here q.made l e

      pub going_next : (size_t (tree_of m k) < size_t (tree_of m₀ h)) × Enters m w k
      going_next =
          let s = ap size next_split in let t = whole p.arena p.here in let v = q.left in let o = q.made.long in let r = p.room in
          let n = p.small in let x = q.made.more in let y = kid_below p.arena p.here q.made l e in
          (omega arith, record { arena = q.made.arena; here = omega arith; room = omega arith; small = omega arith })

      -- t: what the child becomes
      pub going_more : (t : Tree) → each j (forest m₀ (drop j (slot m₀ (index h)).kids))
          ≡ plant t (each (suc j) (forest m₀ (drop (suc j) (slot m₀ (index h)).kids)))
          → (m' : List ℕ) → length m' ≡ length m → (r : At) → Grown m w m' r t (w + size_t (tree_of m k))
          → Going each m₀ u h (j + 1) r.used (set kids j r.root) m'
      going_more t f m' lm r g =
          let y = (view p.arena p.here).few in let s = ap size next_split in let v = q.left in let top = g.room in
          record {
            made = kids_more m₀ u j w kids m q.made (omega arith) m' lm r t (w + size_t (tree_of m k)) g;
            is = kids_forest m₀ u j w kids m q.made (omega arith) m' lm r t (w + size_t (tree_of m k)) g (each (j + 1) (forest m₀ (drop (j + 1) hs)))
                ∙ rw (add-one j) (ap (λ x. forest m (take j kids) ⊕ x) (sym f)) ∙ q.is;
            left = rw (add-one j) (omega arith);
          }

    -- all children are done
    module _ (n : ℕ) (e : n ≡ j) (c : n ≡ length (slot m₀ (index h)).kids) where
      pub news : each j none ≡ none → forest m (take n kids) ≡ each 0 (forest m₀ (slot m₀ (index h)).kids)
      news z = new_kids p.arena p.here q.made e c (each j) (each 0 (forest m₀ hs)) z q.is

      pub going_puts : each j none ≡ none → size (each 0 (forest m₀ (slot m₀ (index h)).kids)) ≤ size (forest m₀ (slot m₀ (index h)).kids)
          → OkT (node (decode (slot m₀ (index h)).rec) false (each 0 (forest m₀ (slot m₀ (index h)).kids))) → Puts m w (slot m (index h)).rec
          (take n kids)
      going_puts z f k =
          let v = q.left in let t = whole p.arena p.here in let l = q.made.long in let r = p.room in let s = p.small in let x = q.made.more in
          let y = ap size (news z) in let v₀ = view p.arena p.here in let g = v₀.small in
          record {
            arena = q.made.arena;
            room = omega arith;
            small = omega arith;
            below = new_below p.arena p.here q.made e c;
            canon = subst (λ y. y.rec ≡ encode (length (take n kids)) (decode y.rec)) (sym (same_slot p.arena p.here q.made))
                (v₀.canon ∙ ap (λ i. encode i (decode (slot m₀ (index h)).rec)) (sym (counted p.arena p.here q.made e c)));
            ok = subst OkT (λ i. node (decode (sym (same_slot p.arena p.here q.made) i).rec) false (sym (news z) i)) k;
            few = omega arith;
          }

      pub going_here : index h < w
      going_here = let x = q.made.more in let y = half p.arena p.here in omega arith

      pub going_end : (t : Tree) (m' : List ℕ) (r : At) → Grown m w m' r t (w + 1) → Grown m₀ u m' r t (u + size_t (tree_of m₀ h))
      going_end t m' r g = let v = q.left in let z = whole p.arena p.here in made_then (u + size_t (tree_of m₀ h)) q.made g (omega arith)
