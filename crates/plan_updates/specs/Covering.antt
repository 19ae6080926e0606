-- A new node over one tree.
use Rattle.std.specs.Prelude.{◌≡◌, refl, true, false, List, [], ◌∷◌, ℕ, ◌+◌, ◌*◌, ◌≤◌, ◌<◌, length}
use Rattle.std.proofs.Common.{sym, ap, ap₂, ◌∙◌, subst, arith}
use Rattle.plan.specs.Forest.{none}
use Rattle.plan.specs.Op.{Op}
use Rattle.plan.specs.WellFormed.{node_ok}
use Rattle.plan_codec.specs.Decode.{decode}
use Rattle.plan_codec.specs.Encode.{encode}
use Rattle.plan_codec.proofs.OneRecord.{decode-encode}
use Rattle.walks.specs.Marks.{node, plant, over, known, fact, size_t}
use Rattle.walks.specs.Trees.{OkT}
use Rattle.arena.specs.Arena.{slot_size, index}
use Rattle.arena.specs.declared.At.{At}
use Rattle.plan_context.specs.View.{tree_of, forest, most_nodes, most_slots, Arena, Grown, Puts}
use Rattle.plan_context.specs.Nodes.{counts_of}

-- The tree at h, and room for n nodes over it
pub record Under (m : List ℕ) (u h n : ℕ) : Type 0 where
  pub arena : Arena m u
  pub here : h < 2 * u
  pub room : (u + n) * slot_size ≤ length m
  pub small : u + n ≤ most_slots
  pub few : n + size_t (tree_of m h) ≤ most_nodes

pub one : (m : List ℕ) (h : ℕ) → forest m (h ∷ []) ≡ plant (tree_of m h) none
unfolding forest
one m h = refl

module _ (m : List ℕ) (u h : ℕ) (p : Under m u h 1) (o : Op) (ok : node_ok o ((fact (tree_of m h)).width ∷ []) ≡ true) (r : List ℕ) (e : r ≡ encode 1 o) where
  decoded : decode r ≡ o
  decoded = ap decode e ∙ decode-encode 1 o (counts_of o (known (plant (tree_of m h) none)) ok).fields

  tree_is : node (decode r) false (forest m (h ∷ [])) ≡ over o false (tree_of m h)
  tree_is = ap₂ (λ x f. node x false f) decoded (one m h)

  pub cover_puts : OkT (tree_of m h) → Puts m u r (h ∷ [])
  cover_puts k =
      let x = p.small in let y = p.few in let z = ap size_t tree_is in
      record {
        arena = p.arena;
        room = p.room;
        small = omega arith;
        below = (p.here, tt);
        canon = e ∙ ap (encode 1) (sym decoded);
        ok = subst OkT (sym tree_is) (ok, (k.0, k.1, tt));
        few = omega arith;
      }

  pub cover_grown : (m' : List ℕ) (a : At) (top : ℕ) → Grown m u m' a (node (decode r) false (forest m (h ∷ []))) top
      → Grown m u m' a (over o false (tree_of m h)) top
  cover_grown m' a top g = subst (λ t. Grown m u m' a t top) tree_is g

-- what a tree in the arena is
pub ok_of : (m : List ℕ) (u h : ℕ) → Arena m u → h < 2 * u → OkT (tree_of m h)
ok_of m u h a l = (a.all (index h) (omega arith)).proper.ok
