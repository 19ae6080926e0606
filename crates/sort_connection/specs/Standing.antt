-- A node that stands in a slot of the arena: what its record and its children's handles show.
use Rattle.std.specs.Prelude.{◌≡◌, Bool, true, false, List, ℕ, ◌+◌, ◌*◌, ◌≤◌, ◌<◌, eqb, length, get_or}
use Rattle.std.proofs.Common.{sym, ap, ◌∙◌, subst, arith, eqb-true, eq-eqb}
use Rattle.row_order.proofs.Order.{no_bool}
use Rattle.plan.specs.Op.{Op, sort_op, merge_op, repartition}
use Rattle.plan.specs.Numbers.{kind_of, code}
use Rattle.plan.specs.WellFormed.{children_ok}
use Rattle.plan.specs.declared.Kind.TheVariants.{Repartition, Sort, Merge}
use Rattle.plan_format.specs.Record.{children}
use Rattle.plan_codec.specs.Decode.{from_bytes, decode}
use Rattle.semantics.specs.Facts.{Facts}
use Rattle.semantics.specs.Properties.{maintains}
use Rattle.record_fields.specs.Proper.{Proper}
use Rattle.asked_facts.specs.Asked.{told}
use Rattle.maintained_orders.specs.Nodes.{Among}
use Rattle.walks.specs.Marks.{fact, known, node, op_t, set_mark}
use Rattle.arena.specs.Arena.{slot_size, index, marked, slot}
use Rattle.arena.specs.Laws.{below_at, below_more}
use Rattle.plan_context.specs.View.{tree_of, forest, Arena, Here, Over}
use Rattle.plan_context.specs.Laws.{here, theres, facts_at, length_facts}
use Rattle.plan_context.specs.Nodes.{rule, Seen, seen}
use Rattle.plan_context.specs.Facts.{Tells}
use Rattle.plan_updates.specs.ProperRecords.{over_proper}
use Rattle.record_fields.specs.Kinds.{op_of}

-- The tree at the handle h is one of the arena's
pub record Standing (m : List ℕ) (u h : ℕ) : Type 0 where
  pub arena : Arena m u
  pub here : h < 2 * u

-- ---- records

-- a sort, a merge, a repartition
module _ (r : List ℕ) (p : Proper r) where
  pub sort_op_lem : code (decode r) ≡ 7 → decode r ≡ sort_op (from_bytes r).preserve (from_bytes r).keys (from_bytes r).fetch
  unfolding kind_of
  sort_op_lem c = op_of r Sort (ap kind_of (p.kind ∙ c))

  pub merge_op_lem : code (decode r) ≡ 8 → decode r ≡ merge_op (from_bytes r).keys (from_bytes r).fetch
  unfolding kind_of
  merge_op_lem c = op_of r Merge (ap kind_of (p.kind ∙ c))

  pub part_op : code (decode r) ≡ 5 → decode r ≡ repartition (from_bytes r).preserve (from_bytes r).streams (from_bytes r).hash (from_bytes r).keys
  unfolding kind_of
  part_op c = op_of r Repartition (ap kind_of (p.kind ∙ c))

-- they have one child
pub one_kid_lem : (m r ks : List ℕ) → Over m r ks → (o : Op) → decode r ≡ o → ((n : ℕ) → children_ok o n ≡ eqb n 1) → length ks ≡ 1
one_kid_lem m r ks a o e c = eqb-true (length ks) 1 (sym (c (length ks)) ∙ ap (λ x. children_ok x (length ks)) (sym e) ∙ (rule m r ks a).count)

-- ---- what the leaves' tests of kinds say

pub is_code : (o : Op) (n : ℕ) (b : Bool) → b ≡ eqb (code o) n → b ≡ true → code o ≡ n
is_code o n b e t = eqb-true (code o) n (sym e ∙ t)

pub not_code : (o : Op) (n : ℕ) (b : Bool) → b ≡ eqb (code o) n → b ≡ false → code o ≡ n → ⊥
not_code o n b e f c = no_bool (sym f ∙ e ∙ eq-eqb (code o) n c)

-- ---- the node at h

module _ (m : List ℕ) (u h : ℕ) (a : Standing m u h) where
  pub view : Seen m (index h)
  view = let l = a.here in seen m (index h) (a.arena.all (index h) (omega arith)).proper

  pub tree_is : tree_of m h ≡ node (decode (slot m (index h)).rec) (marked h) (forest m (slot m (index h)).kids)
  tree_is = ap (set_mark (marked h)) view.tree

  pub op_is : (r : List ℕ) → r ≡ (slot m (index h)).rec → decode r ≡ op_t (tree_of m h)
  op_is r e = ap decode e ∙ sym (ap op_t tree_is)

  pub slot_room : (index h + 1) * slot_size ≤ length m
  slot_room = let s = a.arena.slots in let l = a.here in omega arith

  pub is_here : Here m h
  is_here = here m u h a.arena a.here

  pub own_over : Over m (slot m (index h)).rec (slot m (index h)).kids
  own_over =
      let v = view in let l = a.here in
      record {
        there = theres m u (slot m (index h)).kids a.arena (below_more (slot m (index h)).kids (omega arith) v.below);
        canon = v.canon;
        ok = v.ok;
        few = v.small;
      }

  pub own_proper : (r : List ℕ) → r ≡ (slot m (index h)).rec → Proper r
  own_proper r e = rw e (over_proper m (slot m (index h)).rec (slot m (index h)).kids own_over)

  -- the children by number
  pub kid_asks : (j : ℕ) → j < length (slot m (index h)).kids → ((index h + 1) * slot_size ≤ length m) × (j < children (slot m (index h)).rec)
      × (children (slot m (index h)).rec ≤ 8)
  kid_asks j l = let f = view.few in let c = view.count in (slot_room, omega arith, omega arith)

  module _ (j : ℕ) (l : j < length (slot m (index h)).kids) (k : ℕ) (q : k ≡ get_or (slot m (index h)).kids j 0) where
    pub kid_standing : Standing m u k
    kid_standing = let z = below_at (2 * index h) (slot m (index h)).kids j view.below l in let y = a.here in
        record { arena = a.arena; here = omega arith }

    pub kid_small : k < 65536
    kid_small = let x = kid_standing.here in let y = a.arena.small in omega arith

    pub among : (own child : List ℕ) → Tells (tree_of m h) own → Tells (tree_of m k) child → Among (decode (slot m (index h)).rec)
        (known (forest m (slot m (index h)).kids)) j (told own) (told child)
    among own child s t =
        let n = length_facts m (slot m (index h)).kids in
        record {
          own = s.is ∙ ap (λ x. fact x) tree_is;
          child = t.is ∙ ap (λ y. fact (tree_of m y)) q ∙ sym (facts_at m (slot m (index h)).kids j l);
          low = omega arith;
          count = ap (children_ok (decode (slot m (index h)).rec)) n ∙ (rule m (slot m (index h)).rec (slot m (index h)).kids own_over).count;
        }

    pub maintained : (r : List ℕ) → r ≡ (slot m (index h)).rec → (own child : List ℕ) → Tells (tree_of m h) own → Tells (tree_of m k) child
        → (b : Bool) → ((fs : List Facts) → Among (decode r) fs j (told own) (told child) → b ≡ maintains (decode r) fs j)
        → b ≡ maintains (op_t (tree_of m h)) (known (tree_of m h).kids) j
    maintained r e own child s t b f =
        f (known (forest m (slot m (index h)).kids)) (subst (λ x. Among (decode x) (known (forest m (slot m (index h)).kids)) j (told own) (told child))
        (sym e) (among own child s t))
        ∙ ap (λ x. maintains (decode x) (known (forest m (slot m (index h)).kids)) j) e
        ∙ sym (ap (λ x. maintains (op_t x) (known x.kids) j) tree_is)
