-- What a node in a slot shows to those that ask its record and the rows of its children.
use Rattle.std.specs.Prelude.{◌≡◌, false, List, ℕ, ◌+◌, ◌*◌, ◌≤◌, ◌<◌, length, get_or}
use Rattle.std.proofs.Common.{sym, ap, ◌∙◌, arith}
use Rattle.plan_format.specs.Record.{children}
use Rattle.plan_codec.specs.Decode.{decode}
use Rattle.semantics.specs.Facts.{nothing}
use Rattle.record_fields.specs.Proper.{Proper}
use Rattle.asked_facts.specs.Asked.{told}
use Rattle.maintained_orders.specs.Nodes.{Among}
use Rattle.walks.specs.Marks.{known, node, fact}
use Rattle.arena.specs.Arena.{slot_size, slot}
use Rattle.arena.specs.Laws.{below_at, index_even}
use Rattle.plan_context.specs.View.{tree_in, tree_of, forest, Arena, Here}
use Rattle.plan_context.specs.Laws.{here, facts_at, length_facts}
use Rattle.plan_context.specs.Nodes.{Seen, seen, counts_of}
use Rattle.plan_context.specs.Facts.{Tells}
use Rattle.plan_updates.specs.ProperRecords.{record_proper}

module _ (m : List ℕ) (i : ℕ) (a : Arena m (i + 1)) where
  pub shown : Seen m i
  shown = seen m i (a.all i (omega arith)).proper

  pub own_here : Here m (2 * i)
  own_here = here m (i + 1) (2 * i) a (omega arith)

  pub slot_proper : Proper (slot m i).rec
  slot_proper = record_proper (slot m i).rec (length (slot m i).kids) (forest m (slot m i).kids) shown.canon shown.ok

  own_facts : fact (tree_of m (2 * i)) ≡ fact (node (decode (slot m i).rec) false (forest m (slot m i).kids))
  own_facts = ap (λ y. fact (tree_in m y)) (index_even i) ∙ ap fact shown.tree

  module _ (j : ℕ) (l : j < length (slot m i).kids) where
    pub child_asks : ((i + 1) * slot_size ≤ length m) × (j < children (slot m i).rec) × (children (slot m i).rec ≤ 8)
    child_asks = let c = shown.count in let f = shown.few in (a.slots, omega arith, omega arith)

    pub kid_below : (k : ℕ) → k ≡ get_or (slot m i).kids j 0 → k < 2 * i
    kid_below k e = let x = below_at (2 * i) (slot m i).kids j shown.below l in omega arith

    pub kid_here : (k : ℕ) → k ≡ get_or (slot m i).kids j 0 → Here m k
    kid_here k e = here m (i + 1) k a (let x = kid_below k e in omega arith)

    pub kid_facts : (k : ℕ) → k ≡ get_or (slot m i).kids j 0 → fact (tree_of m k) ≡ get_or (known (forest m (slot m i).kids)) j nothing
    kid_facts k e = ap (λ y. fact (tree_of m y)) e ∙ sym (facts_at m (slot m i).kids j l)

    pub among : (k : ℕ) → k ≡ get_or (slot m i).kids j 0 → (b c : List ℕ) → Tells (tree_of m (2 * i)) b → Tells (tree_of m k) c
        → Among (decode (slot m i).rec) (known (forest m (slot m i).kids)) j (told b) (told c)
    among k e b c s t =
        record {
          own = s.is ∙ own_facts;
          child = t.is ∙ kid_facts k e;
          low = let x = length_facts m (slot m i).kids in omega arith;
          count = (counts_of (decode (slot m i).rec) (known (forest m (slot m i).kids)) shown.ok.0).count;
        }
