-- A node in a slot: its record is proper, and its children stand in older slots. An arena of i + 1 slots ends with node i.
use Rattle.std.specs.Prelude.{◌≡◌, true, List, ℕ, ◌+◌, ◌*◌, ◌≤◌, ◌<◌, length, get_or}
use Rattle.std.proofs.Common.{sym, ap, ◌∙◌, arith}
use Rattle.plan.specs.WellFormed.{children_ok}
use Rattle.plan_format.specs.Record.{children}
use Rattle.plan_codec.specs.Decode.{decode}
use Rattle.record_fields.specs.Proper.{Proper}
use Rattle.arena.specs.Arena.{slot_size, index, marked, slot}
use Rattle.arena.specs.Laws.{below_at}
use Rattle.walks.specs.Marks.{known, node, set_mark}
use Rattle.plan_context.specs.View.{tree_of, forest, Arena}
use Rattle.plan_context.specs.Nodes.{counts_of, Seen, seen}
use Rattle.plan_updates.specs.ProperRecords.{record_proper}
use Rattle.plan_context.specs.Laws.{length_facts, fewer}

module _ (m : List ℕ) (i : ℕ) (a : Arena m (i + 1)) where
  pub view : Seen m i
  view = seen m i (a.all i (omega arith)).proper

  pub room : (i + 1) * slot_size ≤ length m
  room = a.slots

  pub node_proper : Proper (slot m i).rec
  node_proper = record_proper (slot m i).rec (length (slot m i).kids) (forest m (slot m i).kids) view.canon view.ok

  pub counted : children_ok (decode (slot m i).rec) (length (slot m i).kids) ≡ true
  counted = ap (children_ok (decode (slot m i).rec)) (sym (length_facts m (slot m i).kids)) ∙ (counts_of (decode (slot m i).rec)
      (known (forest m (slot m i).kids)) view.ok.0).count

  -- child j
  module _ (j : ℕ) (l : j < length (slot m i).kids) where
    pub kid_asks : ((i + 1) * slot_size ≤ length m) × (j < children (slot m i).rec) × (children (slot m i).rec ≤ 8)
    kid_asks = let n = view.count in let f = view.few in (room, omega arith, omega arith)

    pub kid_low : get_or (slot m i).kids j 0 < 2 * i
    kid_low = below_at (2 * i) (slot m i).kids j view.below l

    pub kid_older : (k : ℕ) → k ≡ get_or (slot m i).kids j 0 → Arena m (index k + 1)
    kid_older k e = let x = kid_low in fewer m (i + 1) (index k + 1) (omega arith) a

-- the tree of a handle
pub tree_of_lem : (m : List ℕ) (h : ℕ) → Arena m (index h + 1) → tree_of m h ≡ node (decode (slot m (index h)).rec) (marked h)
    (forest m (slot m (index h)).kids)
tree_of_lem m h a = ap (set_mark (marked h)) (view m (index h) a).tree
