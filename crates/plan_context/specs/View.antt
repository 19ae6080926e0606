-- The marked trees of the walks (walks/Marks; the Rust's PlanContext<bool>) in the arena's slots. A child is stored by its handle, so that a mark is set by
-- arithmetic and needs no slot. These are definitions.
use Rattle.std.specs.Prelude.{◌≡◌, false, ◌&&◌, List, [], ◌∷◌, ℕ, suc, ◌+◌, ◌*◌, ◌≤◌, ◌<◌, eqb, length, take, get_or}
use Rattle.scan.specs.Bytes.{le16, le32}
use Rattle.plan.specs.Forest.{Forest, none, size}
use Rattle.plan.specs.Op.{filter}
use Rattle.plan_codec.specs.Decode.{decode, fetch_of}
use Rattle.plan_codec.specs.Encode.{encode}
use Rattle.semantics.specs.Properties.{endless as endlessEach, endless_op}
use Rattle.semantics.specs.Check.{check, wants_met}
use Rattle.walks.specs.Marks.{Marked, Tree, strip, known, node, plant, op_t, fact, fetch_t, size_t, set_mark}
use Rattle.walks.specs.Trees.{OkT}
use Rattle.facts.specs.Known.{Says}
use Rattle.fact_slots.specs.Slots.{loaded}
use Rattle.arena.specs.Arena.{slot_size, Node, slot, held, at as numbered, index, marked, kept_part, Below}
use Rattle.arena.specs.Keeping.{with_kept}
use Rattle.arena.specs.declared.At.{At}
use Rattle.tree_summary.specs.declared.Summary.{Summary}

-- ---- trees

-- What stands for a tree that is not there
abbrev pub leaf : Tree
leaf = node filter false none

-- The trees of a list of handles, among the trees ts
unfoldable pub forest_by : List Tree → List ℕ → Forest Marked
forest_by ts [] = none
forest_by ts (h ∷ hs) = plant (set_mark (marked h) (numbered leaf ts (index h))) (forest_by ts hs)

abbrev pub planted : List Tree → Node → Tree
planted ts n = node (decode n.rec) false (forest_by ts n.kids)

-- The trees that the nodes stand for, unmarked
unfoldable pub trees : List Node → List Tree
trees [] = []
trees (n ∷ ns) = planted (trees ns) n ∷ trees ns

abbrev pub newest : List Tree → Tree
newest [] = leaf
newest (t ∷ ts) = t

-- The tree in slot i, unmarked: it depends on the first i + 1 slots alone
unfoldable pub tree_in : List ℕ → ℕ → Tree
tree_in m i = newest (trees (held m (suc i)))

-- The tree of a handle, and of some
abbrev pub tree_of : List ℕ → ℕ → Tree
tree_of m h = set_mark (marked h) (tree_in m (index h))

unfoldable pub forest : List ℕ → List ℕ → Forest Marked
forest m [] = none
forest m (h ∷ hs) = plant (tree_of m h) (forest m hs)

-- ---- what a slot keeps of its node beside the facts, so that nobody goes down again to ask it: in the last eight bytes,
-- 104 whether the order check passes in its tree, 105 whether it is unbounded, 106-107 the nodes of its tree, 108-111 the plan's fetch,
-- no_fetch for none. Bytes 48-103 are room for more known orders

abbrev pub summary_from : ℕ
summary_from = 104

abbrev pub summary_in : List ℕ → Summary
summary_in b = record { passes = eqb (get_or b 104 0) 1; endless = eqb (get_or b 105 0) 1; nodes = le16 b 106; fetch = le32 b 108 }

-- It is that of the tree t
pub record Sums (t : Tree) (s : Summary) : Type 0 where
  pub passes : s.passes ≡ wants_met (op_t t) (known t.kids) && check (strip t.kids)
  pub endless : s.endless ≡ endless_op (op_t t) (endlessEach (strip t.kids))
  pub nodes : s.nodes ≡ size_t t
  pub fetch : fetch_of s.fetch ≡ fetch_t t

-- ---- what is right with a slot

-- Trees on the way of a walk have at most so many nodes: their streams, 64 each at most, fit two bytes
abbrev pub most_nodes : ℕ
most_nodes = 1023

-- with its record and its children: they are those of a plan's node
pub record ProperSlot (m : List ℕ) (i : ℕ) : Type 0 where
  pub below : Below (2 * i) (slot m i).kids
  pub canon : (slot m i).rec ≡ encode (length (slot m i).kids) (decode (slot m i).rec)
  pub ok : OkT (tree_in m i)
  pub few : size_t (tree_in m i) ≤ most_nodes

-- and with what it keeps
pub record SettledSlot (m : List ℕ) (i : ℕ) : Type 0 where
  pub proper : ProperSlot m i
  pub facts : Says (fact (tree_in m i)) (loaded (kept_part m i))
  pub summary : Sums (tree_in m i) (summary_in (kept_part m i))

-- Handles take two bytes
abbrev pub most_slots : ℕ
most_slots = 32768

-- The first u slots of the memory hold trees
pub record Arena (m : List ℕ) (u : ℕ) : Type 0 where
  pub slots : u * slot_size ≤ length m
  pub small : u ≤ most_slots
  pub all : (i : ℕ) → i < u → SettledSlot m i

-- ---- what functions ask and leave

-- The first u slots stay, with all that they hold
abbrev pub Same : ℕ → List ℕ → List ℕ → Type 0
Same u m m' = take (u * slot_size) m' ≡ take (u * slot_size) m

-- What a function that adds nodes leaves: at the handle r stands t, and at most top slots are used; later slots are free
pub record Grown (m : List ℕ) (u : ℕ) (m' : List ℕ) (r : At) (t : Tree) (top : ℕ) : Type 0 where
  pub arena : Arena m' r.used
  pub old : Same u m m'
  pub more : u ≤ r.used
  pub here : r.root < 2 * r.used
  pub tree : tree_of m' r.root ≡ t
  pub room : r.used ≤ top

-- A handle whose slot is there
pub record Here (m : List ℕ) (h : ℕ) : Type 0 where
  pub slot : (index h + 1) * slot_size ≤ length m
  pub holds : SettledSlot m (index h)

-- A record over children, as a plan has it
pub record Over (m r ks : List ℕ) : Type 0 where
  pub there : (j : ℕ) → j < length ks → Here m (get_or ks j 0)
  pub canon : r ≡ encode (length ks) (decode r)
  pub ok : OkT (node (decode r) false (forest m ks))
  pub few : suc (size (forest m ks)) ≤ most_nodes

-- What `put` asks
pub record Puts (m : List ℕ) (u : ℕ) (r ks : List ℕ) : Type 0 where
  pub arena : Arena m u
  pub room : (u + 1) * slot_size ≤ length m
  pub small : u < most_slots
  pub below : Below (2 * u) ks
  pub canon : r ≡ encode (length ks) (decode r)
  pub ok : OkT (node (decode r) false (forest m ks))
  pub few : suc (size (forest m ks)) ≤ most_nodes

-- What `settle` asks of slot i: the older slots hold trees, and it has a record over some of them
pub record Settles (m : List ℕ) (i : ℕ) : Type 0 where
  pub arena : Arena m i
  pub room : (i + 1) * slot_size ≤ length m
  pub small : i < most_slots
  pub proper : ProperSlot m i

-- and what it leaves: all bytes but those kept of node i stay
pub record Settled (m : List ℕ) (i : ℕ) (m' : List ℕ) : Type 0 where
  pub holds : SettledSlot m' i
  pub rest : m' ≡ with_kept m i (kept_part m' i)
