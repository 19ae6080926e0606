-- A node in the arena, visited, and a decision carried out there: what the functions ask and leave. These are definitions.
use Rattle.std.specs.Prelude.{◌≡◌, Bool, true, false, cond, List, ℕ, ◌+◌, ◌*◌, ◌≤◌, ◌<◌, length, get_or, Option}
use Rattle.plan.specs.Forest.{Forest, size}
use Rattle.plan.specs.Op.{Op, Plan}
use Rattle.plan_codec.specs.Decode.{decode}
use Rattle.semantics.specs.Facts.{nothing}
use Rattle.semantics.specs.Properties.{rebuilt}
use Rattle.key_lists.specs.declared.Keys.{Keys}
use Rattle.key_lists.specs.Keys.{Real}
use Rattle.fact_slots.specs.Slots.{loaded}
use Rattle.asked_facts.specs.Asked.{told, FactRow}
use Rattle.arena.specs.Arena.{slot_size, index, slot, Below}
use Rattle.walks.specs.Marks.{Marked, Tree, strip, known, fact, node, kid0, rebuild, cover}
use Rattle.walks.specs.Trees.{OkT}
use Rattle.walks.proofs.Theorems.Push.WellFormed.{VisitFits}
use Rattle.plan_context.specs.View.{tree_of, forest, most_slots, Arena}
use Rattle.plan_context.specs.Facts.{Usable}
use Rattle.plan_updates.specs.Covering.{Under}
use Rattle.sort_pushdown.specs.declared.Visit.{Visit}
use Rattle.sort_pushdown.specs.declared.Decision.{Decision}
use Rattle.sort_pushdown.specs.Decisions.{visit_of, tops_of}

-- ---- rows and visits

-- The node at h, and its children
abbrev pub op_at : List ℕ → ℕ → Op
op_at a h = decode (slot a (index h)).rec

abbrev pub plan_at : List ℕ → ℕ → Plan
plan_at a h = strip (forest a (slot a (index h)).kids)

-- r is the row of child j of node i, if there is one
pub record RowOf (a : List ℕ) (i j : ℕ) (r : List ℕ) : Type 0 where
  pub row : FactRow r
  pub usable : Usable (loaded r)
  pub is : j < length (slot a i).kids → told r ≡ get_or (known (forest a (slot a i).kids)) j nothing

-- The tree at h of the arena in a, visited with v
pub record Visits (a : List ℕ) (ua h : ℕ) (v : Visit) : Type 0 where
  pub from : Arena a ua
  pub here : h < 2 * ua
  pub real : Real v.req.order
  pub fits : VisitFits (fact (tree_of a h)).width (visit_of v)

-- ---- a decision carried out at node i, over walked children

-- The node, rebuilt over its children as they are if x
abbrev pub op_by : List ℕ → ℕ → Bool → Op
op_by a i x = cond x (rebuilt (decode (slot a i).rec) (known (forest a (slot a i).kids))) (decode (slot a i).rec)

abbrev pub below_by : List ℕ → ℕ → Decision → Forest Marked → Tree
below_by a i d f = cond d.gone (kid0 (node (op_by a i d.rebuilt) false f) f) (rebuild (op_by a i d.rebuilt) false f)

abbrev pub carried_by : List ℕ → ℕ → Decision → Forest Marked → Tree
carried_by a i d f = cover (tops_of d.tops) (below_by a i d f)

-- New nodes ts of an order over the tree at h
pub record Topping (b : List ℕ) (u h : ℕ) (order : Option Keys) (ts : List Op) : Type 0 where
  pub under : Under b u h 1
  pub real : Real order
  pub ok : OkT (cover ts (tree_of b h))

pub record Carries (a : List ℕ) (ua i : ℕ) (b : List ℕ) (w : ℕ) (d : Decision) (kids : List ℕ) : Type 0 where
  pub from : Arena a ua
  pub low : i < ua
  pub arena : Arena b w
  pub room : (w + 3) * slot_size ≤ length b
  pub small : w + 3 ≤ most_slots
  pub below : Below (2 * w) kids
  pub count : length kids ≡ length (slot a i).kids
  pub some : d.gone ≡ true → 0 < length kids
  pub ok : OkT (carried_by a i d (forest b kids))
  pub few : size (forest b kids) ≤ 1000
  pub merge : Real d.tops.merge
  pub sort : Real d.tops.sort
