-- The plan that stands in the arena as the stepper's tables: each node's entry, and its slot. These are definitions.
use Rattle.std.specs.Prelude.{◌≡◌, List, [], ◌∷◌, ◌++◌, ℕ, suc, ◌+◌, ◌≤◌, ◌<◌, length, get_or, take}
use Rattle.row_order.specs.Lists.{tab}
use Rattle.plan.specs.Forest.{none, tree, size}
use Rattle.plan.specs.Op.{Op, Plan}
use Rattle.semantics.specs.Facts.{facts_op, facts}
use Rattle.stepping.specs.Moves.{manner, way}
use Rattle.plan_context.specs.View.{tree_in, Arena}
use Rattle.plan_context.specs.Records.{plan_t}
use Rattle.step_tables.specs.Places.{total, inner, Node, node_of, nodes_at}
use Rattle.step_tables.specs.Passes.{node_in, Listed}
use Rattle.step_tables.specs.declared.StepNode.{StepNode}
use Rattle.step_nodes.specs.declared.Next.{Next}
use Rattle.step_nodes.specs.declared.Layout.{Layout}

-- The plan of the tree in slot i
abbrev pub plan_in : List ℕ → ℕ → Plan
plan_in m i = plan_t (tree_in m i)

-- The tree of each node, in node order
abbrev pub subtrees : Plan → List Plan
subtrees none = []
subtrees (tree o c r) = tree o c none ∷ (subtrees c ++ subtrees r)

-- s has the slots of the plan's nodes, in node order
pub record Slotted (m : List ℕ) (u : ℕ) (s : List ℕ) (f : Plan) : Type 0 where
  pub room : size f ≤ length s
  pub there : (j : ℕ) → j < size f → get_or s j 0 < u
  pub are : tab (size f) (λ j. plan_in m (get_or s j 0)) ≡ subtrees f

-- What `lay_out` leaves of the plan f. The root's `above` is the number of nodes
pub record LaidOut (m : List ℕ) (u : ℕ) (f : Plan) (t : List StepNode) (s : List ℕ) (r : Layout) : Type 0 where
  pub nodes : r.nodes ≡ size f
  pub places : r.places ≡ total (facts f) + inner f
  pub few : r.places ≤ 258048
  pub listed : Listed t (nodes_at (size f) 0 0 (total (facts f)) f)
  pub slotted : Slotted m u s f

-- ---- on the way

-- A node of the tables, and the tree below it
pub record Entry : Type 0 where
  pub node : Node
  pub plan : Plan

-- `nodes_at` and `subtrees` at once
abbrev pub entries : ℕ → ℕ → ℕ → ℕ → Plan → List Entry
entries p n a b none = []
entries p n a b (tree o c r) =
    record { node = node_of p a b o c; plan = tree o c none } ∷
    (entries n (suc n) b (b + total (facts c)) c ++ entries p (suc n + size c) (a + (facts_op o (facts c)).streams) (b + total (facts c) + inner c) r)

-- R holds of each element and its number, the first one's being j
abbrev pub Along : {A : Type 0} → (ℕ → A → Type 0) → ℕ → List A → Type 0
Along R j [] = Unit {0}
Along R j (x ∷ l) = R j x × Along R (suc j) l

-- Node j of the tables t and s
pub record Stands (m : List ℕ) (u : ℕ) (t : List StepNode) (s : List ℕ) (j : ℕ) (e : Entry) : Type 0 where
  pub row : node_in t j ≡ e.node
  pub tree : plan_in m (get_or s j 0) ≡ e.plan
  pub there : get_or s j 0 < u

-- Nodes from n on are those of f; what stands before them stays. t, s: the tables before; a, b: the places of its first output and of its first input
pub record TreeLaid (m : List ℕ) (u : ℕ) (t : List StepNode) (s : List ℕ) (t' : List StepNode) (s' : List ℕ) (p n a b : ℕ) (f : Plan) (r : Next) : Type 0 where
  pub node : r.node ≡ n + size f
  pub place : r.place ≡ b + inner f
  pub rows : take n t' ≡ take n t
  pub slots : take n s' ≡ take n s
  pub stand : Along (Stands m u t' s') n (entries p n a b f)

-- What it asks
pub record TreeLays (m : List ℕ) (u : ℕ) (t : List StepNode) (s : List ℕ) (n b : ℕ) (f : Plan) : Type 0 where
  pub arena : Arena m u
  pub table : n + size f ≤ length t
  pub list : n + size f ≤ length s
  pub few : b + inner f ≤ 1000000
