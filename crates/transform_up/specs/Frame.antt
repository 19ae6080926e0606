-- What the walk of a subtree asks and answers, and how far it has come among the children.
use Rattle.std.specs.Prelude.{◌≡◌, List, ◌⊎◌, ℕ, suc, ◌+◌, ◌*◌, ◌-◌, ◌≤◌, ◌<◌, Result, Ok, Err, length, take, drop}
use Rattle.plan.specs.Forest.{size}
use Rattle.plan.specs.declared.Refusal.TheVariants.{TooManyNodes}
use Rattle.arena.specs.Arena.{slot_size, slot}
use Rattle.walks.specs.Marks.{Tree, op_t, size_t, strip}
use Rattle.walks.specs.Counted.{Counted, stopped, counted}
use Rattle.plan_context.specs.View.{tree_in, tree_of, forest, Arena, Grown}
use Rattle.plan_updates.specs.Kids.{Kids}
use Rattle.transform_up.specs.declared.Walk.{Walk}
use Rattle.step_ends.specs.declared.Walked.{Walked}
use Rattle.step_ends.specs.declared.Stop.{Stop}
use Rattle.step_ends.specs.declared.Stop.TheVariants as stop
use Rattle.transform_up.specs.Walking.{step_of}
use Rattle.transform_up.specs.Counting.{count_tree, Going}
use Rattle.step_ends.specs.Tidying.{tidy_from, full_slots}

-- What a walk asks: a tree in an arena with v nodes, in a plan of n
pub record Walkable (m : List ℕ) (v i n : ℕ) (c : List ℕ) : Type 0 where
  pub arena : Arena m v
  pub here : i < v
  pub many : n ≤ 126
  pub part : size_t (tree_in m i) ≤ n
  pub low : v + size_t (tree_in m i) ≤ tidy_from + n
  pub scratch : full_slots * slot_size ≤ length m → 126 * slot_size ≤ length c

-- The counted walk of the tree t
abbrev pub count_of : Walk → ℕ → Tree → Counted Tree
count_of w n t = count_tree (step_of w) n (op_t t) (strip t.kids)

pub record Walks (w : Walk) (m : List ℕ) (v i n : ℕ) (m' : List ℕ) (used root count : ℕ) : Type 0 where
  pub is : count_of w n (tree_in m i) ≡ counted (tree_of m' root) count
  pub grown : Grown m v m' (record { used = used; root = root }) (tree_of m' root) used
  pub low : (used ≤ tidy_from) ⊎ (used ≤ v + size_t (tree_of m' root))
  pub many : count ≤ 126
  pub sum : count + size_t (tree_in m i) ≡ n + size_t (tree_of m' root)

-- What it answers: the definition's tree and count, its refusal 23, or that there was too little room, which a full arena has
abbrev pub Outcome : Result Walked Stop → Walk → List ℕ → ℕ → ℕ → ℕ → List ℕ → Type 0
Outcome (Ok x) w m v i n m' = Walks w m v i n m' x.used x.root x.total
Outcome (Err stop.TooManyNodes) w m v i n m' = count_of w n (tree_in m i) ≡ stopped TooManyNodes
Outcome (Err stop.NoRoom) w m v i n m' = length m < full_slots * slot_size

-- The first j children are walked: k nodes in the whole plan
pub record Walking (w : Walk) (m₀ : List ℕ) (v i n j u k : ℕ) (kids m : List ℕ) : Type 0 where
  pub made : Kids m₀ v j u kids m
  pub going : Going (step_of w) n (strip (forest m₀ (slot m₀ i).kids)) (forest m (take j kids)) k (strip (forest m₀ (drop j (slot m₀ i).kids)))
  pub many : k ≤ 126
  pub less : size (forest m₀ (drop j (slot m₀ i).kids)) ≤ size (forest m₀ (slot m₀ i).kids)
  pub part : suc (size (forest m₀ (drop j (slot m₀ i).kids))) ≤ k
  pub low : u + suc (size (forest m₀ (drop j (slot m₀ i).kids))) ≤ tidy_from + k
