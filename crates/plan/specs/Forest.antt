-- Trees of any nodes, as forests: first child, next sibling. These are definitions.
use Rattle.std.specs.Prelude.{List, [], ◌∷◌, ◌++◌, ℕ, suc, ◌+◌}

-- Nothing; or a node, the forest of its children, and the trees to its right. A plan is a forest of one root
pub data Forest (A : Type 0) : Type 0 where
  none : Forest A
  tree : A → Forest A → Forest A → Forest A

-- The root of each tree
abbrev pub roots : {A : Type 0} → Forest A → List A
roots none = []
roots (tree a c r) = a ∷ roots r

-- The number of nodes
abbrev pub size : {A : Type 0} → Forest A → ℕ
size none = 0
size (tree a c r) = suc (size c + size r)

-- The nodes, parent first, then each child's subtree in order (01, 'A plan file comes in'): node order
abbrev pub nodes : {A : Type 0} → Forest A → List A
nodes none = []
nodes (tree a c r) = a ∷ (nodes c ++ nodes r)

-- The same forest with another label on each node
abbrev pub map_f : {A B : Type 0} → (A → B) → Forest A → Forest B
map_f f none = none
map_f f (tree a c r) = tree (f a) (map_f f c) (map_f f r)
