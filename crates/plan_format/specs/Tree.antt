-- The tree of a file, and the file of a tree; a node is labelled with its record. These are definitions.
use Rattle.std.specs.Prelude.{List, [], ◌∷◌, ℕ, zero, suc}
use Rattle.plan.specs.Forest.{Forest, none, tree, nodes}
use Rattle.plan_format.specs.Record.{children}
use Rattle.plan_format.specs.Blocks.{records}
use Rattle.plan_format.specs.Writing.{file_of}

-- The first n trees of a forest, and the others
abbrev pub take_f : {A : Type 0} → ℕ → Forest A → Forest A
take_f zero f = none
take_f (suc n) none = none
take_f (suc n) (tree a c r) = tree a c (take_f n r)

abbrev pub drop_f : {A : Type 0} → ℕ → Forest A → Forest A
drop_f zero f = f
drop_f (suc n) none = none
drop_f (suc n) (tree a c r) = drop_f n r

-- 'Records stand parent first, then each child's subtree in order': from the last record to the first, each takes its children from the finished trees
abbrev pub build : List (List ℕ) → Forest (List ℕ)
build [] = none
build (r ∷ l) = tree r (take_f (children r) (build l)) (drop_f (children r) (build l))

abbrev pub tree_of : List ℕ → Forest (List ℕ)
tree_of s = build (records s)

abbrev pub file_of_tree : Forest (List ℕ) → List ℕ
file_of_tree f = file_of (nodes f)
