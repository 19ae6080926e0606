-- The nodes of a file's tree, counted.
use Rattle.std.specs.Prelude.{◌≡◌, refl, List, ℕ, length}
use Rattle.std.proofs.Common.{ap, ◌∙◌, arith, length-append}
use Rattle.plan.specs.Forest.{Forest, none, tree, size, nodes}
use Rattle.plan_format.specs.Blocks.{record_at, record_count, records}
use Rattle.plan_format.specs.Tree.{tree_of}
use Rattle.plan_roundtrip.specs.Files.{length-span}
use Rattle.plan_roundtrip.proofs.Tree.{nodes-build}

size-nodes : {A : Type 0} (f : Forest A) → size f ≡ length (nodes f)
size-nodes none = refl
size-nodes (tree a c r) = let p = size-nodes c in let q = size-nodes r in let l = length-append (nodes c) (nodes r) in omega arith

-- the tree of an accepted file has as many nodes as the file has records
pub size-tree : (s : List ℕ) → size (tree_of s) ≡ record_count s
size-tree s = size-nodes (tree_of s) ∙ ap length (nodes-build (records s)) ∙ length-span (record_at s) 0 (record_count s)
