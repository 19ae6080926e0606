-- Reading what was written gives the tree back, and writing what was read gives the same bytes: the format has one file for each tree.
use Rattle.std.specs.Prelude.{◌≡◌, refl, true, List, [], map, ℕ, eqb, length}
use Rattle.std.proofs.Common.{sym, ap, ◌∙◌, append-nil, eqb-true}
use Rattle.scan.specs.Below.{and_left, and_right}
use Rattle.plan.specs.Forest.{Forest, none, tree, roots, nodes}
use Rattle.plan.specs.Numbers.{Accepted}
use Rattle.plan_format.specs.Record.{children}
use Rattle.plan_format.specs.Blocks.{records}
use Rattle.plan_format.specs.Reading.{finished, enough, refusal_of}
use Rattle.plan_format.specs.Tree.{build, tree_of, file_of_tree}
use Rattle.scan.specs.Bytes.{AllBytes}
use Rattle.plan_roundtrip.proofs.Tree.{◌⊕◌, arity, nodes-build, build-nodes, roots-build, arity-build}
use Rattle.plan_roundtrip.specs.Files.{Acceptable, records-back, fine_accepted, accepted_fine, accepted_same}

-- A tree whose file is accepted: one root, each record says how many children it has, and its records in node order are fine
pub record FineTree (f : Forest (List ℕ)) : Type 0 where
  pub one : length (roots f) ≡ 1
  pub counts : arity f ≡ true
  pub records : Acceptable (nodes f)

pub join_none : (f : Forest (List ℕ)) → f ⊕ none ≡ f
join_none none = refl
join_none (tree a c r) = ap (tree a c) (join_none r)

-- A fine tree's file is accepted, and read as that tree
pub tree_accepted : (f : Forest (List ℕ)) → FineTree f → refusal_of (file_of_tree f) ≡ Accepted
tree_accepted f v = fine_accepted (nodes f) v.records

pub tree_back : (f : Forest (List ℕ)) → FineTree f → tree_of (file_of_tree f) ≡ f
tree_back f v = ap build (records-back (nodes f) v.records.longs v.records.some ∙ sym (append-nil (nodes f))) ∙ build-nodes f [] v.counts
    ∙ join_none f

-- An accepted file's tree is fine, and written as that file
pub accepted_tree : (s : List ℕ) → AllBytes s → refusal_of s ≡ Accepted → FineTree (tree_of s)
accepted_tree s by e =
    let v = accepted_fine s by e in
    let l : List ℕ = map children (records s) in
    record {
      one = roots-build (records s) ∙ eqb-true (finished l) 1 (and_right (enough l) (eqb (finished l) 1) v.shape);
      counts = arity-build (records s) (and_left (enough l) (eqb (finished l) 1) v.shape);
      records = rw (nodes-build (records s)) v;
    }

pub file_back : (s : List ℕ) → AllBytes s → refusal_of s ≡ Accepted → file_of_tree (tree_of s) ≡ s
file_back s by e = rw (nodes-build (records s)) (accepted_same s by e)
