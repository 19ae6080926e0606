-- The two views of an arena agree: the trees of records that files are made of, and the marked trees of the walks.
use Rattle.std.specs.Prelude.{◌≡◌, refl, Bool, true, false, ◌&&◌, List, [], ◌∷◌, ℕ, suc, ◌*◌, ◌<◌, length}
use Rattle.std.proofs.Common.{sym, ap, ap₂, ◌∙◌, arith}
use Rattle.std.proofs.Math.Decide.{ℕ_discrete}
use Rattle.plan.specs.Forest.{none, tree, map_f}
use Rattle.plan.specs.Op.{Plan}
use Rattle.plan_codec.specs.Decode.{decode}
use Rattle.semantics.specs.Check.{check, wants_met}
use Rattle.walks.specs.Marks.{Tree, strip, known, op_t, set_mark}
use Rattle.arena.specs.Arena as records
use Rattle.arena.specs.Arena.{Node, index, marked, held, at, Below, Good}
use Rattle.arena.specs.Laws.{at_new, at_old}
use Rattle.arena.specs.Laws as laws
use Rattle.arena.specs.Held.{length-held}
use Rattle.plan_context.specs.View.{leaf, forest_by, trees, newest, tree_in, tree_of}
use Rattle.plan_context.specs.Laws.{at_trees, length-trees}

-- The plan of a tree, as a forest of one root
abbrev pub plan_t : Tree → Plan
plan_t t = tree (op_t t) (strip t.kids) none

abbrev decoded : records.Tree → Plan
decoded t = tree (decode t.root) (map_f decode t.below) none

-- the first tree with another right neighbour
abbrev onto : Plan → Plan → Plan
onto none g = g
onto (tree o c r) g = tree o c g

-- the trees of some handles, if those of the numbers agree
same_forest : (ns : List Node) → ((i : ℕ) → i < length ns → decoded (at records.leaf (records.trees ns) i) ≡ plan_t (at leaf (trees ns) i))
    → (hs : List ℕ) → Below (2 * length ns) hs → map_f decode (records.forest (records.trees ns) hs) ≡ strip (forest_by (trees ns) hs)
unfolding records.forest forest_by
same_forest ns f [] b = refl
same_forest ns f (h ∷ hs) b = ap₂ onto (f (index h) (let k = b.0 in omega arith)) (same_forest ns f hs b.1)

same_trees : (ns : List Node) → Good ns → (i : ℕ) → i < length ns → decoded (at records.leaf (records.trees ns) i) ≡ plan_t (at leaf (trees ns) i)
unfolding records.trees trees
same_trees [] g i h = absurd (omega arith)
same_trees (n ∷ ns) g i h = go (ℕ_discrete i (length ns)) (λ j l. same_trees ns g.0 j l)
  where
    go : Dec (i ≡ length ns) → ((j : ℕ) → j < length ns → decoded (at records.leaf (records.trees ns) j) ≡ plan_t (at leaf (trees ns) j))
        → decoded (at records.leaf (records.trees (n ∷ ns)) i) ≡ plan_t (at leaf (trees (n ∷ ns)) i)
    go (yes e) f =
        ap decoded (at_new records.leaf _ (records.trees ns) i (e ∙ sym (laws.length-trees ns)))
        ∙ ap (λ c. tree (decode n.rec) c none) (same_forest ns f n.kids g.1.below)
        ∙ sym (ap plan_t (at_new leaf _ (trees ns) i (e ∙ sym (length-trees ns))))
    go (no q) f =
        let l : i < length ns = omega arith in
        ap decoded (at_old records.leaf _ (records.trees ns) i (let z = laws.length-trees ns in omega arith)) ∙ f i l
        ∙ sym (ap plan_t (at_old leaf _ (trees ns) i (let z = length-trees ns in omega arith)))

-- the tree of a handle
pub views : (m : List ℕ) (u h : ℕ) → Good (held m u) → h < 2 * u → map_f decode (records.tree_at (held m u) h) ≡ plan_t (tree_of m h)
views m u h g l =
    let k = length-held m u in
    same_trees (held m u) g (index h) (omega arith) ∙ ap plan_t (at_trees m u (index h) (omega arith))

-- the check of its plan, at its root and below
pub check_plan : (t : Tree) → wants_met (op_t t) (known t.kids) && check (strip t.kids) ≡ check (plan_t t)
check_plan t = ap (λ b. wants_met (op_t t) (known t.kids) && b) (go (check (strip t.kids)))
  where
    go : (b : Bool) → b ≡ b && true
    go true = refl
    go false = refl

-- the tree of a handle is settled by the nodes
pub tree-held : (m m' : List ℕ) (h : ℕ) → ((v : ℕ) → held m' v ≡ held m v) → tree_of m' h ≡ tree_of m h
unfolding tree_in
tree-held m m' h e = ap (λ ns. set_mark (marked h) (newest (trees ns))) (e (suc (index h)))
