-- What the theorems ask of trees: accepted child counts, no join, aggregate, limit or fetch, and 01's rules on every node; as types, for one root too.
-- The reader's own test is nodes_ok of the plan crate: `ok_of`, `ok_to`.
use Rattle.std.specs.Prelude.{◌≡◌, refl, true, not, ◌&&◌, List, map, ℕ, suc, ◌+◌, ◌≤◌, length}
use Rattle.std.proofs.Common.{sym, ap, ap₂, ◌∙◌, subst, eqb-true, leb-true}
use Rattle.plan.specs.Forest.{Forest, none, size, tree}
use Rattle.plan.specs.Op.{coalesce, filter, global_limit, hash_join, local_limit, merge_op, Op, output_requirement, partial_sort, aggregate, Plan, projection, repartition, sort_merge_join, sort_op, source, union}
use Rattle.plan.specs.WellFormed.{between, children_ok, node_ok, nodes_ok}
use Rattle.semantics.specs.Facts.{facts}
use Rattle.semantics.specs.Properties.{is_limit, simple_op}
use Rattle.semantics.proofs.Theorems.Common.Bools.{and_left, and_right}
use Rattle.semantics.specs.Bags.{simple_plan}
use Rattle.semantics.proofs.Theorems.Facts.Fits.{facts-widths}
use Rattle.walks.specs.Marks.{Marked, strip}
use Rattle.walks.specs.Terms.{clear}
use Rattle.walks.proofs.Theorems.Common.Lists.{map-length}
use Rattle.walks.specs.Trees.{arity, FitsA, count, Fit, Pure, Ok}

pub pure_clear : (f : Plan) → Pure f → clear f ≡ true
pure_clear none p = refl
pure_clear (tree o c r) p = ap₂ ◌&&◌ p.0 (ap₂ ◌&&◌ (pure_clear c p.1) (pure_clear r p.2))

pub clear_pure : (f : Plan) → clear f ≡ true → Pure f
clear_pure none e = tt
clear_pure (tree o c r) e = (search and_left, clear_pure c (search (and_left, and_right)), clear_pure r (search (and_left, and_right)))

pub pure_simple : (f : Plan) → Pure f → simple_plan f ≡ true
pure_simple none p = refl
pure_simple (tree o c r) p = ap₂ ◌&&◌ (and_left (simple_op o) (not (is_limit o)) p.0) (ap₂ ◌&&◌ (pure_simple c p.1) (pure_simple r p.2))

pub ok_of : (f : Plan) → nodes_ok f ≡ true → Ok f
ok_of none e = tt
ok_of (tree o c r) e = (ap (node_ok o) (facts-widths c) ∙ search and_left, ok_of c (search (and_left, and_right)), ok_of r (search (and_left, and_right)))

pub ok_to : (f : Plan) → Ok f → nodes_ok f ≡ true
ok_to none h = refl
ok_to (tree o c r) h = ap₂ ◌&&◌ (sym (ap (node_ok o) (facts-widths c)) ∙ h.0) (ap₂ ◌&&◌ (ok_to c h.1) (ok_to r h.2))

-- ---- the reader's child counts
between_le : (n : ℕ) → between 2 8 n ≡ true → (2 ≤ n) × (n ≤ 8)
between_le n e = (leb-true 2 n (search and_left), leb-true n 8 (search and_right))

pub children_fit : (o : Op) (n : ℕ) → children_ok o n ≡ true → FitsA (arity o) n
children_fit (source s) n e = eqb-true n 0 e
children_fit filter n e = eqb-true n 1 e
children_fit (projection cols) n e = eqb-true n 1 e
children_fit union n e = between_le n e
children_fit (repartition p m h ks) n e = eqb-true n 1 e
children_fit (coalesce f) n e = eqb-true n 1 e
children_fit (sort_op p ks f) n e = eqb-true n 1 e
children_fit (merge_op ks f) n e = eqb-true n 1 e
children_fit (global_limit s f note) n e = eqb-true n 1 e
children_fit (local_limit f note) n e = eqb-true n 1 e
children_fit (sort_merge_join t on) n e = eqb-true n 2 e
children_fit (hash_join t on) n e = eqb-true n 2 e
children_fit (output_requirement ks d f) n e = eqb-true n 1 e
children_fit (partial_sort p ks m f) n e = eqb-true n 1 e
children_fit (aggregate ks m) n e = eqb-true n 1 e

pub facts-count : (f : Plan) → length (facts f) ≡ count f
facts-count none = refl
facts-count (tree o c r) = ap suc (facts-count r)

pub ok_fit : (f : Plan) → Ok f → Fit f
ok_fit none h = tt
ok_fit (tree o c r) h =
    let ws : List ℕ = map (λ F. F.width) (facts c) in
    let e : children_ok o (length ws) ≡ true = search (and_left, and_right) in
    (subst (FitsA (arity o)) (map-length (λ F. F.width) (facts c) ∙ facts-count c) (children_fit o (length ws) e), ok_fit c h.1, ok_fit r h.2)

-- marks taken off, a forest is as large
pub strip-size : (c : Forest Marked) → size (strip c) ≡ size c
strip-size none = refl
strip-size (tree m c r) = ap₂ (λ (x y : ℕ). suc (x + y)) (strip-size c) (strip-size r)
