-- What the theorems and some contracts ask of trees: accepted child counts, no join, aggregate, limit or fetch, and 01's rules on every node; as types, for one root too.
use Rattle.std.specs.Prelude.{◌≡◌, true, false, map, ℕ, ◌≤◌, length}
use Rattle.plan.specs.Forest.{Forest, none, roots, tree}
use Rattle.plan.specs.Op.{coalesce, filter, global_limit, hash_join, local_limit, merge_op, Op, output_requirement, partial_sort, aggregate, Plan, projection, repartition, sort_merge_join, sort_op, source, union}
use Rattle.plan.specs.WellFormed.{node_ok}
use Rattle.semantics.specs.Facts.{facts}
use Rattle.walks.specs.Marks.{known, op_t, strip, Tree}
use Rattle.walks.specs.Counted.{constant_sort}
use Rattle.walks.specs.Terms.{bone, clear_op, Live, passing, skel}

-- ---- numbers of children
pub data Arity : Type 0 where
  no_kid one_kid two_kids many_kids : Arity

abbrev pub arity : Op → Arity
arity (source s) = no_kid
arity filter = one_kid
arity (projection cols) = one_kid
arity union = many_kids
arity (repartition p n h ks) = one_kid
arity (coalesce f) = one_kid
arity (sort_op p ks f) = one_kid
arity (merge_op ks f) = one_kid
arity (global_limit s f note) = one_kid
arity (local_limit f note) = one_kid
arity (sort_merge_join t on) = two_kids
arity (hash_join t on) = two_kids
arity (output_requirement ks d f) = one_kid
arity (partial_sort p ks n f) = one_kid
arity (aggregate ks n) = one_kid

abbrev pub FitsA : Arity → ℕ → Type 0
FitsA no_kid n = n ≡ 0
FitsA one_kid n = n ≡ 1
FitsA two_kids n = n ≡ 2
FitsA many_kids n = (2 ≤ n) × (n ≤ 8)

abbrev pub count : {A : Type 0} → Forest A → ℕ
count f = length (roots f)

-- Every node has a child count that its kind can have
abbrev pub Fit : Plan → Type 0
Fit none = Unit {0}
Fit (tree o c r) = FitsA (arity o) (count c) × Fit c × Fit r

-- ---- no join, no aggregate, no limit, no fetch, as a type
abbrev pub Pure : Plan → Type 0
Pure none = Unit {0}
Pure (tree o c r) = (clear_op o ≡ true) × Pure c × Pure r

-- ---- 01's rules on every node, by the facts' widths
abbrev pub Ok : Plan → Type 0
Ok none = Unit {0}
Ok (tree o c r) = (node_ok o (map (λ F. F.width) (facts c)) ≡ true) × Ok c × Ok r

-- ---- of one tree
abbrev pub FitT : Tree → Type 0
FitT t = FitsA (arity (op_t t)) (count (strip t.kids)) × Fit (strip t.kids)

abbrev pub PureT : Tree → Type 0
PureT t = (clear_op (op_t t) ≡ true) × Pure (strip t.kids)

abbrev pub OkT : Tree → Type 0
OkT t = (node_ok (op_t t) (map (λ F. F.width) (known t.kids)) ≡ true) × Ok (strip t.kids)

abbrev pub LiveT : Tree → Type 0
LiveT t = (constant_sort (op_t t) (strip t.kids) ≡ false) × Live (strip t.kids)

abbrev pub skel_t : Tree → Plan
skel_t t = bone passing (op_t t) (skel (strip t.kids))
