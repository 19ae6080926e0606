-- enforce_sorting/mod.rs, replace_with_partial_sort: it works on one node. These are definitions.
use Rattle.std.specs.Prelude.{Bool, cond, ◌||◌, List, [], ◌∷◌, ◌++◌, ℕ, zero, suc, ◌-◌, eqb, ltb, length, Option}
use Rattle.row_order.specs.Iso.{Key}
use Rattle.plan.specs.Forest.{none, tree, size}
use Rattle.plan.specs.Op.{Op, sort_op, partial_sort, Plan}
use Rattle.semantics.specs.Facts.{Facts, met, facts, at0}
use Rattle.semantics.specs.Properties.{any_of, endless}
use Rattle.walks.specs.Marks.{Shape, shape, if_sort}

-- common_prefix_length: how many of the keys ks the facts meet, one after the other behind those of done, up to the first they don't
abbrev pub common_prefix_length : Facts → List Key → List Key → ℕ
common_prefix_length F done [] = 0
common_prefix_length F done (k ∷ ks) = cond (met F (done ++ (k ∷ []))) (suc (common_prefix_length F (done ++ (k ∷ [])) ks)) 0

-- n: the keys met. With none of them the sort stays (reading 11), and with all: "partial sorting of such a sort answers the tree unchanged" (02, P2);
-- the Rust indexes past the end there
abbrev pub partial_of : Bool → List Key → Option ℕ → ℕ → Op
partial_of p ks f n = cond (eqb n 0 || eqb n (length ks)) (sort_op p ks f) (partial_sort p ks n f)

-- 01, 'The four walks': it "returns a non-sort or a bounded child unchanged"
abbrev pub partial_by : Shape → Op → Plan → Op
partial_by s o c = if_sort s (λ p ks f. cond (any_of (endless c)) (partial_of p ks f (common_prefix_length (at0 (facts c)) [] ks)) o) o

-- A node o over c
abbrev pub replace_with_partial_sort : Op → Plan → Op
replace_with_partial_sort o c = partial_by (shape o) o c

-- ---- node number n, in node order

-- The node with its children, and what stands to its right; none if there is no such node
abbrev pub from_node : ℕ → Plan → Plan
from_node n none = none
from_node zero (tree o c r) = tree o c r
from_node (suc n) (tree o c r) = cond (ltb n (size c)) (from_node n c) (from_node (n - size c) r)

-- "Partial sorting changes its node's record alone; nothing above is rebuilt" (reading 11)
abbrev pub set_node : ℕ → Op → Plan → Plan
set_node n p none = none
set_node zero p (tree o c r) = tree p c r
set_node (suc n) p (tree o c r) = cond (ltb n (size c)) (tree o (set_node n p c) r) (tree o c (set_node (n - size c) p r))
