-- replace_with_order_preserving_variants.rs. These are definitions.
use Rattle.std.specs.Prelude.{Bool, true, false, cond, not, ◌&&◌, ◌||◌, List, ℕ, suc, get_or, Option, Some, None, is_some}
use Rattle.row_order.specs.Iso.{Key}
use Rattle.plan.specs.Forest.{Forest, none, tree, roots}
use Rattle.plan.specs.Op.{Op, repartition, coalesce, merge_op, Plan}
use Rattle.semantics.specs.Facts.{Facts, met, is_nil, keeps_order, nothing, at0, known_order}
use Rattle.semantics.specs.Properties.{wanted, maintains, cuts, any_of, endless, is_final}
use Rattle.walks.specs.Marks.{Marked, Tree, strip, known, at, node, plant, op_t, fact, kid0, unmark, any_mark, head_mark, Shape, shape, if_sort, if_merge, if_repartition, if_coalesce, rebuild, transform_up}
use Rattle.walks.specs.Utils.{is_sort_preserving_merge, is_coalesce_partitions, is_repartition}

-- ---- update_order_preservation_ctx_children_data

-- inspect_child, of child number i of a node o whose children have facts fs
abbrev pub inspect_child : Op → List Facts → ℕ → Bool
inspect_child o fs i = maintains o fs i || (is_coalesce_partitions o || is_repartition o)

-- "We cut the path towards nodes that do not maintain ordering."
abbrev pub masked : (ℕ → Bool) → Forest Marked → Forest Marked
masked p none = none
masked p (tree m c r) = tree (record { op = m.op; mark = m.mark && p 0 }) c (masked (λ i. p (suc i)) r)

abbrev pub inspected : Op → Forest Marked → Forest Marked
inspected o c = masked (inspect_child o (known c)) c

-- "We either have a RepartitionExec or a CoalescePartitionsExec and they lose their input ordering, so initiate connection"
abbrev pub initiates : Op → List Facts → Bool
initiates o fs = (is_repartition o && not (maintains o fs 0)) || (is_coalesce_partitions o && not (is_nil (known_order (at0 fs))))

-- The mark of a node o over children c whose marks are cut. The Rust initiates a connection only where
-- children[0] has none: where it has one, some child has one, and the mark is true anyway
abbrev pub carries : Op → Forest Marked → Bool
carries o c =
    cond (is_nil (roots c) || (is_coalesce_partitions o && is_some (cuts o).fetch)) false (any_mark c || initiates o (known c))

abbrev pub carry_each : Forest Marked → Forest Marked
carry_each none = none
carry_each (tree m c r) = tree (record { op = m.op; mark = carries m.op (inspected m.op c) }) (inspected m.op c) (carry_each r)

abbrev pub update_order_preservation_ctx_children_data : Tree → Tree
update_order_preservation_ctx_children_data t = node (op_t t) false (carry_each t.kids)

-- ---- plan_with_order_preserving_variants: f is the sort's fetch; a node m over c, whose connected children became d

abbrev pub mark_first : Bool → Forest Marked → Forest Marked
mark_first b none = none
mark_first b (tree m c r) = tree (record { op = m.op; mark = b }) c r

-- "replace it with a SortPreservingMergeExec if appropriate": of the child's known order, in normal form (reading 7)
abbrev pub merge_over : Bool → Option ℕ → Marked → Forest Marked → Tree
merge_over spm f m d =
    cond (spm && not (is_nil (known_order (at0 (known d))))) (node (merge_op (known_order (at0 (known d))) f) false (mark_first true d))
    (rebuild m.op false d)

-- "A fetched coalesce selects rows in arrival order": it stays, and nothing below it is entered
abbrev pub preserve_coalesce : Option ℕ → Bool → Option ℕ → Marked → Forest Marked → Forest Marked → Tree
preserve_coalesce None spm f m c d = merge_over spm f m d
preserve_coalesce (Some n) spm f m c d = node m.op false c

-- with_preserve_order, on a new repartition: the mark stays where it counts. Whether the old one maintains is asked before its
-- children change (reading 9)
abbrev pub preserve_by : Shape → Bool → Bool → Option ℕ → Marked → Forest Marked → Forest Marked → Tree
preserve_by s spr spm f m c d =
    let kept : Tree = rebuild m.op false d in
    if_repartition s (λ p n h ks. cond (not (keeps_order p (at0 (known c))) && spr) (rebuild (repartition true n h ks) false (mark_first true d)) kept)
    (if_coalesce s (λ g. preserve_coalesce g spm f m c d) kept)

abbrev pub preserve_each : Bool → Bool → Option ℕ → Forest Marked → Forest Marked
preserve_each spr spm f none = none
preserve_each spr spm f (tree m c r) =
    plant (cond m.mark (preserve_by (shape m.op) spr spm f m c (preserve_each spr spm f c)) (at m c)) (preserve_each spr spm f r)

abbrev pub plan_with_order_preserving_variants : Bool → Bool → Option ℕ → Tree → Tree
plan_with_order_preserving_variants spr spm f t = preserve_by (shape (op_t t)) spr spm f t.top t.kids (preserve_each spr spm f t.kids)

-- ---- plan_with_order_breaking_variants: a node m over c, whose entered children became d

-- "Replace with non-order preserving variants as long as ordering is not required by intermediate operators"
abbrev pub enters : Op → List Facts → ℕ → Bool
enters o fs i = maintains o fs i && (is_sort_preserving_merge o || (is_nil (wanted o i) || not (met (get_or fs i nothing) (wanted o i))))

abbrev pub break_by : Shape → Marked → Forest Marked → Forest Marked → Tree
break_by s m c d =
    let kept : Tree = rebuild m.op false d in
    if_repartition s (λ p n h ks. cond (keeps_order p (at0 (known c))) (node (repartition false n h ks) false (mark_first false d)) kept)
    (if_merge s (λ ks f. node (coalesce f) false (mark_first false d)) kept)

-- q n: root n is entered
abbrev pub break_each : (ℕ → Bool) → Forest Marked → Forest Marked
break_each q none = none
break_each q (tree m c r) =
    plant (cond (q 0) (break_by (shape m.op) m c (break_each (enters m.op (known c)) c)) (at m c)) (break_each (λ i. q (suc i)) r)

abbrev pub plan_with_order_breaking_variants : Tree → Tree
plan_with_order_breaking_variants t = break_by (shape (op_t t)) t.top t.kids (break_each (enters (op_t t) (known t.kids)) t.kids)

-- ---- replace_with_order_preserving_variants: the step at one node

-- 01, 'The four walks': "settings: spr better, spm better, prefer existing"
pub record Settings : Type 0 where
  pub spr : Bool
  pub spm : Bool
  pub prefer : Bool

-- use_order_preserving_variant, of a sort t with keys ks over c
abbrev pub use_order_preserving_variant : Settings → List Key → Tree → Tree → Bool
use_order_preserving_variant s ks t c = s.prefer || (any_of (endless (strip t.kids)) && is_final (fact c) ks)

abbrev pub alternate_plan : Settings → List Key → Option ℕ → Tree → Tree → Tree
alternate_plan s ks f t c =
    plan_with_order_preserving_variants (s.spr || use_order_preserving_variant s ks t c) (s.spm || use_order_preserving_variant s ks t c) f c

-- "If the alternate plan makes this sort unnecessary, accept the alternate". Otherwise the tree stays as it was (reading 2): the
-- Rust puts plan_with_order_breaking_variants of the alternative into the context's children and never into the plan, and the
-- sort above cuts every later path to that context; so that result is not used here either
abbrev pub accepted : Tree → Tree → Tree
accepted t a = cond (met (fact a) (known_order (fact t))) (node (op_t a) a.top.mark (unmark a.kids)) t

abbrev pub replace_by : Shape → Settings → Tree → Tree
replace_by z s t = if_sort z (λ p ks f. cond (head_mark t.kids) (accepted t (alternate_plan s ks f t (kid0 t t.kids))) t) t

abbrev pub replace_with_order_preserving_variants : Settings → Tree → Tree
replace_with_order_preserving_variants s t = replace_by (shape (op_t t)) s (update_order_preservation_ctx_children_data t)

-- 01, 'The four walks': order-preserving
abbrev pub preserve : Settings → Plan → Plan
preserve s f = strip (transform_up (replace_with_order_preserving_variants s) f)
