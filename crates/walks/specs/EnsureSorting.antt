-- enforce_sorting/mod.rs, ensuring: update_sort_ctx_children_data, remove_corresponding_sort_from_sub_plan,
-- update_child_to_remove_unnecessary_sort, analyze_immediate_sort_removal, ensure_sorting. These are definitions.
use Rattle.std.specs.Prelude.{Bool, true, false, cond, not, ◌&&◌, ◌||◌, List, [], ◌∷◌, ℕ, suc, eqb, ltb, leb, length, Option, Some, None}
use Rattle.row_order.specs.Iso.{Key}
use Rattle.plan.specs.Forest.{Forest, none, tree, roots}
use Rattle.plan.specs.Op.{Op, coalesce, merge_op, global_limit, local_limit, Plan}
use Rattle.semantics.specs.Facts.{met, is_nil, at0, known_order}
use Rattle.semantics.specs.Properties.{wanted, singles, maintains, is_limit, remark}
use Rattle.walks.specs.Marks.{Marked, Tree, strip, known, at, node, plant, over, op_t, fact, fetch_t, set_mark, kid0, unmark, any_mark, any_below, Shape, shape, if_sort, if_merge, if_repartition, rebuild, transform_up}
use Rattle.walks.specs.Utils.{is_sort, is_sort_preserving_merge, add_sort_above}
use Rattle.walks.specs.OutputRequirements.{output_fetch}

-- ---- update_sort_ctx_children_data

-- The mark of a node o over c: connected to a sort. 01's trap: "the Rust takes any maintained input with any connected child"
abbrev pub connected : Op → Forest Marked → Bool
connected o c =
    cond (is_sort o) true
    (cond (is_limit o) false
    (any_mark c && any_below (length (roots c)) (λ i. (maintains o (known c) i && is_nil (wanted o i)) || is_sort_preserving_merge o)))

abbrev pub connected_each : Forest Marked → Forest Marked
connected_each none = none
connected_each (tree m c r) = tree (record { op = m.op; mark = connected m.op c }) c (connected_each r)

abbrev pub update_sort_ctx_children_data : Bool → Tree → Tree
update_sort_ctx_children_data b t = node (op_t t) b (connected_each t.kids)

-- ---- remove_corresponding_sort_from_sub_plan

-- "If there is existing ordering .. use SortPreservingMergeExec instead of a CoalescePartitionsExec": the known order, in normal
-- form (reading 7), with the plan's fetch
abbrev pub single_stream_op : List Key → Option ℕ → Op
single_stream_op [] f = coalesce None
single_stream_op (k ∷ ks) f = merge_op (k ∷ ks) f

-- s: a single stream is required
abbrev pub with_single_stream : Bool → Tree → Tree
with_single_stream s t = cond (s && ltb 1 (fact t).streams)
    (update_sort_ctx_children_data false (over (single_stream_op (known_order (fact t)) (fetch_t t)) false t)) t

-- "Replace with variants that do not preserve order."
abbrev pub loosen : Shape → Tree → Tree
loosen s t =
    if_merge s (λ ks f. set_mark t.top.mark (kid0 t t.kids))
    (if_repartition s (λ p n h ks. node (remark (λ q. false) (op_t t)) t.top.mark t.kids) t)

-- A node m over c, whose connected children became d: rebuilt, its children's marks put right "if any_connection || children.is_empty()"
abbrev pub updated_after_removal : Marked → Forest Marked → Forest Marked → Tree
updated_after_removal m c d =
    cond (any_mark c || is_nil (roots c)) (update_sort_ctx_children_data false (rebuild m.op m.mark d)) (rebuild m.op m.mark d)

-- "Do not remove sorts with fetch"
abbrev pub drop_sort : Option ℕ → Tree → Tree
drop_sort None t = kid0 t t.kids
drop_sort (Some n) t = t

abbrev pub remove_by : Shape → Marked → Forest Marked → Forest Marked → Tree
remove_by s m c d = if_sort s (λ p ks f. drop_sort f (at m c)) (loosen s (updated_after_removal m c d))

abbrev pub remove_top : Bool → Marked → Forest Marked → Forest Marked → Tree
remove_top s m c d = with_single_stream s (remove_by (shape m.op) m c d)

-- Each connected root; q n: a single stream is required of root n
abbrev pub remove_kids : (ℕ → Bool) → Forest Marked → Forest Marked
remove_kids q none = none
remove_kids q (tree m c r) =
    plant (cond m.mark (remove_top (q 0) m c (remove_kids (singles m.op) c)) (at m c)) (remove_kids (λ i. q (suc i)) r)

abbrev pub remove_corresponding_sort_from_sub_plan : Bool → Tree → Tree
remove_corresponding_sort_from_sub_plan s t = remove_top s t.top t.kids (remove_kids (singles (op_t t)) t.kids)

-- ---- update_child_to_remove_unnecessary_sort: s, the parent requires a single stream of this child

abbrev pub update_child_to_remove_unnecessary_sort : Bool → Tree → Tree
update_child_to_remove_unnecessary_sort s t = set_mark false (cond t.top.mark (remove_corresponding_sort_from_sub_plan s t) t)

-- ---- analyze_immediate_sort_removal: of a sort t over c, whose known order c meets (met of no order holds)

-- The note of a new limit in the place of t: its known order, in normal form (reading 7)
abbrev pub limit_note : Tree → List Key
limit_note t = known_order (fact t)

-- "If the sort has a fetch, we need to add a limit": 01's trap, a sort's fetch is not lost along with the sort
abbrev pub limited : Option ℕ → Tree → Tree → Tree
limited None t c = node (op_t c) false (unmark c.kids)
limited (Some n) t c =
    over (cond (eqb (fact t).streams 1) (global_limit 0 (Some n) (limit_note t)) (local_limit (Some n) (limit_note t))) false (set_mark false c)

-- "Replace the sort with a sort-preserving merge": 01's trap, of the sort's own keys and not of the known order
abbrev pub analyze_immediate_sort_removal : Bool → List Key → Option ℕ → Tree → Tree → Tree
analyze_immediate_sort_removal p ks f t c = cond (not p && ltb 1 (fact c).streams) (over (merge_op ks f) false (set_mark false c)) (limited f t c)

-- ---- the loop of ensure_sorting over the children

-- ks: the required order, none if empty; b: the node maintains this child's order (asked before its children change, reading 9);
-- s: it requires a single stream; f: the fetch of a new sort
abbrev pub ensure_child : List Key → Bool → Bool → Option ℕ → Tree → Tree
ensure_child [] b s f t = cond (is_nil (known_order (fact t)) || not b) (update_child_to_remove_unnecessary_sort s t) t
ensure_child (k ∷ ks) b s f t =
    cond (met (fact t) (k ∷ ks)) t
    (update_sort_ctx_children_data true (add_sort_above (k ∷ ks) f (cond (is_nil (known_order (fact t))) t (update_child_to_remove_unnecessary_sort s t))))

abbrev pub ensure_each : (ℕ → List Key) → (ℕ → Bool) → (ℕ → Bool) → Option ℕ → Forest Marked → Forest Marked
ensure_each ks b s f none = none
ensure_each ks b s f (tree m c r) =
    plant (ensure_child (ks 0) (b 0) (s 0) f (at m c)) (ensure_each (λ i. ks (suc i)) (λ i. b (suc i)) (λ i. s (suc i)) f r)

abbrev pub ensured_kids : Op → Forest Marked → Forest Marked
ensured_kids o c = ensure_each (wanted o) (maintains o (known c)) (singles o) (output_fetch o) c

-- The node over its children after the loop
abbrev pub after_loop : Tree → Tree
after_loop t = rebuild (op_t t) false (ensured_kids (op_t t) t.kids)

-- "This SortPreservingMergeExec is unnecessary because its input has a single partition."
abbrev pub unmerged : Option ℕ → Tree → Tree
unmerged None t = kid0 t t.kids
unmerged (Some n) t = node (local_limit (Some n) (limit_note t)) false t.kids

-- ---- ensure_sorting: the step at one node

abbrev pub finish : Shape → Tree → Tree
finish s t =
    let settled : Tree = update_sort_ctx_children_data false t in
    if_merge s (λ ks f. cond (leb (at0 (known t.kids)).streams 1) (unmerged f t) settled) settled

abbrev pub ensure_by : Shape → Tree → Tree
ensure_by s t =
    let looped : Tree = finish s (after_loop t) in
    let unneeded : Bool = met (at0 (known t.kids)) (known_order (fact t)) in
    if_sort s (λ p ks f. cond unneeded (analyze_immediate_sort_removal p ks f t (kid0 t t.kids)) looped) looped

abbrev pub ensure_marked : Tree → Tree
ensure_marked t = cond (is_nil (roots t.kids)) t (ensure_by (shape (op_t t)) t)

abbrev pub ensure_sorting : Tree → Tree
ensure_sorting t = ensure_marked (update_sort_ctx_children_data false t)

-- 01, 'The four walks': ensure
abbrev pub ensure : Plan → Plan
ensure f = strip (transform_up ensure_sorting f)
