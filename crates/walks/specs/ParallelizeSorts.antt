-- enforce_sorting/mod.rs, parallelizing: update_coalesce_ctx_children, remove_bottleneck_in_subplan, get_sort_exprs,
-- parallelize_sorts. These are definitions.
use Rattle.std.specs.Prelude.{Bool, true, false, cond, not, ◌&&◌, ◌||◌, List, ℕ, suc, eqb, leb, length, Option, is_some}
use Rattle.std.specs.Bool.{beq}
use Rattle.row_order.specs.Iso.{Key}
use Rattle.plan.specs.Forest.{Forest, none, tree, roots}
use Rattle.plan.specs.Op.{Op, coalesce, merge_op, Plan}
use Rattle.semantics.specs.Facts.{prefixb, is_nil, at0}
use Rattle.semantics.specs.Properties.{singles, cuts}
use Rattle.walks.specs.Marks.{Marked, Tree, strip, known, at, plant, over, op_t, fact, set_mark, kid0, head_mark, Shape, shape, if_sort, if_merge, if_repartition, if_coalesce, rebuild, transform_up}
use Rattle.walks.specs.Utils.{is_coalesce_partitions, add_sort_above_with_check}

-- ---- update_coalesce_ctx_children

-- Some marked child where p holds of its number
abbrev pub any_mark_at : (ℕ → Bool) → Forest Marked → Bool
any_mark_at p none = false
any_mark_at p (tree m c r) = (m.mark && p 0) || any_mark_at (λ i. p (suc i)) r

-- "A fetched coalesce selects rows before the sort": it is no bottleneck
abbrev pub bottleneck : Op → Bool
bottleneck o = is_coalesce_partitions o && not (is_some (cuts o).fetch)

-- The mark of a node o over c
abbrev pub update_coalesce_ctx_children : Op → Forest Marked → Bool
update_coalesce_ctx_children o c =
    cond (is_nil (roots c)) false (cond (is_coalesce_partitions o) (bottleneck o) (any_mark_at (λ i. not (singles o i)) c))

-- ---- equal partitionings (reading 5): two repartitions of equal streams, hash mark and key list

pub data Partitioning : Type 0 where
  unequal : Partitioning
  parted : ℕ → Bool → List Key → Partitioning

abbrev pub partitioning : Shape → Partitioning
partitioning s = if_repartition s (λ p n h ks. parted n h ks) unequal

abbrev pub eq_keys : List Key → List Key → Bool
eq_keys ks ls = prefixb ks ls && eqb (length ks) (length ls)

abbrev pub eq_partitioning : Partitioning → Partitioning → Bool
eq_partitioning unequal q = false
eq_partitioning (parted n h ks) unequal = false
eq_partitioning (parted n h ks) (parted m g ls) = eqb n m && (beq h g && eq_keys ks ls)

abbrev pub same_partitioning : Op → Op → Bool
same_partitioning o p = eq_partitioning (partitioning (shape o)) (partitioning (shape p))

-- ---- remove_bottleneck_in_subplan

-- The `while`: the first tree below d, past repartitions that are o's equals
abbrev pub skip_same : Op → Tree → Forest Marked → Tree
skip_same o d none = d
skip_same o d (tree m c r) = cond (same_partitioning o m.op) (skip_same o (at m c) c) (at m c)

abbrev pub first_is : (Op → Bool) → Forest Marked → Bool
first_is p none = false
first_is p (tree m c r) = p m.op

-- The first child, a coalesce, gives its place to what stands below it
abbrev pub lift_first : Op → Forest Marked → Forest Marked
lift_first o none = none
lift_first o (tree m c r) = plant (skip_same o (at m c) c) r

-- The children of o, which were c, their connected ones being rewritten to d; b: the first child is removable
abbrev pub first_bottleneck_removed : Bool → Op → Forest Marked → Forest Marked → Forest Marked
first_bottleneck_removed b o c d = cond (first_is bottleneck c && b) (lift_first o c) d

-- "We can remove this repartitioning operator if it is now a no-op .. also .. if we ended up with an ineffective RR": round robin
-- goes by the number of streams alone (reading 5)
abbrev pub idle : Shape → Op → Forest Marked → Bool
idle s o d = if_repartition s (λ p n h ks. (not h && eqb n (at0 (known d)).streams) || first_is (same_partitioning o) d) false

abbrev pub without_idle : Marked → Forest Marked → Tree
without_idle m d = cond (idle (shape m.op) m.op d) (kid0 (rebuild m.op m.mark d) d) (rebuild m.op m.mark d)

-- remove_bottleneck_in_subplan_impl on each connected root; q n: root n is removable, its parent requires no single stream of it
abbrev pub remove_bottleneck_in_subplan_impl : (ℕ → Bool) → Forest Marked → Forest Marked
remove_bottleneck_in_subplan_impl q none = none
remove_bottleneck_in_subplan_impl q (tree m c r) =
    plant (cond (m.mark && q 0) (without_idle m
    (first_bottleneck_removed (not (singles m.op 0)) m.op c (remove_bottleneck_in_subplan_impl (λ i. not (singles m.op i)) c))) (at m c))
    (remove_bottleneck_in_subplan_impl (λ i. q (suc i)) r)

-- is_root: "Its own distribution requirement does not constrain the removal". The root is a sort, a merge or a coalesce, so the
-- test for idle repartitions has no place here
abbrev pub bottlenecks_removed : Tree → Forest Marked
bottlenecks_removed t = first_bottleneck_removed true (op_t t) t.kids (remove_bottleneck_in_subplan_impl (λ i. true) t.kids)

abbrev pub remove_bottleneck_in_subplan : Tree → Tree
remove_bottleneck_in_subplan t = rebuild (op_t t) t.top.mark (bottlenecks_removed t)

-- "We also need to remove the self node"
abbrev pub without_self : Tree → Tree
without_self t = kid0 (remove_bottleneck_in_subplan t) (bottlenecks_removed t)

-- ---- parallelize_sorts: the step at one node

-- get_sort_exprs: the keys and fetch of a sort or a merge, as written (reading 7); or what holds of every other kind
abbrev pub get_sort_exprs : {A : Type 0} → Shape → (List Key → Option ℕ → A) → A → A
get_sort_exprs s g x = if_sort s (λ p ks f. g ks f) (if_merge s g x)

-- "replace the CoalescePartitionsExec + SortExec cascade with a SortExec + SortPreservingMergeExec cascade"
abbrev pub cascade : List Key → Option ℕ → Tree → Tree
cascade ks f t = cond (leb (fact t).streams 1) (over (merge_op ks f) false (add_sort_above_with_check ks f (without_self t))) t

abbrev pub parallel_by : Shape → Tree → Tree
parallel_by s t = get_sort_exprs s (λ ks f. cascade ks f t) (if_coalesce s (λ f. over (coalesce f) false (without_self t)) t)

-- "if the first child has no connection, we can return immediately"
abbrev pub parallel_marked : Tree → Tree
parallel_marked t = cond (head_mark t.kids) (parallel_by (shape (op_t t)) t) t

abbrev pub parallelize_sorts : Tree → Tree
parallelize_sorts t = parallel_marked (set_mark (update_coalesce_ctx_children (op_t t) t.kids) t)

-- 01, 'The four walks': parallelize
abbrev pub parallelize : Plan → Plan
parallelize f = strip (transform_up parallelize_sorts f)
