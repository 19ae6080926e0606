-- Parallelizing keeps the skeleton with its limits, the child counts, 01's rules, that nothing is cut off, and that no sort has all-constant keys.
use Rattle.std.specs.Prelude.{◌≡◌, refl, Bool, true, false, cond, not, ◌&&◌, List, [], ◌∷◌, map, ℕ, suc, leb, length, Option}
use Rattle.std.proofs.Common.{sym, ap, ap₂, ◌∙◌, subst, arith, eqb-true, le-leb}
use Rattle.row_order.specs.Iso.{Key}
use Rattle.row_order.proofs.Order.{no_bool}
use Rattle.plan.specs.Forest.{Forest, none, roots, tree}
use Rattle.plan.specs.Op.{coalesce, filter, global_limit, hash_join, local_limit, merge_op, Op, output_requirement, partial_sort, aggregate, Plan, projection, repartition, sort_merge_join, sort_op, source, union}
use Rattle.plan.specs.Numbers.{code}
use Rattle.plan.specs.WellFormed.{fetch_ok, keys_fit, node_ok}
use Rattle.semantics.specs.Facts.{Facts, facts_op, met}
use Rattle.semantics.specs.Properties.{fresh_keys, remark, singles, is_all}
use Rattle.semantics.specs.Runs.{Each, Env, Run, SameInputs, Streams}
use Rattle.semantics.proofs.Theorems.Common.Bools.{and_left, and_right}
use Rattle.semantics.specs.Bags.{SameRows}
use Rattle.walks.specs.Marks.{at, fact, head_mark, kid0, known, Marked, node, op_t, rebuild, set_mark, Shape, shape, strip, transform_up, Tree}
use Rattle.walks.specs.Utils.{add_sort_above_with_check}
use Rattle.walks.specs.ParallelizeSorts.{bottleneck, cascade, eq_partitioning, first_is, without_self, idle, lift_first, remove_bottleneck_in_subplan_impl, first_bottleneck_removed, bottlenecks_removed, parallel_by, parallelize, parallelize_sorts, parted, Partitioning, partitioning, remove_bottleneck_in_subplan, same_partitioning, without_idle, skip_same, unequal, update_coalesce_ctx_children}
use Rattle.walks.specs.Terms.{clear, passing}
use Rattle.walks.proofs.Theorems.Common.Skeleton.{pass_ease}
use Rattle.walks.proofs.Theorems.Common.Base.{ease_blank}
use Rattle.walks.specs.Trees.{Arity, arity, count, Fit, FitsA, FitT, OkT, PureT}
use Rattle.walks.proofs.Theorems.Common.Keys.{fresh_keys_lem, keys_of_lem, KeysFit}
use Rattle.walks.proofs.Theorems.Common.NewNodes.{coalesce_ok, narrow_t, node_fetch}
use Rattle.walks.proofs.Theorems.Common.Keeps.{all_kept_none, all_kept_refl, Keeps, KeepsAll, kept_cond, kept_first, kept_kid, kept_mark, kept_over, kept_plant, kept_rebuild, kept_refl, kept_sort_above, kept_trans, op_fetch, pass_one, remark-same, shape_ind, uncut_fetch, walk_kept}
use Rattle.walks.proofs.Theorems.Common.Rows.{kept_plan, same_plan_rows, SamePlan}

-- What has a partitioning is a repartition
pub part_pass : (o p : Op) → same_partitioning o p ≡ true → passing p ≡ true
part_pass o p e = go (partitioning (shape o)) p e
  where
    no : (a : Partitioning) → eq_partitioning a unequal ≡ false
    no unequal = refl
    no (parted n h ks) = refl

    go : (a : Partitioning) (q : Op) → eq_partitioning a (partitioning (shape q)) ≡ true → passing q ≡ true
    go a (source s) e = no_bool (sym (no a) ∙ e)
    go a filter e = no_bool (sym (no a) ∙ e)
    go a (projection cols) e = no_bool (sym (no a) ∙ e)
    go a union e = no_bool (sym (no a) ∙ e)
    go a (repartition p n h ks) e = refl
    go a (coalesce f) e = refl
    go a (sort_op p ks f) e = refl
    go a (merge_op ks f) e = refl
    go a (global_limit s f note) e = no_bool (sym (no a) ∙ e)
    go a (local_limit f note) e = no_bool (sym (no a) ∙ e)
    go a (sort_merge_join t on) e = no_bool (sym (no a) ∙ e)
    go a (hash_join t on) e = no_bool (sym (no a) ∙ e)
    go a (output_requirement ks d f) e = no_bool (sym (no a) ∙ e)
    go a (partial_sort p ks n f) e = no_bool (sym (no a) ∙ e)
    go a (aggregate ks n) e = no_bool (sym (no a) ∙ e)

pub skip_kept : {b h : Bool} (o p : Op) (x : Bool) (c : Forest Marked) → passing p ≡ true → FitsA (arity p) (count (strip c)) → Fit (strip c)
    → Keeps false b h (node p x c) (skip_same o (node p x c) c)
skip_kept o p x none e f g = kept_refl (node p x none) (f, g)
skip_kept {b} {h} o p x (tree m c r) e f g = go (same_partitioning o m.op) refl (λ i. skip_kept o m.op m.mark c i g.0 g.1)
  where
    k : Keeps false b h (node p x (tree m c r)) (at m c)
    k = kept_kid p x (tree m c r) e f g

    go : (y : Bool) → same_partitioning o m.op ≡ y → (passing m.op ≡ true → Keeps false b h (at m c) (skip_same o (at m c) c))
        → Keeps false b h (node p x (tree m c r)) (cond y (skip_same o (at m c) c) (at m c))
    go true i ih = kept_trans k (ih (part_pass o m.op i))
    go false i ih = k

pub bottleneck-pass : (o : Op) → bottleneck o ≡ true → passing o ≡ true
bottleneck-pass o e = ap (λ (n : ℕ). leb 5 n && leb n 8) (eqb-true (code o) 6 (search and_left))

lift_kept : {b h : Bool} (o : Op) (c : Forest Marked) → first_is bottleneck c ≡ true → Fit (strip c) → KeepsAll false b h c (lift_first o c)
lift_kept o none e g = all_kept_none
lift_kept o (tree m c r) e g = kept_plant (skip_kept o m.op m.mark c (bottleneck-pass m.op e) g.0 g.1) (all_kept_refl r g.2)

pub first_removed_kept : {b h : Bool} (x : Bool) (o : Op) (c d : Forest Marked) → Fit (strip c) → KeepsAll false b h c d
    → KeepsAll false b h c (first_bottleneck_removed x o c d)
first_removed_kept {b} {h} x o c d g k = go (first_is bottleneck c) refl x
  where
    go : (y : Bool) → first_is bottleneck c ≡ y → (z : Bool) → KeepsAll false b h c (cond (y && z) (lift_first o c) d)
    go true e true = lift_kept o c e g
    go true e false = k
    go false e z = k

-- A node that is idle is a repartition
idle-pass : (o : Op) (d : Forest Marked) → idle (shape o) o d ≡ true → passing o ≡ true
idle-pass o d = shape_ind (λ p. idle (shape p) p d ≡ true → passing p ≡ true) (λ p ks f e. refl) (λ ks f e. refl) (λ p n h ks e. refl) (λ f e. refl)
    (λ p s e. no_bool (sym (ap (λ (z : Shape). idle z p d) s) ∙ e)) o

pass-remark : (g : Bool → Bool) (o : Op) → passing (remark g o) ≡ passing o
pass-remark g o = remark-same passing g (λ p q n h ks. refl) o

pub idle_kept : {b h : Bool} (m : Marked) (c d : Forest Marked) → FitsA (arity m.op) (count (strip c)) → KeepsAll false b h c d
    → Keeps false b h (at m c) (without_idle m d)
idle_kept {b} {h} m c d f k = go (idle (shape m.op) m.op d) refl
  where
    t : Tree
    t = rebuild m.op m.mark d

    i : Keeps false b h (at m c) t
    i = kept_rebuild m.op m.mark m.mark c d f k

    go : (y : Bool) → idle (shape m.op) m.op d ≡ y → Keeps false b h (at m c) (cond y (kid0 t d) t)
    go true e = kept_trans i (kept_first t (pass-remark _ m.op ∙ idle-pass m.op d e) i.fit)
    go false e = i

pub remove_bottleneck_in_subplan_impl_kept : {b h : Bool} (q : ℕ → Bool) (c : Forest Marked) → Fit (strip c)
    → KeepsAll false b h c (remove_bottleneck_in_subplan_impl q c)
remove_bottleneck_in_subplan_impl_kept q none g = all_kept_none
remove_bottleneck_in_subplan_impl_kept q (tree m c r) g =
    kept_plant (kept_cond (m.mark && q 0)
    (idle_kept m c _ g.0 (first_removed_kept (not (singles m.op 0)) m.op c _ g.1
    (remove_bottleneck_in_subplan_impl_kept (λ i. not (singles m.op i)) c g.1))) (kept_refl (at m c) (g.0, g.1)))
    (remove_bottleneck_in_subplan_impl_kept (λ i. q (suc i)) r g.2)

pub without_self_kept : {b h : Bool} (t : Tree) → passing (op_t t) ≡ true → FitT t → Keeps false b h t (without_self t)
without_self_kept {b} {h} t e g =
    let k : KeepsAll false b h t.kids (bottlenecks_removed t) = first_removed_kept true (op_t t) t.kids _ g.1
    (remove_bottleneck_in_subplan_impl_kept (λ i. true) t.kids g.1) in
    let u : Tree = remove_bottleneck_in_subplan t in
    let i : Keeps false b h t u = kept_rebuild (op_t t) t.top.mark t.top.mark t.kids (bottlenecks_removed t) g.0 k in
    kept_trans i (kept_first u (pass-remark _ (op_t t) ∙ e) i.fit)

-- ---- the step
-- the keys of a sort or a merge t, over its child's place
record Sorts (ks : List Key) (f : Option ℕ) (t : Tree) : Type 0 where
  pass : passing (op_t t) ≡ true
  uncut : PureT t → is_all f ≡ true
  fits : OkT t → node_ok (merge_op ks f) (map (λ F. F.width) (known t.kids)) ≡ true

-- a kind of one child has its child's width
own_width : (t : Tree) → passing (op_t t) ≡ true → FitT t → map (λ F. F.width) (known t.kids) ≡ (fact t).width ∷ []
own_width t e g = go t.kids (subst (λ (z : Arity). FitsA z (count (strip t.kids))) (pass_one (op_t t) e) g.0)
  where
    go : (c : Forest Marked) → count (strip c) ≡ 1 → map (λ F. F.width) (known c) ≡ (facts_op (op_t t) (known c)).width ∷ []
    go none n = absurd (omega arith)
    go (tree m c none) n = ap (λ (F : Facts). F.width ∷ []) (sym (ease_blank (op_t t) (fact (at m c) ∷ []) (pass_ease (op_t t) e)))
    go (tree m c (tree j d r)) n = absurd (omega arith)

cascade_kept : {b h : Bool} (ks : List Key) (f : Option ℕ) (t : Tree) → Sorts ks f t → FitT t → Keeps false b h t (cascade ks f t)
cascade_kept {b} {h} ks f t s g =
    kept_cond (leb (fact t).streams 1) (kept_over (merge_op ks f) false refl (λ i q. uncut_fetch f (s.uncut q))
    (λ i v w. subst (λ (x : ℕ). node_ok (merge_op ks f) (x ∷ []) ≡ true) (sym (ap (λ (F : Facts). F.width) sorted.base)) (own v)) refl sorted)
    (kept_refl t g)
  where
    k : Keeps false b h t (without_self t)
    k = without_self_kept t s.pass g

    own : OkT t → node_ok (merge_op ks f) ((fact t).width ∷ []) ≡ true
    own v = subst (λ (ws : List ℕ). node_ok (merge_op ks f) ws ≡ true) (own_width t s.pass g) (s.fits v)

    given : (w : ℕ) → node_ok (merge_op ks f) (w ∷ []) ≡ true → KeysFit w ks × (fetch_ok f ≡ true)
    given w e =
        let n : leb (length ks) 8 ≡ true = search (and_left, and_right) in
        let m : keys_fit w ks ≡ true = search (and_left, and_right) in
        (keys_of_lem w ks (ap₂ ◌&&◌ (ap₂ ◌&&◌ (le-leb 0 (length ks) (omega arith)) n) m), search (and_left, and_right))

    new : OkT t → KeysFit (fact (without_self t)).width (fresh_keys (fact (without_self t)) [] ks) × (fetch_ok f ≡ true)
    new v = let p = given (fact t).width (own v) in
        (fresh_keys_lem (fact (without_self t)) (fact (without_self t)).width ks (subst (λ (F : Facts). KeysFit F.width ks) (sym k.base) p.0), p.1)

    sorted : Keeps false b h t (add_sort_above_with_check ks f (without_self t))
    sorted = kept_cond (met (fact (without_self t)) ks) k (kept_sort_above ks f (λ i q. s.uncut q) (λ i v w. new v) k)

abbrev Parallel : Bool → Bool → Bool → Forest Marked → Op → Type 0
Parallel b h x c o = FitT (node o x c) → Keeps false b h (node o x c) (parallel_by (shape o) (node o x c))

parallel_by_kept : {b h : Bool} (x : Bool) (c : Forest Marked) (o : Op) → Parallel b h x c o
parallel_by_kept {b} {h} x c =
    shape_ind (Parallel b h x c)
    (λ p ks f g. cascade_kept ks f (node (sort_op p ks f) x c) (record { pass = refl; uncut = λ q. op_fetch (sort_op p ks f) q.0; fits = λ v. v.0 }) g)
    (λ ks f g. cascade_kept ks f (node (merge_op ks f) x c) (record { pass = refl; uncut = λ q. op_fetch (merge_op ks f) q.0; fits = λ v. v.0 }) g)
    (λ p n q ks g. kept_refl (node (repartition p n q ks) x c) g)
    (λ f g. kept_over (coalesce f) false refl (λ i q. q.0) (λ i v w. coalesce_ok f ((fact (without_self (node (coalesce f) x c))).width ∷ [])
    (node_fetch (coalesce f) (map (λ F. F.width) (known c)) v.0) (refl, narrow_t (without_self (node (coalesce f) x c)) w)) refl
    (without_self_kept (node (coalesce f) x c) refl g))
    (λ o e g. subst (λ (z : Shape). Keeps false b h (node o x c) (parallel_by z (node o x c))) (sym e) (kept_refl (node o x c) g))

pub parallelize_sorts_kept : {b h : Bool} (t : Tree) → FitT t → Keeps false b h t (parallelize_sorts t)
parallelize_sorts_kept {b} {h} t g =
    let y : Bool = update_coalesce_ctx_children (op_t t) t.kids in
    let k : Keeps false b h t (set_mark y t) = kept_mark y (kept_refl t g) in
    kept_cond (head_mark t.kids) (kept_trans k (parallel_by_kept y t.kids (op_t t) k.fit)) k

pub parallelize_plan : (f : Plan) → Fit f → SamePlan false f (parallelize f)
parallelize_plan f h = kept_plan f (transform_up parallelize_sorts f) (walk_kept parallelize_sorts (λ t g. parallelize_sorts_kept t g) f h)

pub parallelize_rows : {E E' : Env} (f : Plan) {x y : Forest Streams} → SameInputs E E' f → Fit f → clear f ≡ true → Run E 0 0 f x
    → Run E' 0 0 (parallelize f) y → Each SameRows (roots x) (roots y)
parallelize_rows f d h e = same_plan_rows f (parallelize f) d h e (parallelize_plan f h)
