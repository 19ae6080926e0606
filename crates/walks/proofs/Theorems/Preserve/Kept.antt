-- The order-preserving walk keeps the skeleton with its limits, the child counts, 01's rules, that nothing is cut off, and that no sort has
-- all-constant keys.
use Rattle.std.specs.Prelude.{◌≡◌, refl, Bool, true, false, cond, not, ◌&&◌, ◌||◌, List, [], ◌∷◌, map, ℕ, suc, get_or, Option, Some, None}
use Rattle.std.proofs.Common.{sym, ap, ap₂, ◌∙◌, subst}
use Rattle.row_order.specs.Iso.{Key}
use Rattle.plan.specs.Forest.{Forest, none, roots, tree}
use Rattle.plan.specs.Op.{coalesce, merge_op, Op, Plan, repartition, sort_op}
use Rattle.plan.specs.WellFormed.{fetch_ok, node_ok}
use Rattle.semantics.specs.Facts.{at0, facts, is_nil, keeps_order, met, nothing}
use Rattle.semantics.specs.Properties.{rebuilt, is_all}
use Rattle.semantics.specs.Runs.{Each, Env, Run, SameInputs, Streams}
use Rattle.semantics.specs.Bags.{SameRows}
use Rattle.semantics.proofs.Theorems.Facts.Fits.{fits}
use Rattle.walks.specs.Marks.{at, fact, head_mark, kid0, known, Marked, node, op_t, rebuild, Shape, shape, strip, transform_up, Tree, unmark}
use Rattle.walks.specs.OrderPreserving.{alternate_plan, break_by, break_each, carry_each, enters, inspect_child, mark_first, masked, plan_with_order_breaking_variants, plan_with_order_preserving_variants, preserve, preserve_by, preserve_coalesce, preserve_each, replace_by, replace_with_order_preserving_variants, Settings, update_order_preservation_ctx_children_data, use_order_preserving_variant}
use Rattle.walks.specs.Terms.{clear}
use Rattle.walks.proofs.Theorems.Common.Lists.{all_nth}
use Rattle.walks.specs.Trees.{arity, count, Fit, FitsA, FitT, Ok}
use Rattle.walks.proofs.Theorems.Common.Keys.{KeysFit, no_keys}
use Rattle.walks.proofs.Theorems.Common.NewNodes.{coalesce_ok, merge_ok, node_fetch, nth_width, orders_fit, over_of}
use Rattle.walks.proofs.Theorems.Common.Keeps.{all_kept_none, all_kept_strip, all_kept_trans, Keeps, KeepsAll, kept_cond, kept_first, kept_mark, kept_plant, kept_rebuild, kept_refl, kept_swap, kept_trans, kept_when, op_fetch, shape_ind, uncut_fetch, walk_kept}
use Rattle.walks.proofs.Theorems.Ensure.Kept.{remarked, strip-unmark}
use Rattle.walks.proofs.Theorems.Common.Rows.{kept_plan, same_plan_rows, SamePlan}

-- ---- marks
pub strip-masked : (p : ℕ → Bool) (c : Forest Marked) → strip (masked p c) ≡ strip c
strip-masked p none = refl
strip-masked p (tree m c r) = ap (λ (g : Plan). tree m.op (strip c) g) (strip-masked (λ i. p (suc i)) r)

pub strip_carry : (c : Forest Marked) → strip (carry_each c) ≡ strip c
strip_carry none = refl
strip_carry (tree m c r) = ap₂ (λ (f g : Plan). tree m.op f g) (strip-masked (inspect_child m.op (known c)) c) (strip_carry r)

pub strip_first : (x : Bool) (c : Forest Marked) → strip (mark_first x c) ≡ strip c
strip_first x none = refl
strip_first x (tree m c r) = refl

pub first_kept : {a b h : Bool} {c d : Forest Marked} (x : Bool) → KeepsAll a b h c d → KeepsAll a b h c (mark_first x d)
first_kept {d = d} x k = all_kept_trans k (all_kept_strip d (mark_first x d) (strip_first x d) k.fit)

-- ---- the alternative; f is the sort's fetch
abbrev Preserved : Bool → Bool → Option ℕ → Bool → Forest Marked → Forest Marked → Op → Type 0
Preserved spr spm f x c d o = FitsA (arity o) (count (strip c)) → Fit (strip c) → KeepsAll false (is_all f) (fetch_ok f) c d
    → Keeps false (is_all f) (fetch_ok f) (node o x c) (preserve_by (shape o) spr spm f (record { op = o; mark = x }) c d)

-- a merge of its child's known order, in a coalesce's place
merge_for : (g f : Option ℕ) (k : Key) (ks : List Key) (c : Forest Marked) → (at0 (known c)).order ≡ k ∷ ks → fetch_ok f ≡ true
    → node_ok (coalesce g) (map (λ F. F.width) (known c)) ≡ true → Ok (strip c) → node_ok (merge_op (k ∷ ks) f) (map (λ F. F.width) (known c)) ≡ true
merge_for g f k ks c e i n h =
    let ws : List ℕ = map (λ F. F.width) (known c) in
    let fits : KeysFit (at0 (known c)).width (at0 (known c)).order = all_nth nothing no_keys (orders_fit (strip c) h) 0 in
    merge_ok k ks f ws (subst (λ (l : List Key). KeysFit (get_or ws 0 0) l) e
    (subst (λ (w : ℕ). KeysFit w (at0 (known c)).order) (sym (nth_width (known c) 0)) fits)) i (over_of (coalesce g) ws refl n)

pub preserve_by_kept : (spr spm : Bool) (f : Option ℕ) (x : Bool) (c d : Forest Marked) (o : Op) → Preserved spr spm f x c d o
preserve_by_kept spr spm f x c d =
    shape_ind (Preserved spr spm f x c d)
    (λ p ks g h i k. kept_rebuild (sort_op p ks g) x false c d h k)
    (λ ks g h i k. kept_rebuild (merge_op ks g) x false c d h k)
    (λ p n q ks h i k. kept_cond (not (keeps_order p (at0 (known c))) && spr)
    (kept_swap (repartition p n q ks) (rebuilt (repartition true n q ks) (known (mark_first true d))) x false c (mark_first true d) refl refl refl
    (λ e u. refl) (λ e u v. u) h (first_kept true k)) (kept_rebuild (repartition p n q ks) x false c d h k))
    (λ g h i k. coalesced g h i k)
    (λ o e h i k. subst (λ (s : Shape). Keeps false (is_all f) (fetch_ok f) (node o x c) (preserve_by s spr spm f (record { op = o; mark = x }) c d)) (sym e)
    (kept_rebuild o x false c d h k))
  where
    e : Forest Marked
    e = mark_first true d

    same_order : (at0 (known e)).order ≡ (at0 (known d)).order
    same_order = ap (λ (g : Plan). (at0 (facts g)).order) (strip_first true d)

    merged : count (strip c) ≡ 1 → KeepsAll false (is_all f) (fetch_ok f) c d → (ks : List Key) → (at0 (known d)).order ≡ ks → (y : Bool)
        → Keeps false (is_all f) (fetch_ok f) (node (coalesce None) x c)
        (cond (y && not (is_nil ks)) (node (merge_op ks f) false e) (rebuild (coalesce None) false d))
    merged h k (j ∷ ks) q true =
        kept_swap (coalesce None) (merge_op (j ∷ ks) f) x false c e refl refl refl (λ i u. uncut_fetch f i)
        (λ i n v. merge_for None f j ks e (same_order ∙ q) i n v) h (first_kept true k)
    merged h k (j ∷ ks) q false = kept_rebuild (coalesce None) x false c d h k
    merged h k [] q true = kept_rebuild (coalesce None) x false c d h k
    merged h k [] q false = kept_rebuild (coalesce None) x false c d h k

    coalesced : (g : Option ℕ) → count (strip c) ≡ 1 → Fit (strip c) → KeepsAll false (is_all f) (fetch_ok f) c d → Keeps false (is_all f) (fetch_ok f)
        (node (coalesce g) x c) (preserve_coalesce g spm f (record { op = coalesce g; mark = x }) c d)
    coalesced None h i k = merged h k (at0 (known d)).order refl spm
    coalesced (Some n) h i k = kept_mark false (kept_refl (node (coalesce (Some n)) x c) (h, i))

pub preserve_each_kept : (spr spm : Bool) (f : Option ℕ) (c : Forest Marked) → Fit (strip c)
    → KeepsAll false (is_all f) (fetch_ok f) c (preserve_each spr spm f c)
preserve_each_kept spr spm f none h = all_kept_none
preserve_each_kept spr spm f (tree m c r) h =
    kept_plant (kept_cond m.mark (preserve_by_kept spr spm f m.mark c (preserve_each spr spm f c) m.op h.0 h.1
    (preserve_each_kept spr spm f c h.1)) (kept_refl (at m c) (h.0, h.1)))
    (preserve_each_kept spr spm f r h.2)

pub variants_kept : (spr spm : Bool) (f : Option ℕ) (t : Tree) → FitT t
    → Keeps false (is_all f) (fetch_ok f) t (plan_with_order_preserving_variants spr spm f t)
variants_kept spr spm f t h = preserve_by_kept spr spm f t.top.mark t.kids (preserve_each spr spm f t.kids) (op_t t) h.0 h.1
    (preserve_each_kept spr spm f t.kids h.1)

-- ---- the step
abbrev Replaced : Bool → Bool → Settings → Bool → Forest Marked → Op → Type 0
Replaced b h s x c o = FitT (node o x c) → Keeps false b h (node o x c) (replace_by (shape o) s (node o x c))

replace_by_kept : {b h : Bool} (s : Settings) (x : Bool) (c : Forest Marked) (o : Op) → Replaced b h s x c o
replace_by_kept {b} {h} s x c =
    shape_ind (Replaced b h s x c)
    (λ p ks f g.
    let t : Tree = node (sort_op p ks f) x c in
    let u : Tree = kid0 t c in
    let a : Tree = alternate_plan s ks f t u in
    let i : Keeps false (is_all f) (fetch_ok f) t u = kept_first t refl g in
    let k : Keeps false (is_all f) (fetch_ok f) t a =
    kept_trans i (variants_kept (s.spr || use_order_preserving_variant s ks t u) (s.spm || use_order_preserving_variant s ks t u) f u i.fit) in
    let v : Keeps false b h t a = kept_when (λ e q. op_fetch (sort_op p ks f) q.0)
    (λ e q. node_fetch (sort_op p ks f) (map (λ F. F.width) (known c)) q.0) k in
    kept_cond (head_mark c) (kept_cond (met (fact a) (fact t).order)
    (kept_trans v (remarked a a.top.mark (unmark a.kids) (strip-unmark a.kids) v.fit)) (kept_refl t g)) (kept_refl t g))
    (λ ks f g. kept_refl (node (merge_op ks f) x c) g)
    (λ p n q ks g. kept_refl (node (repartition p n q ks) x c) g)
    (λ f g. kept_refl (node (coalesce f) x c) g)
    (λ o e g. subst (λ (z : Shape). Keeps false b h (node o x c) (replace_by z s (node o x c))) (sym e) (kept_refl (node o x c) g))

pub step_kept : {b h : Bool} (s : Settings) (t : Tree) → FitT t → Keeps false b h t (replace_with_order_preserving_variants s t)
step_kept {b} {h} s t g =
    let k : Keeps false b h t (update_order_preservation_ctx_children_data t) = remarked t false (carry_each t.kids) (strip_carry t.kids) g in
    kept_trans k (replace_by_kept s false (carry_each t.kids) (op_t t) k.fit)

pub preserve_plan : (s : Settings) (f : Plan) → Fit f → SamePlan false f (preserve s f)
preserve_plan s f h = kept_plan f (transform_up (replace_with_order_preserving_variants s) f)
    (walk_kept (replace_with_order_preserving_variants s) (λ t g. step_kept s t g) f h)

pub preserve_rows : (s : Settings) {E E' : Env} (f : Plan) {x y : Forest Streams} → SameInputs E E' f → Fit f → clear f ≡ true → Run E 0 0 f x
    → Run E' 0 0 (preserve s f) y → Each SameRows (roots x) (roots y)
preserve_rows s f d h e = same_plan_rows f (preserve s f) d h e (preserve_plan s f h)

-- ---- the order-breaking variants, whose result the walk does not use, keep all but fetches: a merge's goes to its coalesce
abbrev Broken : Bool → Bool → Bool → Forest Marked → Forest Marked → Op → Type 0
Broken b h x c d o = FitsA (arity o) (count (strip c)) → KeepsAll false b h c d → Keeps false b h (node o x c)
    (break_by (shape o) (record { op = o; mark = x }) c d)

pub break_by_kept : {b h : Bool} (x : Bool) (c d : Forest Marked) (o : Op) → Broken b h x c d o
break_by_kept {b} {h} x c d =
    shape_ind (Broken b h x c d)
    (λ p ks f g k. kept_rebuild (sort_op p ks f) x false c d g k)
    (λ ks f g k. kept_swap (merge_op ks f) (coalesce f) x false c (mark_first false d) refl refl refl (λ e u. u)
    (λ e u v. coalesce_ok f (map (λ F. F.width) (known (mark_first false d)))
    (node_fetch (merge_op ks f) (map (λ F. F.width) (known (mark_first false d))) u)
    (over_of (merge_op ks f) (map (λ F. F.width) (known (mark_first false d))) refl u)) g (first_kept false k))
    (λ p n q ks g k. kept_cond (keeps_order p (at0 (known c)))
    (kept_swap (repartition p n q ks) (repartition false n q ks) x false c (mark_first false d) refl refl refl (λ e u. refl) (λ e u v. u) g
    (first_kept false k)) (kept_rebuild (repartition p n q ks) x false c d g k))
    (λ f g k. kept_rebuild (coalesce f) x false c d g k)
    (λ o e g k. subst (λ (s : Shape). Keeps false b h (node o x c) (break_by s (record { op = o; mark = x }) c d)) (sym e) (kept_rebuild o x false c d g k))

pub break_each_kept : {b h : Bool} (q : ℕ → Bool) (c : Forest Marked) → Fit (strip c) → KeepsAll false b h c (break_each q c)
break_each_kept q none g = all_kept_none
break_each_kept q (tree m c r) g =
    kept_plant (kept_cond (q 0) (break_by_kept m.mark c (break_each (enters m.op (known c)) c) m.op g.0
    (break_each_kept (enters m.op (known c)) c g.1)) (kept_refl (at m c) (g.0, g.1)))
    (break_each_kept (λ i. q (suc i)) r g.2)

pub breaking_kept : {b h : Bool} (t : Tree) → FitT t → Keeps false b h t (plan_with_order_breaking_variants t)
breaking_kept t g = break_by_kept t.top.mark t.kids (break_each (enters (op_t t) (known t.kids)) t.kids) (op_t t) g.0
    (break_each_kept (enters (op_t t) (known t.kids)) t.kids g.1)
