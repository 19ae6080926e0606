-- Ensuring keeps the skeleton with the old limits, the child counts, 01's rules, that nothing is cut off, and that no sort has all-constant keys.
use Rattle.std.specs.Prelude.{◌≡◌, refl, Bool, true, false, cond, not, ◌&&◌, ◌||◌, List, [], ◌∷◌, map, ℕ, suc, eqb, ltb, leb, Option, Some, None}
use Rattle.std.proofs.Common.{sym, ap, ap₂, subst, arith}
use Rattle.row_order.specs.Iso.{Key}
use Rattle.row_order.proofs.Order.{no_bool}
use Rattle.plan.specs.Forest.{Forest, none, roots, tree}
use Rattle.plan.specs.Op.{coalesce, global_limit, local_limit, merge_op, Op, Plan, repartition, sort_op}
use Rattle.plan.specs.Numbers.{code}
use Rattle.plan.specs.WellFormed.{fetch_ok, node_ok}
use Rattle.semantics.specs.Facts.{at0, Facts, is_nil, met}
use Rattle.semantics.specs.Properties.{cuts, fresh_keys, maintains, rebuilt, singles, wanted, is_all}
use Rattle.semantics.proofs.Theorems.Common.Bools.{and_left, and_right}
use Rattle.walks.specs.Marks.{any_mark, at, bare, fact, fetch_t, kid0, known, Marked, node, op_t, over, rebuild, set_mark, Shape, shape, strip, transform_up, Tree, unmark}
use Rattle.walks.specs.OutputRequirements.{output_fetch}
use Rattle.walks.specs.EnsureSorting.{after_loop, connected_each, drop_sort, ensure_by, ensure_child, ensure_each, ensure_sorting, with_single_stream, single_stream_op, analyze_immediate_sort_removal, limited, remove_by, remove_kids, remove_top, updated_after_removal, unmerged, update_child_to_remove_unnecessary_sort, update_sort_ctx_children_data}
use Rattle.walks.specs.Terms.{clear_op, passing, skel}
use Rattle.walks.proofs.Theorems.Common.Skeleton.{added_over, added_refl}
use Rattle.walks.specs.Trees.{arity, count, Fit, FitsA, FitT, OkT, PureT}
use Rattle.walks.proofs.Theorems.Common.Keys.{fresh_keys_lem, keys_of_lem, KeysFit, keys_ok}
use Rattle.walks.proofs.Theorems.Common.NewNodes.{coalesce_ok, fetch_ok_lem, global_ok, local_ok, merge_ok, narrow_t, node_fetch, nth_width, order_fits, over_of, wanted-fits, wants_fit}
use Rattle.walks.proofs.Theorems.Common.Keeps.{all_kept_none, all_kept_refl, all_kept_strip, all_kept_when, Keeps, KeepsAll, kept_cond, kept_first, kept_limit, kept_mark, kept_node, kept_over, kept_plant, kept_rebuild, kept_refl, kept_sort_above, kept_trans, kept_under, kept_when, like_refl, op_fetch, pure_fetch, remark_like, shape_ind, uncut_fetch, walk_kept}

-- ---- marks
pub strip_connected : (c : Forest Marked) → strip (connected_each c) ≡ strip c
strip_connected none = refl
strip_connected (tree m c r) = ap (λ (g : Plan). tree m.op (strip c) g) (strip_connected r)

pub strip-unmark : (c : Forest Marked) → strip (unmark c) ≡ strip c
strip-unmark none = refl
strip-unmark (tree m c r) = ap (λ (g : Plan). tree m.op (strip c) g) (strip-unmark r)

-- A node whose children's marks change
pub remarked : {a b h : Bool} (t : Tree) (x : Bool) (d : Forest Marked) → strip d ≡ strip t.kids → FitT t → Keeps a b h t (node (op_t t) x d)
remarked t x d e f = kept_node (op_t t) (op_t t) t.top.mark x t.kids d (like_refl (op_t t)) f.0 (all_kept_strip t.kids d e f.1)

pub updated_op : (m : Marked) (c d : Forest Marked) → op_t (updated_after_removal m c d) ≡ rebuilt m.op (known d)
updated_op m c d = go (any_mark c || is_nil (roots c))
  where
    go : (x : Bool) → op_t (cond x (update_sort_ctx_children_data false (rebuild m.op m.mark d)) (rebuild m.op m.mark d)) ≡ rebuilt m.op (known d)
    go true = refl
    go false = refl

abbrev Removed : Bool → Bool → Bool → Forest Marked → Forest Marked → Op → Type 0
Removed b h x c d o = FitsA (arity o) (count (strip c)) → Fit (strip c) → KeepsAll true b h c d → Keeps true b h (node o x c)
    (remove_by (shape o) (record { op = o; mark = x }) c d)

abbrev Stepped : Bool → Bool → Bool → Forest Marked → Op → Type 0
Stepped b h x c o = FitT (node o x c) → Keeps true b h (node o x c) (ensure_by (shape o) (node o x c))

module _ {b h : Bool} where
  kept_connected : {t u : Tree} (x : Bool) → Keeps true b h t u → Keeps true b h t (update_sort_ctx_children_data x u)
  kept_connected {u = u} x k = kept_trans k (remarked u x (connected_each u.kids) (strip_connected u.kids) k.fit)

  -- ---- removing
  single_stream_over : (ks : List Key) (f : Option ℕ) (t : Tree) → FitT t → (PureT t → is_all f ≡ true)
      → (OkT t → KeysFit (fact t).width ks × (fetch_ok f ≡ true)) → Keeps true b h t (over (single_stream_op ks f) false t)
  single_stream_over [] f t g q r = kept_over (coalesce None) false refl (λ i p. refl)
      (λ i v w. coalesce_ok None ((fact t).width ∷ []) refl (refl, narrow_t t w)) refl (kept_refl t g)
  single_stream_over (k ∷ ks) f t g q r =
      kept_over (merge_op (k ∷ ks) f) false refl (λ i p. uncut_fetch f (q p)) (λ i v w. let s = r w in
      merge_ok k ks f ((fact t).width ∷ []) s.0 s.1 (refl, narrow_t t w)) refl (kept_refl t g)

  single_stream_kept : {t u : Tree} (s : Bool) → Keeps true b h t u → Keeps true b h t (with_single_stream s u)
  single_stream_kept {u = u} s k =
      kept_trans k (kept_cond (s && ltb 1 (fact u).streams)
      (kept_connected false (single_stream_over (fact u).order (fetch_t u) u k.fit (pure_fetch u) (λ w. (order_fits u w, fetch_ok_lem u w))))
      (kept_refl u k.fit))

  updated_kept : (m : Marked) (c d : Forest Marked) → FitsA (arity m.op) (count (strip c)) → KeepsAll true b h c d
      → Keeps true b h (at m c) (updated_after_removal m c d)
  updated_kept m c d f k =
      let r : Keeps true b h (at m c) (rebuild m.op m.mark d) = kept_rebuild m.op m.mark m.mark c d f k in
      kept_cond (any_mark c || is_nil (roots c)) (kept_connected false r) r

  drop_sort_kept : (f : Option ℕ) (t : Tree) → passing (op_t t) ≡ true → FitT t → Keeps true b h t (drop_sort f t)
  drop_sort_kept None t e g = kept_first t e g
  drop_sort_kept (Some n) t e g = kept_refl t g

  remove_by_kept : (x : Bool) (c d : Forest Marked) (o : Op) → Removed b h x c d o
  remove_by_kept x c d =
      shape_ind (Removed b h x c d)
      (λ p ks f i g k. drop_sort_kept f (node (sort_op p ks f) x c) refl (i, g))
      (λ ks f i g k.
      let m : Marked = record { op = merge_op ks f; mark = x } in
      let r : Keeps true b h (at m c) (updated_after_removal m c d) = updated_kept m c d i k in
      kept_mark (updated_after_removal m c d).top.mark (kept_trans r (kept_first (updated_after_removal m c d) (ap passing (updated_op m c d)) r.fit)))
      (λ p n q ks i g k.
      let m : Marked = record { op = repartition p n q ks; mark = x } in
      let r : Keeps true b h (at m c) (updated_after_removal m c d) = updated_kept m c d i k in
      kept_trans r (kept_node (op_t (updated_after_removal m c d)) _ (updated_after_removal m c d).top.mark _ (updated_after_removal m c d).kids _
      (remark_like (λ z. false) (op_t (updated_after_removal m c d))) r.fit.0 (all_kept_refl (updated_after_removal m c d).kids r.fit.1)))
      (λ f i g k. updated_kept _ c d i k)
      (λ o e i g k. subst (λ (s : Shape). Keeps true b h (node o x c) (remove_by s (record { op = o; mark = x }) c d)) (sym e) (updated_kept _ c d i k))

  remove_top_kept : (s : Bool) (m : Marked) (c d : Forest Marked) → FitsA (arity m.op) (count (strip c)) → Fit (strip c) → KeepsAll true b h c d
      → Keeps true b h (at m c) (remove_top s m c d)
  remove_top_kept s m c d i g k = single_stream_kept s (remove_by_kept m.mark c d m.op i g k)

  pub remove_kids_kept : (q : ℕ → Bool) (c : Forest Marked) → Fit (strip c) → KeepsAll true b h c (remove_kids q c)
  remove_kids_kept q none f = all_kept_none
  remove_kids_kept q (tree m c r) f =
      kept_plant (kept_cond m.mark (remove_top_kept (q 0) m c (remove_kids (singles m.op) c) f.0 f.1 (remove_kids_kept (singles m.op) c f.1))
      (kept_refl (at m c) (f.0, f.1)))
      (remove_kids_kept (λ i. q (suc i)) r f.2)

  update_child_kept : (s : Bool) (t : Tree) → FitT t → Keeps true b h t (update_child_to_remove_unnecessary_sort s t)
  update_child_kept s t f =
      kept_mark false (kept_cond t.top.mark (remove_top_kept s t.top t.kids (remove_kids (singles (op_t t)) t.kids) f.0 f.1
      (remove_kids_kept (singles (op_t t)) t.kids f.1)) (kept_refl t f))

  -- ---- a sort that is not needed
  limited_kept : (p : Bool) (ks : List Key) (f : Option ℕ) (x : Bool) (c : Forest Marked) → FitT (node (sort_op p ks f) x c)
      → Keeps true b h (node (sort_op p ks f) x c) (limited f (node (sort_op p ks f) x c) (kid0 (node (sort_op p ks f) x c) c))
  limited_kept p ks None x c f =
      let t : Tree = node (sort_op p ks None) x c in
      let u : Tree = kid0 t c in
      let k : Keeps true b h t u = kept_first t refl f in
      kept_trans k (remarked u false (unmark u.kids) (strip-unmark u.kids) k.fit)
  limited_kept p ks (Some n) x c f = go (eqb (fact t).streams 1)
    where
      t : Tree
      t = node (sort_op p ks (Some n)) x c

      u : Tree
      u = set_mark false (kid0 t c)

      k : Keeps true b h t u
      k = kept_mark false (kept_first t refl f)

      note : OkT t → KeysFit (fact u).width (fact t).order
      note v = subst (λ (F : Facts). KeysFit F.width (fact t).order) (sym k.base) (order_fits t v)

      go : (y : Bool) → Keeps true b h t (over (cond y (global_limit 0 (Some n) (fact t).order) (local_limit (Some n) (fact t).order)) false u)
      go true = kept_limit _ false refl refl (λ i q. q.0)
          (λ i v w. global_ok n (fact t).order ((fact u).width ∷ []) (note v) (node_fetch (sort_op p ks (Some n)) (map (λ F. F.width) (known c)) v.0)
          (refl, narrow_t u w)) refl k
      go false = kept_limit _ false refl refl (λ i q. q.0)
          (λ i v w. local_ok n (fact t).order ((fact u).width ∷ []) (note v) (node_fetch (sort_op p ks (Some n)) (map (λ F. F.width) (known c)) v.0)
          (refl, narrow_t u w)) refl k

  immediate_kept : (p : Bool) (ks : List Key) (f : Option ℕ) (x : Bool) (c : Forest Marked) → FitT (node (sort_op p ks f) x c)
      → Keeps true b h (node (sort_op p ks f) x c) (analyze_immediate_sort_removal p ks f (node (sort_op p ks f) x c) (kid0 (node (sort_op p ks f) x c) c))
  immediate_kept p ks f x c g =
      let t : Tree = node (sort_op p ks f) x c in
      let u : Tree = set_mark false (kid0 t c) in
      let k : Keeps true b h t u = kept_mark false (kept_first t refl g) in
      kept_cond (not p && ltb 1 (fact (kid0 t c)).streams) (kept_over (merge_op ks f) false refl (λ i q. q.0) (λ i v w. merged_ok p ks f x c g v) refl k)
      (limited_kept p ks f x c g)
    where
      -- the sort's own keys, over its own child
      merged_ok : (p : Bool) (ks : List Key) (f : Option ℕ) (x : Bool) (c : Forest Marked) → FitT (node (sort_op p ks f) x c) → OkT (node (sort_op p ks f) x c)
          → node_ok (merge_op ks f) ((fact (kid0 (node (sort_op p ks f) x c) c)).width ∷ []) ≡ true
      merged_ok p ks f x none g v = absurd (omega (arith, g.0))
      merged_ok p ks f x (tree m d none) g v = v.0
      merged_ok p ks f x (tree m d (tree n e r)) g v = absurd (omega (arith, g.0))

-- ---- the loop
ensure_child_kept : (w : List Key) (b s : Bool) (f : Option ℕ) (t : Tree) → FitT t → Keeps true (is_all f) (keys_ok (fact t).width w && fetch_ok f) t
    (ensure_child w b s f t)
ensure_child_kept [] b s f t g = kept_cond (is_nil (fact t).order || not b) (update_child_kept s t g) (kept_refl t g)
ensure_child_kept (k ∷ w) b s f t g =
    kept_cond (met (fact t) (k ∷ w)) (kept_refl t g)
    (kept_connected true (kept_sort_above (k ∷ w) f (λ e p. e) new below))
  where
    u : Tree
    u = cond (is_nil (fact t).order) t (update_child_to_remove_unnecessary_sort s t)

    below : Keeps true (is_all f) (keys_ok (fact t).width (k ∷ w) && fetch_ok f) t u
    below = kept_cond (is_nil (fact t).order) (kept_refl t g) (update_child_kept s t g)

    new : (keys_ok (fact t).width (k ∷ w) && fetch_ok f) ≡ true → OkT t → OkT u → KeysFit (fact u).width (fresh_keys (fact u) [] (k ∷ w))
        × (fetch_ok f ≡ true)
    new e v x = (
      fresh_keys_lem (fact u) (fact u).width (k ∷ w)
          (subst (λ (F : Facts). KeysFit F.width (k ∷ w)) (sym below.base)
          (keys_of_lem (fact t).width (k ∷ w) (and_left (keys_ok (fact t).width (k ∷ w)) (fetch_ok f) e))),
      and_right (keys_ok (fact t).width (k ∷ w)) (fetch_ok f) e,
    )

pub ensure_each_kept : (w : ℕ → List Key) (b s : ℕ → Bool) (f : Option ℕ) (c : Forest Marked) → Fit (strip c)
    → KeepsAll true (is_all f) (wants_fit w (known c) && fetch_ok f) c (ensure_each w b s f c)
ensure_each_kept w b s f none g = all_kept_none
ensure_each_kept w b s f (tree m c r) g =
    kept_plant (kept_when (λ e p. e) (λ e p. (split (keys_ok (fact (at m c)).width (w 0)) rest (fetch_ok f) e).0)
    (ensure_child_kept (w 0) (b 0) (s 0) f (at m c) (g.0, g.1)))
    (all_kept_when (λ e. (split (keys_ok (fact (at m c)).width (w 0)) rest (fetch_ok f) e).1)
    (ensure_each_kept (λ i. w (suc i)) (λ i. b (suc i)) (λ i. s (suc i)) f r g.2))
  where
    rest : Bool
    rest = wants_fit (λ i. w (suc i)) (known r)

    split : (x y z : Bool) → (x && y) && z ≡ true → (x && z ≡ true) × (y && z ≡ true)
    split true true true e = (refl, refl)
    split true true false e = no_bool e
    split true false z e = no_bool e
    split false y z e = no_bool e

output_all : (o : Op) → clear_op o ≡ true → is_all (output_fetch o) ≡ true
output_all o e = go (eqb (code o) 13)
  where
    go : (x : Bool) → is_all (cond x (cuts o).fetch None) ≡ true
    go true = op_fetch o e
    go false = refl

pub output_ok : (o : Op) (ws : List ℕ) → node_ok o ws ≡ true → fetch_ok (output_fetch o) ≡ true
output_ok o ws e = go (eqb (code o) 13)
  where
    go : (x : Bool) → fetch_ok (cond x (cuts o).fetch None) ≡ true
    go true = node_fetch o ws e
    go false = refl

module _ {b h : Bool} where
  after_loop_kept : (t : Tree) → FitT t → Keeps true b h t (after_loop t)
  after_loop_kept t g =
      let o : Op = op_t t in
      kept_under (is_all (output_fetch o)) (wants_fit (wanted o) (known t.kids) && fetch_ok (output_fetch o)) o _ t.top.mark false t.kids _
      (remark_like _ o) (output_all o)
      (λ v. ap₂ ◌&&◌ (wanted-fits o (known t.kids) v.0) (output_ok o (map (λ F. F.width) (known t.kids)) v.0)) g.0
      (ensure_each_kept (wanted o) (maintains o (known t.kids)) (singles o) (output_fetch o) t.kids g.1)

  unmerged_kept : (ks : List Key) (f : Option ℕ) (x : Bool) (c : Forest Marked) → FitT (node (merge_op ks f) x c) → Keeps true b h (node (merge_op ks f) x c)
      (unmerged f (node (merge_op ks f) x c))
  unmerged_kept ks None x c g = kept_first (node (merge_op ks None) x c) refl g
  unmerged_kept ks (Some n) x c g =
      record {
        fit = g;
        pure = λ e p. p;
        ok = λ e p. (
          local_ok n (fact t).order ws (subst (λ (w : ℕ). KeysFit w (fact t).order) (sym (nth_width (known c) 0)) (order_fits t p))
              (node_fetch (merge_op ks (Some n)) ws p.0) (over_of (merge_op ks (Some n)) ws refl p.0),
          p.1,
        );
        bones = added_over _ refl refl (added_refl (skel (strip c)));
        base = refl;
        live = λ p. (refl, p.1);
      }
    where
      t : Tree
      t = node (merge_op ks (Some n)) x c

      ws : List ℕ
      ws = map (λ F. F.width) (known c)

  ensure_by_kept : (x : Bool) (c : Forest Marked) (o : Op) → Stepped b h x c o
  ensure_by_kept x c =
      shape_ind (Stepped b h x c)
      (λ p ks f g.
      let t : Tree = node (sort_op p ks f) x c in
      kept_cond (met (at0 (known c)) (fact t).order) (immediate_kept p ks f x c g) (kept_connected false (after_loop_kept t g)))
      (λ ks f g.
      let t : Tree = node (merge_op ks f) x c in
      let k : Keeps true b h t (after_loop t) = after_loop_kept t g in
      kept_cond (leb (at0 (known (after_loop t).kids)).streams 1) (kept_trans k (unmerged_kept ks f false (after_loop t).kids k.fit))
      (kept_connected false k))
      (λ p n q ks g. kept_connected false (after_loop_kept (node (repartition p n q ks) x c) g))
      (λ f g. kept_connected false (after_loop_kept (node (coalesce f) x c) g))
      (λ o e g. subst (λ (s : Shape). Keeps true b h (node o x c) (ensure_by s (node o x c))) (sym e) (kept_connected false (after_loop_kept (node o x c) g)))

  pub ensure_sorting_kept : (t : Tree) → FitT t → Keeps true b h t (ensure_sorting t)
  ensure_sorting_kept t g =
      let u : Tree = update_sort_ctx_children_data false t in
      let k : Keeps true b h t u = kept_connected false (kept_refl t g) in
      kept_trans k (kept_cond (is_nil (roots u.kids)) (kept_refl u k.fit) (ensure_by_kept false u.kids (op_t u) k.fit))

pub ensure_kept : (f : Plan) → Fit f → KeepsAll true true true (bare f) (transform_up ensure_sorting f)
ensure_kept f g = walk_kept ensure_sorting (λ t k. ensure_sorting_kept t k) f g
