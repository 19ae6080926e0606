-- After ensuring no sort has all-constant keys, whatever the tree before: where ensuring meets such a sort, its child meets it already, and
-- the sort goes; it makes no other (the field `live` of Keeps).
use Rattle.std.specs.Prelude.{◌≡◌, refl, Bool, true, false, cond, not, ◌&&◌, List, [], ◌∷◌, eqb, ltb, Option, ℕ, Some, None}
use Rattle.std.proofs.Common.{sym, ap, ◌∙◌, subst, arith}
use Rattle.row_order.specs.Iso.{Key}
use Rattle.row_order.proofs.Order.{no_bool}
use Rattle.plan.specs.Forest.{Forest, none, tree}
use Rattle.plan.specs.Op.{global_limit, local_limit, merge_op, Op, Plan, sort_op}
use Rattle.semantics.specs.Facts.{Facts, is_nil, met, nf}
use Rattle.walks.specs.Marks.{at, bare, fact, known, Marked, node, op_t, over, rebuild, set_mark, strip, transform_up, Tree}
use Rattle.walks.specs.EnsureSorting.{after_loop, connected_each, ensure, ensure_marked, ensure_sorting, analyze_immediate_sort_removal, limited, update_sort_ctx_children_data}
use Rattle.walks.specs.Counted.{constant_sort}
use Rattle.walks.specs.Terms.{Live}
use Rattle.walks.proofs.Theorems.Common.ConstantSorts.{no_sort}
use Rattle.walks.specs.Trees.{arity, count, Fit, FitsA, FitT, LiveT}
use Rattle.walks.proofs.Theorems.Common.Keeps.{Keeps, KeepsAll, kept_rebuild, shape_ind, strip-bare}
use Rattle.walks.proofs.Theorems.Ensure.Kept.{ensure_kept, ensure_sorting_kept, strip_connected, strip-unmark}
use Rattle.walks.proofs.Theorems.Ensure.Removal.{is_other, other_code}

-- ---- a sort of all-constant keys goes
limited_live : (f : Option ℕ) (t c : Tree) → LiveT c → LiveT (limited f t c)
limited_live None t c h = subst (λ (g : Plan). (constant_sort (op_t c) g ≡ false) × Live g) (sym (strip-unmark c.kids)) h
limited_live (Some n) t c h = go (eqb (fact t).streams 1)
  where
    go : (b : Bool) → LiveT (over (cond b (global_limit 0 (Some n) (fact t).order) (local_limit (Some n) (fact t).order)) false (set_mark false c))
    go true = (refl, (h.0, h.1, tt))
    go false = (refl, (h.0, h.1, tt))

immediate_live : (p : Bool) (ks : List Key) (f : Option ℕ) (t c : Tree) → LiveT c → LiveT (analyze_immediate_sort_removal p ks f t c)
immediate_live p ks f t c h = go (not p && ltb 1 (fact c).streams)
  where
    go : (b : Bool) → LiveT (cond b (over (merge_op ks f) false (set_mark false c)) (limited f t c))
    go true = (refl, (h.0, h.1, tt))
    go false = limited_live f t c h

abbrev Goes : Bool → Forest Marked → Op → Type 0
Goes x c o = FitsA (arity o) (count (strip c)) → constant_sort o (strip c) ≡ true → Live (strip c) → LiveT (ensure_marked (node o x c))

constant_goes : (x : Bool) (c : Forest Marked) (o : Op) → Goes x c o
constant_goes x c =
    shape_ind (Goes x c)
    (λ p ks f n e h. sort_goes c p ks f n e h)
    (λ ks f n e h. no_bool e)
    (λ p m q ks n e h. no_bool e)
    (λ f n e h. no_bool e)
    (λ o s n e h. no_bool (sym (no_sort o (known c) (other_code o (ap is_other s)).0) ∙ e))
  where
    nil_met : (F : Facts) (l : List Key) → is_nil l ≡ true → met F l ≡ true
    nil_met F [] q = refl
    nil_met F (k ∷ l) q = no_bool q

    sort_goes : (c : Forest Marked) (p : Bool) (ks : List Key) (f : Option ℕ) → Goes x c (sort_op p ks f)
    sort_goes none p ks f n e h = absurd (omega arith)
    sort_goes (tree m d r) p ks f n e h =
        let t : Tree = node (sort_op p ks f) x (tree m d r) in
        subst (λ (b : Bool). LiveT (cond b (analyze_immediate_sort_removal p ks f t (at m d)) (update_sort_ctx_children_data false (after_loop t))))
        (sym (nil_met (fact (at m d)) (nf (fact (at m d)) [] ks) e)) (immediate_live p ks f t (at m d) (h.0, h.1))

-- ---- the walk
ensure_sorting_live : (t : Tree) → FitT t → Live (strip t.kids) → LiveT (ensure_sorting t)
ensure_sorting_live t f h = go (constant_sort (op_t t) (strip t.kids)) refl
  where
    same : strip t.kids ≡ strip (connected_each t.kids)
    same = sym (strip_connected t.kids)

    go : (b : Bool) → constant_sort (op_t t) (strip t.kids) ≡ b → LiveT (ensure_sorting t)
    go true e =
        constant_goes false (connected_each t.kids) (op_t t) (subst (λ (g : Plan). FitsA (arity (op_t t)) (count g)) same f.0)
        (subst (λ (g : Plan). constant_sort (op_t t) g ≡ true) same e) (subst Live same h)
    go false e = (ensure_sorting_kept {b = true} {h = true} t f).live (e, h)

walk_live : (f : Plan) → Fit f → Live (strip (transform_up ensure_sorting f))
walk_live none h = tt
walk_live (tree o c r) h =
    let d : Forest Marked = transform_up ensure_sorting c in
    let k : KeepsAll true true true (bare c) d = ensure_kept c h.1 in
    let i : Keeps true true true (node o false (bare c)) (rebuild o false d) = kept_rebuild o false false (bare c) d
    (subst (λ (g : Plan). FitsA (arity o) (count g)) (sym (strip-bare c)) h.0) k in
    let t : LiveT (ensure_sorting (rebuild o false d)) = ensure_sorting_live (rebuild o false d) i.fit (walk_live c h.1) in
    (t.0, t.1, walk_live r h.2)

pub ensure_live : (f : Plan) → Fit f → Live (ensure f)
ensure_live f h = walk_live f h
