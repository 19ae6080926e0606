-- The order check passes after ensuring: `ensure_passes`.
use Rattle.std.specs.Prelude.{◌≡◌, refl, Bool, true, false, cond, not, ◌&&◌, ◌||◌, List, [], ◌∷◌, ℕ, zero, suc, ◌<◌, eqb, ltb, leb, length, get_or, Option, Some, None}
use Rattle.std.proofs.Common.{sym, ap, ap₂, ◌∙◌, subst, arith}
use Rattle.row_order.specs.Iso.{Key}
use Rattle.row_order.proofs.Order.{no_bool}
use Rattle.plan.specs.Forest.{Forest, none, roots, tree}
use Rattle.plan.specs.Op.{coalesce, global_limit, local_limit, merge_op, Op, Plan, repartition, sort_op}
use Rattle.semantics.specs.Facts.{at0, Facts, facts, facts_op, is_nil, met, nf, nothing, prefixb}
use Rattle.semantics.specs.Properties.{fresh_keys, maintains, rebuilt, singles, wanted}
use Rattle.semantics.specs.Check.{check, wants_met}
use Rattle.walks.specs.Marks.{at, cover, fact, kid0, known, Marked, node, op_t, over, rebuild, set_mark, Shape, shape, strip, transform_up, Tree}
use Rattle.walks.specs.Utils.{add_sort_above, new_sort}
use Rattle.walks.specs.OutputRequirements.{output_fetch}
use Rattle.walks.specs.EnsureSorting.{after_loop, connected_each, ensure, ensure_by, ensure_child, ensured_kids, ensure_each, ensure_sorting, analyze_immediate_sort_removal, limited, unmerged, update_child_to_remove_unnecessary_sort, update_sort_ctx_children_data}
use Rattle.walks.specs.Trees.{Arity, arity, count, Fit, FitsA, FitT}
use Rattle.walks.proofs.Theorems.Common.Keeps.{remark-same, shape_ind}
use Rattle.walks.proofs.Theorems.Ensure.Kept.{ensure_kept, strip_connected, strip-unmark}
use Rattle.walks.proofs.Theorems.Common.OrderMet.{fresh_same, met-nf, prefix_refl, wants_in, wants_remark}
use Rattle.walks.proofs.Theorems.Common.ConstantSorts.{fact-canon}
use Rattle.walks.proofs.Theorems.Ensure.Removal.{BareT, Checked, CheckedT, connected_good, connected_kids, connected_marks, good_plant, kid_good, known-connected, known-count, MarkOK, MarksOK, unmark_kids, unmark_marks, update_child_good}

-- ---- a sort on top meets the wanted order
new_sort_bare : (p : Bool) (ks : List Key) (f : Option ℕ) (t : Tree) → CheckedT t → BareT (cover (new_sort p ks f) t)
new_sort_bare p [] f t h = (h.0, h.2)
new_sort_bare p (k ∷ ks) f t h = (refl, (h.0, h.1, h.2, tt))

pub add_sort_met : (w : List Key) (f : Option ℕ) (t : Tree) → met (fact (add_sort_above w f t)) w ≡ true
add_sort_met w f t = go (fresh_keys (fact t) [] w) refl
  where
    F : Facts
    F = fact t

    same_nf : nf F [] (fresh_keys F [] w) ≡ nf F [] w
    same_nf = fresh_same F (fact-canon t) w

    go : (ks : List Key) → fresh_keys F [] w ≡ ks → met (fact (cover (new_sort (ltb 1 F.streams) ks f) t)) w ≡ true
    go [] e = ap (λ (l : List Key). prefixb l F.order) (sym same_nf ∙ ap (nf F []) e)
    go (k ∷ ks) e = ap (λ (l : List Key). prefixb l (nf F [] (k ∷ ks))) (sym same_nf ∙ ap (nf F []) e) ∙ prefix_refl (nf F [] (k ∷ ks))

connected_met : (b : Bool) (t : Tree) (w : List Key) → met (fact (update_sort_ctx_children_data b t)) w ≡ met (fact t) w
connected_met b t w = ap (λ (fs : List Facts). met (facts_op (op_t t) fs) w) (known-connected t.kids)

record EnsuredChild (w : List Key) (t : Tree) : Type 0 where
  good : CheckedT t
  grants : met (fact t) w ≡ true

ensure_child-good : (w : List Key) (b s : Bool) (f : Option ℕ) (t : Tree) → FitT t → CheckedT t → (t.top.mark ≡ true → MarkOK (op_t t) t.kids)
    → EnsuredChild w (ensure_child w b s f t)
ensure_child-good [] b s f t a h k = record { good = go (is_nil (fact t).order || not b); grants = refl }
  where
    go : (x : Bool) → CheckedT (cond x (update_child_to_remove_unnecessary_sort s t) t)
    go true = update_child_good s t a h k
    go false = h
ensure_child-good (v ∷ w) b s f t a h k = go (met (fact t) (v ∷ w)) refl
  where
    u : Tree
    u = cond (is_nil (fact t).order) t (update_child_to_remove_unnecessary_sort s t)

    under : (x : Bool) → CheckedT (cond x t (update_child_to_remove_unnecessary_sort s t))
    under true = h
    under false = update_child_good s t a h k

    go : (x : Bool) → met (fact t) (v ∷ w) ≡ x → EnsuredChild (v ∷ w) (cond x t (update_sort_ctx_children_data true (add_sort_above (v ∷ w) f u)))
    go true e = record { good = h; grants = e }
    go false e =
        record {
          good = connected_good true (add_sort_above (v ∷ w) f u) (new_sort_bare (ltb 1 (fact u).streams) (fresh_keys (fact u) [] (v ∷ w)) f u
              (under (is_nil (fact t).order)));
          grants = connected_met true (add_sort_above (v ∷ w) f u) (v ∷ w) ∙ add_sort_met (v ∷ w) f u;
        }

record EnsuredEach (w : ℕ → List Key) (n : ℕ) (d : Forest Marked) : Type 0 where
  good : Checked d
  grants : (i : ℕ) → i < n → met (get_or (known d) i nothing) (w i) ≡ true
  size : count d ≡ n

ensure_each-good : (w : ℕ → List Key) (b s : ℕ → Bool) (f : Option ℕ) (c : Forest Marked) → Fit (strip c) → Checked c → MarksOK c
    → EnsuredEach w (count c) (ensure_each w b s f c)
ensure_each-good w b s f none a h k = record { good = tt; grants = λ i l. absurd (omega arith); size = refl }
ensure_each-good w b s f (tree m c r) a h k =
    let here : EnsuredChild (w 0) (ensure_child (w 0) (b 0) (s 0) f (at m c)) = ensure_child-good (w 0) (b 0) (s 0) f (at m c) (a.0, a.1) (h.0, h.1, h.2)
    k.0 in
    let rest = ensure_each-good (λ i. w (suc i)) (λ i. b (suc i)) (λ i. s (suc i)) f r a.2 h.3 k.1 in
    record {
      good = good_plant (ensure_child (w 0) (b 0) (s 0) f (at m c)) (ensure_each (λ i. w (suc i)) (λ i. b (suc i)) (λ i. s (suc i)) f r) here.good
          rest.good;
      grants = λ i. elim i as (λ (k : ℕ). k < count (tree m c r) → met (get_or (known (ensure_each w b s f (tree m c r))) k nothing) (w k) ≡ true)
          [ zero ↦ λ l. here.grants | suc j ↦ λ l. rest.grants j (omega arith) ];
      size = ap suc rest.size;
    }

-- ---- the step
after_loop-size : (o : Op) (c : Forest Marked) → Fit (strip c) → Checked c → MarksOK c → count (ensured_kids o c) ≡ count c
after_loop-size o c a h k = (ensure_each-good (wanted o) (maintains o (known c)) (singles o) (output_fetch o) c a h k).size

after_loop_bare : (x : Bool) (o : Op) (c : Forest Marked) → FitsA (arity o) (count c) → Fit (strip c) → Checked c → MarksOK c
    → BareT (after_loop (node o x c))
after_loop_bare x o c f a h k =
    let d : Forest Marked = ensured_kids o c in
    let r : EnsuredEach (wanted o) (count c) d = ensure_each-good (wanted o) (maintains o (known c)) (singles o) (output_fetch o) c a h k in
    let n : length (known d) ≡ count c = known-count d ∙ r.size in
    (wants_remark _ o (known d) ∙ wants_in o (known d) (subst (FitsA (arity o)) (sym n) f) (λ i l. r.grants i (omega arith)), r.good)

unmerged-good : (f : Option ℕ) (t : Tree) → count t.kids ≡ 1 → Checked t.kids → CheckedT (unmerged f t)
unmerged-good None t n h = kid_good t t.kids n h
unmerged-good (Some m) t n h = (refl, λ e. no_bool (sym e), h)

limited-good : (f : Option ℕ) (t c : Tree) → CheckedT c → CheckedT (limited f t c)
limited-good None t c h = (ap (wants_met (op_t c)) (ap facts (strip-unmark c.kids)) ∙ h.0, λ e. unmark_marks c.kids, unmark_kids c.kids h.2)
limited-good (Some n) t c h = go (eqb (fact t).streams 1)
  where
    go : (b : Bool) → CheckedT (over (cond b (global_limit 0 (Some n) (fact t).order) (local_limit (Some n) (fact t).order)) false (set_mark false c))
    go true = (refl, λ e. (λ i. no_bool i, tt), (h.0, h.1, h.2, tt))
    go false = (refl, λ e. (λ i. no_bool i, tt), (h.0, h.1, h.2, tt))

immediate_good : (p : Bool) (ks : List Key) (f : Option ℕ) (x : Bool) (c : Forest Marked) → count c ≡ 1 → Checked c
    → met (at0 (known c)) (nf (at0 (known c)) [] ks) ≡ true
    → CheckedT (analyze_immediate_sort_removal p ks f (node (sort_op p ks f) x c) (kid0 (node (sort_op p ks f) x c) c))
immediate_good p ks f x none n h e = absurd (omega arith)
immediate_good p ks f x (tree m c r) n h e = go (not p && ltb 1 (fact (at m c)).streams)
  where
    go : (b : Bool) → CheckedT (cond b (over (merge_op ks f) false (set_mark false (at m c))) (limited f (node (sort_op p ks f) x (tree m c r)) (at m c)))
    go true = (ap₂ ◌&&◌ (sym (met-nf (fact (at m c)) ks (fact-canon (at m c))) ∙ e) refl, λ l. (λ i. no_bool i, tt), (h.0, h.1, h.2, tt))
    go false = limited-good f (node (sort_op p ks f) x (tree m c r)) (at m c) (h.0, h.1, h.2)

abbrev Ensured : Bool → Forest Marked → Op → Type 0
Ensured x c o = FitsA (arity o) (count c) → Fit (strip c) → Checked c → MarksOK c → CheckedT (ensure_by (shape o) (node o x c))

ensure_by-good : (x : Bool) (c : Forest Marked) (o : Op) → Ensured x c o
ensure_by-good x c =
    shape_ind (Ensured x c)
    (λ p ks f n a h k. sorted p ks f n a h k (met (at0 (known c)) (nf (at0 (known c)) [] ks)) refl)
    (λ ks f n a h k. merged ks f n a h k (leb (at0 (known (ensured_kids (merge_op ks f) c))).streams 1))
    (λ p m q ks n a h k. connected_good false (after_loop (node (repartition p m q ks) x c)) (after_loop_bare x (repartition p m q ks) c n a h k))
    (λ f n a h k. connected_good false (after_loop (node (coalesce f) x c)) (after_loop_bare x (coalesce f) c n a h k))
    (λ o e n a h k. subst (λ (s : Shape). CheckedT (ensure_by s (node o x c))) (sym e)
    (connected_good false (after_loop (node o x c)) (after_loop_bare x o c n a h k)))
  where
    sorted : (p : Bool) (ks : List Key) (f : Option ℕ) → count c ≡ 1 → Fit (strip c) → Checked c → MarksOK c → (b : Bool)
        → met (at0 (known c)) (nf (at0 (known c)) [] ks) ≡ b
        → CheckedT (cond b (analyze_immediate_sort_removal p ks f (node (sort_op p ks f) x c) (kid0 (node (sort_op p ks f) x c) c))
        (update_sort_ctx_children_data false (after_loop (node (sort_op p ks f) x c))))
    sorted p ks f n a h k true e = immediate_good p ks f x c n h e
    sorted p ks f n a h k false e = connected_good false (after_loop (node (sort_op p ks f) x c)) (after_loop_bare x (sort_op p ks f) c n a h k)

    merged : (ks : List Key) (f : Option ℕ) → count c ≡ 1 → Fit (strip c) → Checked c → MarksOK c → (b : Bool)
        → CheckedT (cond b (unmerged f (after_loop (node (merge_op ks f) x c))) (update_sort_ctx_children_data false (after_loop (node (merge_op ks f) x c))))
    merged ks f n a h k true = unmerged-good f (after_loop (node (merge_op ks f) x c)) (after_loop-size (merge_op ks f) c a h k ∙ n)
        (after_loop_bare x (merge_op ks f) c n a h k).1
    merged ks f n a h k false = connected_good false (after_loop (node (merge_op ks f) x c)) (after_loop_bare x (merge_op ks f) c n a h k)

connected_count : (c : Forest Marked) → count (connected_each c) ≡ count c
connected_count none = refl
connected_count (tree m c r) = ap suc (connected_count r)

no_kids : (c : Forest Marked) → is_nil (roots c) ≡ true → count c ≡ 0
no_kids none e = refl
no_kids (tree m c r) e = no_bool e

ensure_sorting-good : (t : Tree) → FitsA (arity (op_t t)) (count t.kids) → Fit (strip t.kids) → Checked t.kids → CheckedT (ensure_sorting t)
ensure_sorting-good t f a h = go (is_nil (roots c)) refl
  where
    c : Forest Marked
    c = connected_each t.kids

    g : Checked c
    g = connected_kids t.kids h

    n : FitsA (arity (op_t t)) (count c)
    n = subst (FitsA (arity (op_t t))) (sym (connected_count t.kids)) f

    go : (b : Bool) → is_nil (roots c) ≡ b
        → CheckedT (cond b (update_sort_ctx_children_data false t) (ensure_by (shape (op_t t)) (update_sort_ctx_children_data false t)))
    go true e =
        let z : length (known c) ≡ count c = known-count c in (
          wants_in (op_t t) (known c) (subst (FitsA (arity (op_t t))) (sym z) n) (λ i l. absurd (omega (arith, no_kids c e))),
          λ l. connected_marks t.kids,
          g,
        )
    go false e = ensure_by-good false c (op_t t) n (subst Fit (sym (strip_connected t.kids)) a) g (connected_marks t.kids)

walk_count : (step : Tree → Tree) (f : Plan) → count (transform_up step f) ≡ count f
walk_count step none = refl
walk_count step (tree o c r) = ap suc (walk_count step r)

ensure-good : (f : Plan) → Fit f → Checked (transform_up ensure_sorting f)
ensure-good none h = tt
ensure-good (tree o c r) h =
    let d : Forest Marked = transform_up ensure_sorting c in
    let like : arity (rebuilt o (known d)) ≡ arity o = remark-same arity _ (λ p q n b ks. refl) o in
    good_plant (ensure_sorting (rebuild o false d)) (transform_up ensure_sorting r)
    (ensure_sorting-good (rebuild o false d)
    (subst (λ (a : Arity). FitsA a (count d)) (sym like) (subst (FitsA (arity o)) (sym (walk_count ensure_sorting c)) h.0))
    (ensure_kept c h.1).fit (ensure-good c h.1))
    (ensure-good r h.2)

good-check : (c : Forest Marked) → Checked c → check (strip c) ≡ true
good-check none h = refl
good-check (tree m c r) h = ap₂ ◌&&◌ h.0 (ap₂ ◌&&◌ (good-check c h.2) (good-check r h.3))

-- ensuring passes
pub ensure_passes : (f : Plan) → Fit f → check (ensure f) ≡ true
ensure_passes f h = good-check (transform_up ensure_sorting f) (ensure-good f h)
