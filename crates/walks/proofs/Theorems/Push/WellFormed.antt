-- Pushing a plan that 01's rules accept makes one that they accept; and all that pushing keeps, said of plans: `push_plan`.
use Rattle.std.specs.Prelude.{◌≡◌, refl, Bool, true, false, cond, ◌||◌, List, [], ◌∷◌, map, ℕ, zero, suc, ◌<◌, min, ltb, leb, length, get_or, Option, Some, None}
use Rattle.std.proofs.Common.{sym, ap, ◌∙◌, subst, arith, ltb-true, lt-ltb}
use Rattle.row_order.specs.Iso.{Key}
use Rattle.row_order.specs.Lists.{All, all_cons, all_nil}
use Rattle.row_order.specs.ListLaws.{all_append, all_head, all_map}
use Rattle.plan.specs.Forest.{Forest, none, roots, tree}
use Rattle.plan.specs.Op.{coalesce, merge_op, Op, Plan, repartition, sort_op}
use Rattle.plan.specs.WellFormed.{fetch_ok, node_ok}
use Rattle.plan.specs.declared.Distribution.{Distribution}
use Rattle.plan.specs.declared.Distribution.TheVariants.{Unspecified}
use Rattle.plan.specs.Numbers.{no_fetch}
use Rattle.semantics.specs.Facts.{at0, compatible, Facts, facts, facts_op, is_nil, met, nf, nothing}
use Rattle.semantics.specs.Properties.{fetches, fetch_op, fresh_keys, rebuilt, sort_dist, uncut, wanted}
use Rattle.semantics.specs.Runs.{Each, Env, Run, SameInputs, Streams}
use Rattle.semantics.specs.Bags.{SameRows}
use Rattle.semantics.specs.Canonical.{Canon}
use Rattle.semantics.proofs.Theorems.Common.Bools.{and_left, and_right}
use Rattle.semantics.proofs.Theorems.Canonical.EveryNode.{canon, nth_canon, op_canon}
use Rattle.walks.specs.Marks.{bare, cover, fact, kid0, known, Marked, node, rebuild, Shape, strip, Tree}
use Rattle.walks.specs.Utils.{needs_merge, new_merge, sort_above_with_distribution}
use Rattle.walks.specs.SortPushdown.{goes, min_fetch, Pushed, stop, child_count, effective_dist}
use Rattle.walks.specs.PushdownSorts.{after_merge, after_try, assign_initial_requirements, at_root, below_sort, below_tops, decide_by, decide_node, decide_sort, Decision, hand_down, merge_added, node_asked, push, push_down, pushdown_sorts, pushdown_sorts_helper, satisfied, sort_added, sort_asked, sort_differs, sort_ordering, sort_replaced, sort_replaced_twice, sort_unasked, sort_unnecessary, stays, tried_again, unasked, unsatisfied, Visit, with_own_distribution}
use Rattle.walks.specs.Counted.{one}
use Rattle.walks.specs.Terms.{Added, blank, clear, Live, passing, skel}
use Rattle.walks.proofs.Theorems.Common.Lists.{all_nth}
use Rattle.walks.proofs.Theorems.Common.Skeleton.{pass_ease}
use Rattle.walks.proofs.Theorems.Common.Base.{blank_widths, ease_blank}
use Rattle.walks.specs.Trees.{arity, count, Fit, FitsA, Ok, OkT}
use Rattle.walks.proofs.Theorems.Common.Trees.{clear_pure, ok_fit, pure_clear}
use Rattle.walks.proofs.Theorems.Common.Keys.{fresh_keys_lem, KeysFit, nf_keys, no_keys}
use Rattle.walks.proofs.Theorems.Common.NewNodes.{fetches_ok, fetch_op_ok, merge_ok, narrow, node_fetch, one_child, orders_fit, sort_ok, wanted-fits}
use Rattle.walks.proofs.Theorems.Common.Keeps.{Keeps, KeepsAll, Like, remark_like, shape_ind, strip-bare}
use Rattle.walks.proofs.Theorems.Common.Rows.{same_plan_rows, SamePlan}
use Rattle.walks.proofs.Theorems.Push.Kept.{above_all, bare_fair, below_kept, Fair, helper_fair, new_merge_all, push_kept, push_pure}
use Rattle.walks.proofs.Theorems.Push.ChildOrders.{pushed_fits, PushedFits, wants_at}

-- ---- what a node of w columns is visited with fits it
pub record VisitFits (w : ℕ) (q : Visit) : Type 0 where
  pub keys : KeysFit w q.req.order
  pub fetch : fetch_ok q.req.fetch ≡ true

abbrev pub EachFits : (ℕ → Visit) → List Facts → Type 0
EachFits q fs = (i : ℕ) → i < length fs → VisitFits (get_or fs i nothing).width (q i)

-- What a decision at a node o over c may be: its new nodes are accepted, and what its children are visited with fits them
pub record Fitted (o : Op) (c : Plan) (D : Decision) : Type 0 where
  pub tops : All (λ p. node_ok p ((facts_op o (facts c)).width ∷ []) ≡ true) D.tops
  pub reqs : EachFits D.reqs (facts c)

fitted_cond : (o : Op) (c : Plan) (x : Bool) (D E : Decision) → Fitted o c D → Fitted o c E → Fitted o c (cond x D E)
fitted_cond o c true D E h k = h
fitted_cond o c false D E h k = k

min_ok : (f g : Option ℕ) → fetch_ok f ≡ true → fetch_ok g ≡ true → fetch_ok (min_fetch f g) ≡ true
min_ok None g p q = q
min_ok (Some m) None p q = p
min_ok (Some m) (Some n) p q = lt-ltb (min m n) no_fetch (omega (arith, ltb-true m no_fetch p, ltb-true n no_fetch q))

-- ---- new nodes over a node of facts F
module _ (F : Facts) (n : leb F.width 32 ≡ true) where
  above_accepted : (ks : List Key) (f : Option ℕ) (d : Distribution) → KeysFit F.width ks → fetch_ok f ≡ true → All (λ p. node_ok p (F.width ∷ []) ≡ true)
      (sort_above_with_distribution F ks f d)
  above_accepted ks f d h e =
      above_all F ks f d
      (λ k l q.
      let fit : KeysFit F.width (k ∷ l) = subst (KeysFit F.width) q (fresh_keys_lem F F.width ks h) in
      (merge_ok k l f (F.width ∷ []) fit e (refl, n), sort_ok (ltb 1 F.streams) k l f (F.width ∷ []) fit e (refl, n)))

  merge_accepted : (ks : List Key) (f : Option ℕ) → KeysFit F.width ks → fetch_ok f ≡ true → All (λ p. node_ok p (F.width ∷ []) ≡ true) (new_merge ks f)
  merge_accepted ks f h e = new_merge_all ks f (λ k l q. merge_ok k l f (F.width ∷ []) (subst (KeysFit F.width) q h) e (refl, n))

-- ---- a node o over c that is no sort
fitted_like : {o p : Op} (c : Plan) (D : Decision) → Like o p → Fitted p c D → Fitted o c D
fitted_like {o} {p} c D l h = record {
  tops = subst (λ (F : Facts). All (λ x. node_ok x (F.width ∷ []) ≡ true) D.tops) (l.base (facts c)) h.tops;
  reqs = h.reqs;
}

module _ (q : Visit) (c : Plan) (hc : Ok c) where
  own_distributions : (o : Op) → EachFits (with_own_distribution o) (facts c)
  own_distributions o i l = record { keys = no_keys; fetch = refl }

  handed : (o : Op) (ks : ℕ → List Key) (f : Option ℕ) (d : Distribution) → fetch_ok f ≡ true → PushedFits (facts c) (goes ks) → EachFits (hand_down ks f d o)
      (facts c)
  handed o ks f d e h i l = record { keys = h i l; fetch = e }

  initial : (o : Op) → node_ok o (map (λ F. F.width) (facts c)) ≡ true → EachFits (assign_initial_requirements o c) (facts c)
  initial o e i l = record { keys = wants_at (wanted o) (facts c) (wanted-fits o (facts c) e) i l; fetch = all_nth None refl (fetches_ok c hc) i }

  module _ (o : Op) (e : node_ok o (map (λ F. F.width) (facts c)) ≡ true) (hq : VisitFits (facts_op o (facts c)).width q) where
    n : leb (facts_op o (facts c)).width 32 ≡ true
    n = narrow o (facts c) e

    canonical : Canon (facts_op o (facts c))
    canonical = op_canon o (facts c) (canon c)

    own : fetch_ok (fetch_op o (fetches c)) ≡ true
    own = fetch_op_ok o (map (λ G. G.width) (facts c)) (fetches c) e (fetches_ok c hc)

    both_fetches : fetch_ok (min_fetch (fetch_op o (fetches c)) q.req.fetch) ≡ true
    both_fetches = min_ok (fetch_op o (fetches c)) q.req.fetch own hq.fetch

    first_fitted : (x : Bool) → Fitted o c (stays o (cond x (assign_initial_requirements o c) (with_own_distribution o)))
    first_fitted true = record { tops = all_nil; reqs = initial o e }
    first_fitted false = record { tops = all_nil; reqs = own_distributions o }

    new : KeysFit (facts_op o (facts c)).width (fresh_keys (facts_op o (facts c)) [] q.req.order)
    new = fresh_keys_lem (facts_op o (facts c)) (facts_op o (facts c)).width q.req.order hq.keys

    again : KeysFit (facts_op o (facts c)).width (nf (facts_op o (facts c)) [] (fresh_keys (facts_op o (facts c)) [] q.req.order))
    again = nf_keys (facts_op o (facts c)) canonical.classes (facts_op o (facts c)).width (fresh_keys (facts_op o (facts c)) [] q.req.order) new

    after_fitted : (u : Pushed) → PushedFits (facts c) u → Fitted o c (after_merge u q o c)
    after_fitted stop h =
        record {
          tops = all_append (merge_accepted (facts_op o (facts c)) n (fresh_keys (facts_op o (facts c)) [] q.req.order) q.req.fetch new hq.fetch)
              (above_accepted (facts_op o (facts c)) n (nf (facts_op o (facts c)) [] (fresh_keys (facts_op o (facts c)) [] q.req.order))
              q.req.fetch Unspecified again hq.fetch);
          reqs = own_distributions o;
        }
    after_fitted (goes ks) h =
        record {
          tops = merge_accepted (facts_op o (facts c)) n (fresh_keys (facts_op o (facts c)) [] q.req.order) q.req.fetch new hq.fetch;
          reqs = handed o ks (min_fetch (fetch_op o (fetches c)) q.req.fetch) Unspecified both_fetches h;
        }

    sort_added_lem : Fitted o c (sort_added q o c)
    sort_added_lem = record {
      tops = above_accepted (facts_op o (facts c)) n q.req.order q.req.fetch q.req.dist hq.keys hq.fetch;
      reqs = own_distributions o;
    }

    went : (ks : ℕ → List Key) → PushedFits (facts c) (goes ks) → Fitted o c (after_try (goes ks) q o c)
    went ks h = record {
      tops = all_nil;
      reqs = handed o ks (min_fetch (fetch_op o (fetches c)) q.req.fetch)
          (effective_dist (facts_op o (facts c)) q.req.dist) both_fetches h;
    }

    contented : Fitted o c (satisfied q o c)
    contented = record {
      tops = all_nil;
      reqs = handed o (wanted o) q.req.fetch (effective_dist (facts_op o (facts c)) q.req.dist) hq.fetch
          (wants_at (wanted o) (facts c) (wanted-fits o (facts c) e));
    }

    push_fits : (ks : List Key) → KeysFit (facts_op o (facts c)).width ks → PushedFits (facts c) (push_down ks q o c)
    push_fits ks h = pushed_fits (facts c) ks o (fetch_op o (fetches c)) (child_count c) q.req.fetch e h

  -- the node is rebuilt before it is tried again
  merge_added_lem : (o : Op) → node_ok o (map (λ F. F.width) (facts c)) ≡ true → VisitFits (facts_op o (facts c)).width q → Fitted o c (merge_added q o c)
  merge_added_lem o e hq =
      let p : Op = rebuilt o (facts c) in
      let l : Like o p = remark_like _ o in
      let ep : node_ok p (map (λ F. F.width) (facts c)) ≡ true = l.ok (map (λ F. F.width) (facts c)) e in
      let same : (facts_op p (facts c)).width ≡ (facts_op o (facts c)).width = ap (λ (F : Facts). F.width) (l.base (facts c)) in
      let hp : VisitFits (facts_op p (facts c)).width q = subst (λ (w : ℕ). VisitFits w q) (sym same) hq in
      fitted_like c (merge_added q o c) l
      (after_fitted p ep hp (tried_again q o c) (push_fits p ep hp (nf (facts_op o (facts c)) [] (fresh_keys (facts_op o (facts c)) [] q.req.order))
      (subst (λ (w : ℕ). KeysFit w (nf (facts_op o (facts c)) [] (fresh_keys (facts_op o (facts c)) [] q.req.order))) (sym same) (again o e hq))))

  node_fitted : (o : Op) → node_ok o (map (λ F. F.width) (facts c)) ≡ true → VisitFits (facts_op o (facts c)).width q → Fitted o c (decide_node q o c)
  node_fitted o e hq =
      fitted_cond o c (is_nil q.req.order) (unasked q o c) (node_asked q o c) (first_fitted o e hq q.root)
      (fitted_cond o c (met (facts_op o (facts c)) q.req.order) (satisfied q o c) (unsatisfied q o c) (contented o e hq)
      (tried (push_down q.req.order q o c) (push_fits o e hq q.req.order hq.keys)))
    where
      tried : (u : Pushed) → PushedFits (facts c) u → Fitted o c (after_try u q o c)
      tried (goes ks) h = went o e hq ks h
      tried stop h = fitted_cond o c (needs_merge (facts_op o (facts c)) q.req.dist) (merge_added q o c) (sort_added q o c) (merge_added_lem o e hq)
          (sort_added_lem o e hq)

  -- ---- a sort: its one child has its columns
  sort_fitted : (p : Bool) (ks : List Key) (f : Option ℕ) → node_ok (sort_op p ks f) (map (λ F. F.width) (facts c)) ≡ true → VisitFits (at0 (facts c)).width q
      → Fitted (sort_op p ks f) c (decide_sort p ks f q c)
  sort_fitted p ks f e hq =
      fitted_cond o c (is_nil q.req.order) (sort_unasked p ks f q c) (sort_asked p ks f q c)
      (record {
        tops = all_nil;
        reqs = below (min_fetch f q.req.fetch) (cond q.root (sort_dist p) Unspecified) own
            (min_ok f q.req.fetch hf hq.fetch) own_fits;
      })
      (fitted_cond o c (met G q.req.order || compatible G q.req.order G.order) (sort_unnecessary p ks f q c) (sort_differs p ks f q c)
      (record {
        tops = all_nil;
        reqs = below (min_fetch f q.req.fetch) Unspecified (cond (compatible C own q.req.order) own q.req.order)
            (min_ok f q.req.fetch hf hq.fetch) (stricter (compatible C own q.req.order));
      })
      (fitted_cond o c (needs_merge C q.req.dist) (sort_replaced_twice p ks f q c) (sort_replaced p ks f q c)
      (record {
        tops = all_append (merge_accepted C n (fresh_keys C [] q.req.order) q.req.fetch fresh hq.fetch)
            (above_accepted C n own f Unspecified own_fits hf);
        reqs = below q.req.fetch Unspecified (nf C [] (fresh_keys C [] q.req.order))
            hq.fetch (nf_keys C (nth_canon (facts c) (canon c) 0).classes C.width (fresh_keys C [] q.req.order) fresh);
      })
      (record {
        tops = above_accepted C n q.req.order q.req.fetch q.req.dist hq.keys hq.fetch;
        reqs = below f Unspecified own hf own_fits;
      })))
    where
      o : Op
      o = sort_op p ks f

      C : Facts
      C = at0 (facts c)

      G : Facts
      G = facts_op (sort_op p ks f) (facts c)

      own : List Key
      own = sort_ordering p ks f c

      hf : fetch_ok f ≡ true
      hf = node_fetch (sort_op p ks f) (map (λ F. F.width) (facts c)) e

      n : leb (at0 (facts c)).width 32 ≡ true
      n = narrow (sort_op p ks f) (facts c) e

      one : length (facts c) ≡ 1
      one = one_child (facts c) (search (and_left, and_right))

      own_fits : KeysFit (at0 (facts c)).width (sort_ordering p ks f c)
      own_fits = all_head (orders_fit (tree (sort_op p ks f) c none) (e, hc, tt))

      fresh : KeysFit (at0 (facts c)).width (fresh_keys (at0 (facts c)) [] q.req.order)
      fresh = fresh_keys_lem (at0 (facts c)) (at0 (facts c)).width q.req.order hq.keys

      stricter : (b : Bool) → KeysFit (at0 (facts c)).width (cond b (sort_ordering p ks f c) q.req.order)
      stricter true = own_fits
      stricter false = hq.keys

      below : (g : Option ℕ) (d : Distribution) (l : List Key) → fetch_ok g ≡ true → KeysFit (at0 (facts c)).width l
          → EachFits (λ i. below_sort (record { order = l; fetch = g; dist = d })) (facts c)
      below g d l x h zero j = record { keys = h; fetch = x }
      below g d l x h (suc i) j = absurd (omega (arith, one))

  pub helper_fitted : (o : Op) → node_ok o (map (λ F. F.width) (facts c)) ≡ true → VisitFits (facts_op o (facts c)).width q
      → Fitted o c (pushdown_sorts_helper q o c)
  helper_fitted =
      shape_ind (λ o. node_ok o (map (λ F. F.width) (facts c)) ≡ true → VisitFits (facts_op o (facts c)).width q → Fitted o c (pushdown_sorts_helper q o c))
      (λ p ks f e hq. sort_fitted p ks f e hq)
      (λ ks f e hq. touched q.touch (merge_op ks f) e hq)
      (λ p n h ks e hq. touched q.touch (repartition p n h ks) e hq)
      (λ f e hq. touched q.touch (coalesce f) e hq)
      (λ o s e hq. subst (λ (z : Shape). Fitted o c (decide_by z q (cond q.touch (rebuilt o (facts c)) o) c)) (sym s) (touched q.touch o e hq))
    where
      touched : (x : Bool) (o : Op) → node_ok o (map (λ F. F.width) (facts c)) ≡ true → VisitFits (facts_op o (facts c)).width q
          → Fitted o c (decide_node q (cond x (rebuilt o (facts c)) o) c)
      touched true o e hq =
          let l : Like o (rebuilt o (facts c)) = remark_like _ o in
          fitted_like c (decide_node q (rebuilt o (facts c)) c) l (node_fitted (rebuilt o (facts c)) (l.ok (map (λ F. F.width) (facts c)) e)
          (subst (λ (F : Facts). VisitFits F.width q) (sym (l.base (facts c))) hq))
      touched false o e hq = node_fitted o e hq

-- ---- a decision carried out
cover_ok : (w : ℕ) (ts : List Op) (t : Tree) → (fact t).width ≡ w → All (λ p. passing p ≡ true) ts → All (λ p. node_ok p (w ∷ []) ≡ true) ts → OkT t
    → OkT (cover ts t) × ((fact (cover ts t)).width ≡ w)
cover_ok w [] t e hs ks v = (v, e)
cover_ok w (o ∷ os) t e (all_cons h hs) (all_cons k ks) v =
    let r = cover_ok w os t e hs ks v in
    let u : Tree = cover os t in (
      (subst (λ (x : ℕ). node_ok o (x ∷ []) ≡ true) (sym r.1) k, (r.0.0, r.0.1, tt)),
      ap (λ (F : Facts). F.width)
          (ease_blank o (fact u ∷ []) (pass_ease o h)) ∙ r.1,
    )

kid_ok : (t : Tree) (d : Forest Marked) → OkT t → Ok (strip d) → OkT (kid0 t d)
kid_ok t none h k = h
kid_ok t (tree m d r) h k = (k.0, k.1)

pub push_ok : (q : ℕ → Visit) (f : Plan) → EachFits q (facts f) → Ok f → Ok (strip (pushdown_sorts q f))
push_ok q none g h = tt
push_ok q (tree o c r) g h =
    let D : Decision = pushdown_sorts_helper (q 0) o c in
    let F : Fitted o c D = helper_fitted (q 0) c h.1 o h.0 (g 0 (omega arith)) in
    let fair : Fair o (facts c) D = helper_fair (q 0) c o in
    let d : Forest Marked = pushdown_sorts D.reqs c in
    let fc : Fit c = ok_fit c h.1 in
    let k : KeepsAll false false false (bare c) d = push_kept D.reqs c fc in
    let fo : FitsA (arity o) (count (strip (bare c))) = subst (λ (x : Plan). FitsA (arity o) (count x)) (sym (strip-bare c)) (ok_fit (tree o c r) h).0 in
    let below : Keeps false false false (node o false (bare c)) (below_tops D d) = below_kept o D (bare c) d (bare_fair (q 0) c o) fo k in
    let ih : Ok (strip d) = push_ok D.reqs c F.reqs h.1 in
    let ws : map (λ G. G.width) (known d) ≡ map (λ G. G.width) (facts c) =
    blank_widths (known d) (facts c) (k.bases ∙ ap (λ (x : Plan). map blank (facts x)) (strip-bare c)) in
    let w : (fact (below_tops D d)).width ≡ (facts_op o (facts c)).width = ap (λ (G : Facts). G.width) below.base
    ∙ ap (λ (x : Plan). (facts_op o (facts x)).width) (strip-bare c) in
    let v = cover_ok (facts_op o (facts c)).width D.tops (below_tops D d) w (all_map (λ p h. h.0) fair.tops) F.tops
    (go D.gone D.op d ih (subst (λ (l : List ℕ). node_ok D.op l ≡ true) (sym ws) (fair.like.ok (map (λ G. G.width) (facts c)) h.0))) in
    (v.0.0, v.0.1, push_ok (λ i. q (suc i)) r (λ i l. g (suc i) (omega arith)) h.2)
  where
    go : (x : Bool) (p : Op) (d : Forest Marked) → Ok (strip d) → node_ok p (map (λ G. G.width) (known d)) ≡ true
        → OkT (cond x (kid0 (node p false d) d) (rebuild p false d))
    go true p d ih e = kid_ok (node p false d) d (e, ih) ih
    go false p d ih e = ((remark_like _ p).ok (map (λ G. G.width) (known d)) e, ih)

-- ---- pushing, said of plans
pub root_fits : (f : Plan) → EachFits (λ i. at_root) (facts f)
root_fits f i l = record { keys = no_keys; fetch = refl }

pub push_plan : (f : Plan) → Fit f → SamePlan false f (push f)
push_plan f h =
    let k : KeepsAll false false false (bare f) (pushdown_sorts (λ i. at_root) f) = push_kept (λ i. at_root) f h in
    record {
      fit = k.fit;
      uncut = λ e. pure_clear (push f) (push_pure (λ i. at_root) f (λ i. refl) (clear_pure f e));
      ok = λ v. push_ok (λ i. at_root) f (root_fits f) v;
      bones = subst (λ (g : Plan). Added false (skel g) (skel (push f))) (strip-bare f) k.bones;
      number = k.same ∙ ap (λ (g : Plan). count g) (strip-bare f);
      bases = k.bases ∙ ap (λ (g : Plan). map blank (facts g)) (strip-bare f);
      live = λ v. k.live (subst Live (sym (strip-bare f)) v);
    }

pub push_rows : {E E' : Env} (f : Plan) {x y : Forest Streams} → SameInputs E E' f → Fit f → clear f ≡ true → Run E 0 0 f x → Run E' 0 0 (push f) y
    → Each SameRows (roots x) (roots y)
push_rows f d h e = same_plan_rows f (push f) d h e (push_plan f h)
