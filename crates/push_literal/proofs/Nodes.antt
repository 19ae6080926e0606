-- The Rust's walk (PushdownSortsLiteral) at a node that is no sort agrees with the structural walk's decision there.
use Rattle.std.specs.Prelude.{◌≡◌, refl, Bool, true, false, cond, ◌&&◌, ◌||◌, List, [], ◌∷◌, ◌++◌, ℕ, suc, ◌+◌, ◌*◌, ◌≤◌, eqb, ltb, Option, Some, None}
use Rattle.std.proofs.Common.{sym, ap, ap₂, ◌∙◌, subst, arith}
use Rattle.row_order.specs.Iso.{Key}
use Rattle.plan.specs.Forest.{Forest, none, tree, size}
use Rattle.plan.specs.Op.{Op, Plan, sort_op}
use Rattle.plan.specs.declared.Distribution.{Distribution}
use Rattle.plan.specs.declared.Distribution.TheVariants.{Unspecified}
use Rattle.plan.specs.declared.Refusal.TheVariants.{TooManyNodes}
use Rattle.semantics.specs.Facts.{Facts, facts, facts_op, is_nil, met, nf, prefixb}
use Rattle.semantics.specs.Properties.{dist_of, fetches, fetch_op, fresh_keys, rebuilt, sort_dist, wanted}
use Rattle.semantics.specs.Canonical.{Canon}
use Rattle.semantics.proofs.Theorems.Canonical.EveryNode.{canon, op_canon}
use Rattle.walks.specs.Marks.{cover_with, Marked, node, over, plant, rebuild, strip, Tree}
use Rattle.walks.specs.Utils.{is_sort, merge_above, needs_merge, sort_above_with_distribution}
use Rattle.walks.specs.SortPushdown.{default_requirements, goes, min_fetch, ParentRequirements, Pushed, stop, stronger_distribution, effective_dist}
use Rattle.walks.specs.PushdownSorts.{after_merge, after_try, asked, assign_initial_requirements, covered, Decision, decide_node, hand_down, merge_added, new_ordering, node_asked, push_down, satisfied, sort_added, stays, unasked, unsatisfied, Visit, with_own_distribution}
use Rattle.walks.specs.Counted.{bind, Counted, counted, stopped}
use Rattle.push_literal.specs.PushdownSortsLiteral.{after_call, assign_initial, calls_itself, helper, Outcome, returns, SortPushDown, transform_down}
use Rattle.walks.proofs.Theorems.Common.Keeps.{remark-same}
use Rattle.walks.proofs.Theorems.Common.OrderMet.{fresh_same, fresh_some, met-nf, nf_twice, prefix_refl, prefix_some}
use Rattle.walks.proofs.Theorems.Parallelize.Bottlenecks.{rebuilt_facts}
use Rattle.walks.proofs.Theorems.Calls.Counts.{count_by}
use Rattle.push_literal.proofs.Contexts.{BelowRoot, holding, kids_hold, plan_resting, resting, size-holding, size-resting}
use Rattle.push_literal.proofs.Agrees.{AgreesT, Below, by_bool, by_call, carried_at, decided_at, over-returned, returned, returned_full, twice}
use Rattle.push_literal.proofs.HelperCalls.{above_merge, above_sort, cond_yes, new_merge_over, new_sort_over, node-goes, node_satisfies_lem, node_stops, node_unrequired_lem, one_merge, unnecessary_call}

pub min_none : (f : Option ℕ) → min_fetch f None ≡ f
min_none None = refl
min_none (Some m) = refl

min_same : (f : Option ℕ) → min_fetch f f ≡ f
min_same None = refl
min_same (Some m) = ap Some (omega arith)

effective_none : (F : Facts) → effective_dist F Unspecified ≡ Unspecified
effective_none F = go (eqb F.streams 1)
  where
    go : (b : Bool) → cond b Unspecified Unspecified ≡ Unspecified
    go true = refl
    go false = refl

pub no_merge : (F : Facts) → needs_merge F Unspecified ≡ false
no_merge F = go (ltb 1 F.streams)
  where
    go : (b : Bool) → b && false ≡ false
    go true = refl
    go false = refl

-- ---- the second call: the new sort, visited with its own order, goes, and the node under it is tried once more
sort_goes : (p : Bool) (new : List Key) (f : Option ℕ) (o : Op) (d : ParentRequirements) (c : Plan) → is_nil new ≡ false →
    is_nil (nf (facts_op o (facts c)) [] new) ≡ false → Canon (facts_op o (facts c)) →
    helper (node (sort_op p new f) (record { order = new; fetch = f; dist = Unspecified }) (tree (record { op = o; mark = d }) (resting c) none))
    ≡ calls_itself (node (rebuilt o (facts c)) (record { order = nf (facts_op o (facts c)) [] new; fetch = f; dist = Unspecified }) (resting c))
sort_goes p new f o d c e s k =
    unnecessary_call p new f (record { order = new; fetch = f; dist = Unspecified }) o d (resting c) G (rebuilt o (facts c))
    (ap (λ (z : Plan). facts_op o (facts z)) (plan_resting c)) (ap (λ (z : Plan). rebuilt o (facts z)) (plan_resting c)) e s
    (ap (λ (b : Bool). b || prefixb (nf G [] own) own) (prefix_refl own))
    ∙ ap₂ (λ (l : List Key) (h : Option ℕ). calls_itself (node (rebuilt o (facts c)) (record { order = l; fetch = h; dist = Unspecified }) (resting c)))
    (cond_yes (prefixb own (nf G [] own)) own new (ap (λ (l : List Key). prefixb own l) (nf_twice G k new) ∙ prefix_refl own)) (min_same f)
  where
    G : Facts
    G = facts_op o (facts c)

    own : List Key
    own = nf G [] new

module _ (full : ℕ → Bool) (mono : (m n : ℕ) → m ≤ n → full n ≡ false → full m ≡ false) (c : Plan) (ih : Below full c) where
  -- The call returned the node over its old children
  stays_step : (n k : ℕ) → 4 * size c ≤ n → (t : SortPushDown) (o : Op) (d : ParentRequirements) (g : ℕ → ParentRequirements) →
      helper t ≡ returns (node o d (holding g c)) →
      AgreesT k (transform_down full (suc n) k t) (carried_at full c (stays o (λ i. asked (g i))) (suc (size c) + k) false)
  stays_step n k l t o d g he =
      by_call full n k t he
      (decided_at full (stays o (λ i. asked (g i))) c (suc (size c) + k) (suc (size c) + k) (suc (size c) + k) k refl (omega arith) (omega arith)
      (λ e. returned_full full n k (node o d (holding g c)) (ap (λ (s : ℕ). full (suc s + k)) (size-holding g c) ∙ e))
      (λ e. returned full c ih n k l o d g e))

  -- No order is required of it
  unrequired_step : (o : Op) → is_sort o ≡ false → (d : ParentRequirements) → is_nil d.order ≡ true → (n k : ℕ) → 4 * size c ≤ n →
      full (suc (size c) + k) ≡ false →
      AgreesT k (transform_down full (suc n) k (node o d (resting c)))
      (bind (count_by full (with_own_distribution o) (suc (size c) + k) c) (λ x m. counted (rebuild o false x) m))
  unrequired_step o ns d e n k l fe =
      by_call full n k (node o d (resting c)) (node_unrequired_lem o ns d c (λ i. default_requirements) e)
      (returned full c ih n k l o d (λ i. (with_own_distribution o i).req) fe)

  -- A sort is put over it
  sorted_step : (o : Op) → is_sort o ≡ false → (d : ParentRequirements) → is_nil d.order ≡ false → met (facts_op o (facts c)) d.order ≡ false →
      push_down d.order (asked d) o c ≡ stop → is_nil (fresh_keys (facts_op o (facts c)) [] d.order) ≡ false →
      needs_merge (facts_op o (facts c)) d.dist ≡ false →
      (n k : ℕ) → 4 * size c ≤ n → full (suc (suc (size c)) + k) ≡ false →
      AgreesT k (transform_down full (suc (suc n)) k (node o d (resting c)))
      (bind (count_by full (with_own_distribution o) (suc (size c) + suc k) c)
      (λ x i. counted (over (new_sort_over (facts_op o (facts c)) d.order d.fetch) false (rebuild o false x)) i))
  sorted_step o ns d e m t s nm n k l fe =
      by_call full (suc n) k (node o d (resting c))
      (node_stops o ns d c e m (λ i. default_requirements) t (S ∷ []) (above_sort (facts_op o (facts c)) d.order d.fetch s d.dist nm))
      (subst (λ (y : Counted Tree). AgreesT k
      (after_call full (λ j u. transform_down full (suc n) j u) k (returns (node S default_requirements (plant under none)))) y)
      (twice below (rebuild o false) (over S false))
      (over-returned full (suc n) k S default_requirements under (bind below (λ x i. counted (rebuild o false x) i)) (λ fs. refl)
      (ap (λ (j : ℕ). full (suc (suc j) + k)) (size-resting c) ∙ fe)
      (unrequired_step o ns under.top.mark refl n (suc k) l (ap full (omega arith) ∙ fe))))
    where
      S : Op
      S = new_sort_over (facts_op o (facts c)) d.order d.fetch

      under : SortPushDown
      under =
          node o (record { order = []; fetch = fetch_op o (fetches (strip (resting c))); dist = sort_dist (ltb 1 (facts_op o (facts c)).streams) })
          (resting c)

      below : Counted (Forest Marked)
      below = count_by full (with_own_distribution o) (suc (size c) + suc k) c

  -- An order is required of it: v says which
  module _ (v : Visit) (o : Op) (ns : is_sort o ≡ false) (e : is_nil v.req.order ≡ false) (n k : ℕ) (l : 4 * size c ≤ n) where
    abbrev F : Facts
    F = facts_op o (facts c)

    abbrev Q : List Key
    Q = v.req.order

    abbrev start : SortPushDown
    start = node o v.req (resting c)

    abbrev asking : Outcome SortPushDown
    asking = transform_down full (suc (suc (suc (suc n)))) k start

    abbrev Target : Decision → Type 0
    Target D = AgreesT k asking (carried_at full c D (suc (size c) + k) false)

    abbrev handed : (ℕ → List Key) → Option ℕ → ℕ → ParentRequirements
    handed ks f i = record { order = ks i; fetch = f; dist = stronger_distribution (effective_dist F v.req.dist) (dist_of o i) }

    canonical : Canon F
    canonical = op_canon o (facts c) (canon c)

    some : met F Q ≡ false → is_nil (fresh_keys F [] Q) ≡ false
    some m = fresh_some F canonical Q (prefix_some (nf F [] Q) F.order m)

    satisfied_step : met F Q ≡ true → Target (satisfied v o c)
    satisfied_step m =
        subst (λ (f : Option ℕ). Target (stays o (λ i. asked (handed (wanted o) f i)))) (min_none v.req.fetch)
        (stays_step (suc (suc (suc n))) k (omega arith) start o v.req (handed (wanted o) (min_fetch v.req.fetch None))
        (node_satisfies_lem o ns v.req c e m (λ i. default_requirements)))

    goes_step : met F Q ≡ false → (ks : ℕ → List Key) → push_down Q v o c ≡ goes ks → Target (after_try (goes ks) v o c)
    goes_step m ks t =
        stays_step (suc (suc (suc n))) k (omega arith) start o (record { order = []; fetch = v.req.fetch; dist = v.req.dist })
        (handed ks (min_fetch (fetch_op o (fetches c)) v.req.fetch))
        (node-goes o ns v.req c e m (λ i. default_requirements) ks t)

    added_step : met F Q ≡ false → push_down Q v o c ≡ stop → needs_merge F v.req.dist ≡ false → Target (sort_added v o c)
    added_step m t nm =
        subst (λ (ts : List Op). Target (covered ts 0 o (with_own_distribution o))) (sym tops)
        (decided_at full D c (suc (size c) + k) (suc (size c) + suc k) (suc (suc (size c)) + k) k refl (omega arith) (omega arith)
        (λ w. by_call full (suc (suc (suc n))) k start (node_stops o ns v.req c e m (λ i. default_requirements) t (S ∷ []) tops)
        (returned_full full (suc (suc (suc n))) k (assign_initial (cover_with default_requirements (S ∷ []) start))
        (ap full (omega (arith, size-resting c)) ∙ w)))
        (λ w. sorted_step o ns v.req e m t (some m) nm (suc (suc n)) k (omega arith) w))
      where
        S : Op
        S = new_sort_over F Q v.req.fetch

        D : Decision
        D = covered (S ∷ []) 0 o (with_own_distribution o)

        tops : sort_above_with_distribution F Q v.req.fetch v.req.dist ≡ S ∷ []
        tops = above_sort F Q v.req.fetch (some m) v.req.dist nm

    -- A merge and a sort are put over it
    module _ (m : met F Q ≡ false) (t : push_down Q v o c ≡ stop) (nm : needs_merge F v.req.dist ≡ true) where
      abbrev o₂ : Op
      o₂ = rebuilt o (facts c)

      abbrev F₂ : Facts
      F₂ = facts_op o₂ (facts c)

      -- What the third call finds at the node, by its facts
      abbrev again : Facts → ParentRequirements
      again H = record { order = new_ordering H Q; fetch = v.req.fetch; dist = Unspecified }

      E : F ≡ F₂
      E = sym (rebuilt_facts o (facts c))

      canonical₂ : Canon F₂
      canonical₂ = op_canon o₂ (facts c) (canon c)

      ns₂ : is_sort o₂ ≡ false
      ns₂ = remark-same is_sort _ (λ p q i h ks. refl) o ∙ ns

      same₂ : new_ordering F₂ Q ≡ nf F₂ [] Q
      same₂ = fresh_same F₂ canonical₂ Q

      unmet₂ : met F₂ Q ≡ false
      unmet₂ = ap (λ (H : Facts). met H Q) (sym E) ∙ m

      e₂ : is_nil (new_ordering F₂ Q) ≡ false
      e₂ = ap is_nil same₂ ∙ prefix_some (nf F₂ [] Q) F₂.order unmet₂

      m₂ : met F₂ (new_ordering F₂ Q) ≡ false
      m₂ = met-nf F₂ (fresh_keys F₂ [] Q) canonical₂ ∙ ap (λ (ls : List Key). prefixb ls F₂.order) same₂ ∙ unmet₂

      s₂ : is_nil (fresh_keys F₂ [] (new_ordering F₂ Q)) ≡ false
      s₂ = fresh_some F₂ canonical₂ (new_ordering F₂ Q) (ap is_nil (nf_twice F₂ canonical₂ (fresh_keys F₂ [] Q)) ∙ e₂)

      abbrev M : Op
      M = new_merge_over F Q v.req.fetch

      abbrev new_sorted : SortPushDown
      new_sorted = node (new_sort_over F Q v.req.fetch) (record { order = fresh_keys F [] Q; fetch = v.req.fetch; dist = Unspecified }) (plant start none)

      first_call : helper start ≡ returns (node M default_requirements (plant new_sorted none))
      first_call =
          node_stops o ns v.req c e m (λ i. default_requirements) t (M ∷ new_sort_over F Q v.req.fetch ∷ [])
          (above_merge F Q v.req.fetch (some m) v.req.dist nm)

      second_call : helper new_sorted ≡ calls_itself (node o₂ (again F) (resting c))
      second_call =
          sort_goes (ltb 1 F.streams) (fresh_keys F [] Q) v.req.fetch o v.req c (some m)
          (ap is_nil (fresh_same F canonical Q) ∙ prefix_some (nf F [] Q) F.order m) canonical

      -- What the third call, at the node, agrees with, the whole does with a merge over it
      merged_by : (Y : Counted Tree) → full (suc (suc (suc (size c))) + k) ≡ false →
          AgreesT (suc k) (transform_down full (suc (suc n)) (suc k) (node o₂ (again F₂) (resting c))) Y →
          AgreesT k asking (bind Y (λ u i. counted (over M false u) i))
      merged_by Y w h =
          by_call full (suc (suc (suc n))) k start first_call
          (over-returned full (suc (suc (suc n))) k M default_requirements new_sorted Y (λ fs. refl) (ap full (omega (arith, size-resting c)) ∙ w)
          (by_call full (suc (suc n)) (suc k) new_sorted second_call
          (subst (λ (H : Facts). AgreesT (suc k) (transform_down full (suc (suc n)) (suc k) (node o₂ (again H) (resting c))) Y) (sym E) h)))

      too_many : full (suc (suc (suc (size c))) + k) ≡ true → AgreesT k asking (stopped TooManyNodes)
      too_many w =
          by_call full (suc (suc (suc n))) k start first_call
          (returned_full full (suc (suc (suc n))) k (node M default_requirements (plant new_sorted none)) (ap full (omega (arith, size-resting c)) ∙ w))

      tops : merge_above F₂ Q v.req.fetch ≡ M ∷ []
      tops = ap (λ (H : Facts). merge_above H Q v.req.fetch) (sym E) ∙ one_merge F Q v.req.fetch (some m)

      merged_tries : (U : Pushed) → push_down (new_ordering F₂ Q) v o₂ c ≡ U → Target (after_merge U v o₂ c)
      merged_tries (goes ks) u =
          subst (λ (ts : List Op). Target (covered ts 1 o₂ (hand_down ks (min_fetch (fetch_op o₂ (fetches c)) v.req.fetch) Unspecified o₂))) (sym tops)
          (decided_at full D c (suc (size c) + k) (suc (size c) + suc k) (suc (suc (suc (size c))) + k) k refl (omega arith) (omega arith) too_many
          (λ w. subst (λ (y : Counted Tree). AgreesT k asking y) (twice below (rebuild o₂ false) (over M false))
          (merged_by (bind below (λ x i. counted (rebuild o₂ false x) i)) w
          (third (mono (suc (size c) + suc k) (suc (suc (suc (size c))) + k) (omega arith) w)))))
        where
          D : Decision
          D = covered (M ∷ []) 1 o₂ (hand_down ks (min_fetch (fetch_op o₂ (fetches c)) v.req.fetch) Unspecified o₂)

          below : Counted (Forest Marked)
          below = count_by full D.reqs (suc (size c) + suc k) c

          hands : Distribution → ℕ → ParentRequirements
          hands r i = record { order = ks i; fetch = min_fetch (fetch_op o₂ (fetches c)) v.req.fetch; dist = stronger_distribution r (dist_of o₂ i) }

          third : full (suc (size c) + suc k) ≡ false →
              AgreesT (suc k) (transform_down full (suc (suc n)) (suc k) (node o₂ (again F₂) (resting c)))
              (bind below (λ x i. counted (rebuild o₂ false x) i))
          third w =
              by_call full (suc n) (suc k) (node o₂ (again F₂) (resting c))
              (node-goes o₂ ns₂ (again F₂) c e₂ m₂ (λ i. default_requirements) ks u
              ∙ ap (λ (r : Distribution). returns (node o₂ (record { order = []; fetch = v.req.fetch; dist = Unspecified }) (holding (hands r) c)))
              (effective_none F₂))
              (returned full c ih (suc n) (suc k) (omega arith) o₂ (record { order = []; fetch = v.req.fetch; dist = Unspecified }) (hands Unspecified) w)
      merged_tries stop u =
          subst (λ (ts : List Op). Target (covered ts 0 o₂ (with_own_distribution o₂)))
          (sym (ap₂ ◌++◌ tops (above_sort F₂ (new_ordering F₂ Q) v.req.fetch s₂ Unspecified (no_merge F₂))))
          (decided_at full D c (suc (size c) + k) (suc (size c) + suc (suc k)) (suc (suc (suc (size c))) + k) k refl (omega arith) (omega arith) too_many
          (λ w. subst (λ (y : Counted Tree). AgreesT k asking y) (twice below (λ x. over S₂ false (rebuild o₂ false x)) (over M false))
          (merged_by (bind below (λ x i. counted (over S₂ false (rebuild o₂ false x)) i)) w
          (sorted_step o₂ ns₂ (again F₂) e₂ m₂ u s₂ (no_merge F₂) n (suc k) l (ap full (omega arith) ∙ w)))))
        where
          S₂ : Op
          S₂ = new_sort_over F₂ (new_ordering F₂ Q) v.req.fetch

          D : Decision
          D = covered (M ∷ S₂ ∷ []) 0 o₂ (with_own_distribution o₂)

          below : Counted (Forest Marked)
          below = count_by full (with_own_distribution o₂) (suc (size c) + suc (suc k)) c

      merged_step : Target (merge_added v o c)
      merged_step =
          subst (λ (H : Facts). Target (after_merge (push_down (new_ordering H Q) v o₂ c) v o₂ c)) (sym E)
          (merged_tries (push_down (new_ordering F₂ Q) v o₂ c) refl)

    tried_step : met F Q ≡ false → (U : Pushed) → push_down Q v o c ≡ U → Target (after_try U v o c)
    tried_step m (goes ks) t = goes_step m ks t
    tried_step m stop t =
        by_bool (needs_merge F v.req.dist)
        (λ nm. subst (λ (b : Bool). Target (cond b (merge_added v o c) (sort_added v o c))) (sym nm) (merged_step m t nm))
        (λ nm. subst (λ (b : Bool). Target (cond b (merge_added v o c) (sort_added v o c))) (sym nm) (added_step m t nm))

    asked_step : Target (node_asked v o c)
    asked_step =
        by_bool (met F Q)
        (λ m. subst (λ (b : Bool). Target (cond b (satisfied v o c) (unsatisfied v o c))) (sym m) (satisfied_step m))
        (λ m. subst (λ (b : Bool). Target (cond b (satisfied v o c) (unsatisfied v o c))) (sym m) (tried_step m (push_down Q v o c) refl))

  pub node_step : (v : Visit) → BelowRoot v → (o : Op) → is_sort o ≡ false → (n k : ℕ) → 4 * size c ≤ n →
      AgreesT k (transform_down full (suc (suc (suc (suc n)))) k (node o v.req (holding (kids_hold v.root o c) c)))
      (carried_at full c (decide_node v o c) (suc (size c) + k) false)
  node_step v low o ns n k l =
      by_bool (is_nil v.req.order)
      (λ e. subst (λ (b : Bool). AgreesT k (walk v.root) (carried_at full c (cond b (unasked v o c) (node_asked v o c)) (suc (size c) + k) false)) (sym e)
      (unasked_at v.root e))
      (λ e. subst (λ (b : Bool). AgreesT k (walk v.root) (carried_at full c (cond b (unasked v o c) (node_asked v o c)) (suc (size c) + k) false)) (sym e)
      (subst (λ (b : Bool). AgreesT k (walk b) (carried_at full c (node_asked v o c) (suc (size c) + k) false)) (sym (low e)) (asked_step v o ns e n k l)))
    where
      walk : Bool → Outcome SortPushDown
      walk b = transform_down full (suc (suc (suc (suc n)))) k (node o v.req (holding (kids_hold b o c) c))

      unasked_at : (b : Bool) → is_nil v.req.order ≡ true →
          AgreesT k (walk b) (carried_at full c (stays o (cond b (assign_initial_requirements o c) (with_own_distribution o))) (suc (size c) + k) false)
      unasked_at true e =
          stays_step (suc (suc (suc n))) k (omega arith) (node o v.req (holding (kids_hold true o c) c)) o v.req
          (λ i. (assign_initial_requirements o c i).req) (node_unrequired_lem o ns v.req c (kids_hold true o c) e)
      unasked_at false e =
          stays_step (suc (suc (suc n))) k (omega arith) (node o v.req (holding (kids_hold false o c) c)) o v.req (λ i. (with_own_distribution o i).req)
          (node_unrequired_lem o ns v.req c (kids_hold false o c) e)
