-- The Rust's walk (PushdownSortsLiteral) at a sort agrees with the structural walk's decision there.
use Rattle.std.specs.Prelude.{◌≡◌, refl, Bool, true, false, cond, ◌||◌, List, [], ◌∷◌, ◌++◌, ℕ, suc, ◌+◌, ◌*◌, ◌≤◌, ltb, Option}
use Rattle.std.proofs.Common.{sym, ap, ap₂, ◌∙◌, subst, arith}
use Rattle.row_order.specs.Iso.{Key}
use Rattle.plan.specs.Forest.{Forest, none, tree, size}
use Rattle.plan.specs.Op.{Op, Plan, sort_op}
use Rattle.plan.specs.declared.Distribution.TheVariants.{Unspecified}
use Rattle.semantics.specs.Facts.{compatible, Facts, facts, facts_op, is_nil, met, nf, prefixb}
use Rattle.semantics.specs.Properties.{fresh_keys, rebuilt, sort_dist}
use Rattle.semantics.proofs.Theorems.Common.Bools.{or_false}
use Rattle.semantics.specs.Canonical.{Canon}
use Rattle.semantics.proofs.Theorems.Canonical.EveryNode.{canon, op_canon}
use Rattle.walks.specs.Marks.{kid0, Marked, node, over, plant, strip, Tree}
use Rattle.walks.specs.Utils.{needs_merge, sort_above_with_distribution}
use Rattle.walks.specs.SortPushdown.{default_requirements, min_fetch, ParentRequirements}
use Rattle.walks.specs.PushdownSorts.{below_sort, Decision, decide_sort, removed, replaced, sort_asked, sort_differs, sort_replaced, sort_replaced_twice, sort_unasked, sort_unnecessary, Visit}
use Rattle.walks.specs.Counted.{bind, Counted, counted}
use Rattle.push_literal.specs.PushdownSortsLiteral.{after_call, calls_itself, helper, Outcome, Required, returns, SortPushDown, transform_down}
use Rattle.walks.proofs.Theorems.Common.OrderMet.{fresh_same, fresh_some, nf_twice, prefix_some}
use Rattle.walks.proofs.Theorems.Parallelize.Bottlenecks.{rebuilt_facts, rebuilt_twice}
use Rattle.walks.proofs.Theorems.Calls.Counts.{count_by}
use Rattle.push_literal.proofs.Contexts.{kids_hold, plan_resting, resting, size-resting}
use Rattle.push_literal.proofs.Agrees.{agree_stop, AgreesT, Below, by_bool, by_call, carried_at, decided_at, over-returned, returned_full, twice, unwrap}
use Rattle.push_literal.proofs.HelperCalls.{above_merge, above_sort, constant_call, different_call, new_merge_over, new_sort_over, one_merge, unnecessary_call, unrequired_call}
use Rattle.push_literal.proofs.Nodes.{no_merge}

module _ (full : ℕ → Bool) (o' : Op) (c' : Plan) (ih : Below full (tree o' c' none)) where
  abbrev c : Plan
  c = tree o' c' none

  abbrev x : Forest Required
  x = resting c'

  abbrev C : Facts
  C = facts_op o' (facts c')

  abbrev o₂ : Op
  o₂ = rebuilt o' (facts c')

  canonical : Canon C
  canonical = op_canon o' (facts c') (canon c')

  -- The child, visited under the sort's place
  child_step : (z : Forest Marked → Tree) (r : ParentRequirements) (m j : ℕ) → 4 * size c ≤ m →
      AgreesT j (transform_down full m j (node o₂ r x)) (bind (count_by full (λ i. below_sort r) (size c + j) c) (λ d i. counted (kid0 (z d) d) i))
  child_step z r m j l =
      subst (λ (i : ℕ). AgreesT j (transform_down full m i (node o₂ r x))
      (bind (count_by full (λ i. below_sort r) (size c + j) c) (λ d i. counted (kid0 (z d) d) i))) (omega arith)
      (unwrap z (transform_down full m (0 + j) (node o₂ r x)) (ih (λ i. below_sort r) (λ i q. refl) m j l))

  -- The sort goes
  removed_step : (S : Op) (r : ParentRequirements) (t : SortPushDown) → helper t ≡ calls_itself (node o₂ r x) → (m k : ℕ) → 4 * size c ≤ m →
      AgreesT k (transform_down full (suc m) k t) (carried_at full c (removed S (below_sort r)) (suc (size c) + k) false)
  removed_step S r t he m k l =
      by_call full m k t he
      (subst (λ (i : ℕ). AgreesT k (transform_down full m k (node o₂ r x))
      (bind (count_by full (λ j. below_sort r) i c) (λ d i. counted (kid0 (node S false d) d) i))) (omega arith)
      (child_step (λ d. node S false d) r m k l))

  -- A sort T takes its place
  replaced_by : (S T : Op) → ((fs : List Facts) → rebuilt T fs ≡ T) → (r : ParentRequirements) (t : SortPushDown) →
      helper t ≡ returns (node T default_requirements (plant (node o₂ r x) none)) → (m k : ℕ) → 4 * size c ≤ m → full (suc (suc (size c')) + k) ≡ false →
      AgreesT k (transform_down full (suc m) k t)
      (bind (count_by full (λ i. below_sort r) (size c + suc k) c) (λ d i. counted (over T false (kid0 (node S false d) d)) i))
  replaced_by S T e r t he m k l q =
      by_call full m k t he
      (subst (λ (y : Counted Tree). AgreesT k
      (after_call full (λ j u. transform_down full m j u) k (returns (node T default_requirements (plant (node o₂ r x) none)))) y)
      (twice (count_by full (λ i. below_sort r) (size c + suc k) c) (λ d. kid0 (node S false d) d) (over T false))
      (over-returned full m k T default_requirements (node o₂ r x)
      (bind (count_by full (λ i. below_sort r) (size c + suc k) c) (λ d i. counted (kid0 (node S false d) d) i)) e
      (ap full (omega (arith, size-resting c')) ∙ q) (child_step (λ d. node S false d) r m (suc k) l)))

  module _ (p : Bool) (ks : List Key) (f : Option ℕ) (v : Visit) (n k : ℕ) (l : 4 * size c ≤ n) where
    abbrev S : Op
    S = sort_op p ks f

    abbrev F : Facts
    F = facts_op S (C ∷ [])

    abbrev Q : List Key
    Q = v.req.order

    abbrev start : ParentRequirements → SortPushDown
    start d₁ = node S v.req (tree (record { op = o'; mark = d₁ }) x none)

    abbrev walk : ParentRequirements → Outcome SortPushDown
    walk d₁ = transform_down full (suc (suc (suc (suc n)))) k (start d₁)

    abbrev Target : ParentRequirements → Decision → Type 0
    Target d₁ D = AgreesT k (walk d₁) (carried_at full c D (suc (size c) + k) false)

    e_c : facts_op o' (facts (strip x)) ≡ C
    e_c = ap (λ (z : Plan). facts_op o' (facts z)) (plan_resting c')

    eo : rebuilt o' (facts (strip x)) ≡ o₂
    eo = ap (λ (z : Plan). rebuilt o' (facts z)) (plan_resting c')

    e_c₂ : facts_op o₂ (facts (strip x)) ≡ C
    e_c₂ = ap (λ (z : Plan). facts_op o₂ (facts z)) (plan_resting c') ∙ rebuilt_facts o' (facts c')

    eo₂ : rebuilt o₂ (facts (strip x)) ≡ o₂
    eo₂ = ap (λ (z : Plan). rebuilt o₂ (facts z)) (plan_resting c') ∙ rebuilt_twice o' (facts c')

    module _ (s : is_nil (nf C [] ks) ≡ false) where
      unasked_step : is_nil Q ≡ true → Target (kids_hold v.root S c 0) (sort_unasked p ks f v c)
      unasked_step e = go v.root
        where
          go : (b : Bool) →
              Target (kids_hold b S c 0) (removed S
              (below_sort (record { order = nf C [] ks; fetch = min_fetch f v.req.fetch; dist = cond b (sort_dist p) Unspecified })))
          go true =
              removed_step S _ (start (kids_hold true S c 0)) (unrequired_call p ks f v.req o' (kids_hold true S c 0) x C o₂ e_c eo e s)
              (suc (suc (suc n))) k
              (omega arith)
          go false =
              removed_step S _ (start (kids_hold false S c 0)) (unrequired_call p ks f v.req o' (kids_hold false S c 0) x C o₂ e_c eo e s)
              (suc (suc (suc n))) k (omega arith)

      module _ (e : is_nil Q ≡ false) (d₁ : ParentRequirements) where
        unnecessary_step : (met F Q || compatible F Q F.order) ≡ true → Target d₁ (sort_unnecessary p ks f v c)
        unnecessary_step q = removed_step S _ (start d₁) (unnecessary_call p ks f v.req o' d₁ x C o₂ e_c eo e s q) (suc (suc (suc n))) k (omega arith)

        module _ (q : (met F Q || compatible F Q F.order) ≡ false) where
          unmet : prefixb (nf C [] Q) (nf C [] ks) ≡ false
          unmet = (or_false (met F Q) (compatible F Q F.order) q).0

          looser : prefixb (nf C [] (nf C [] ks)) (nf C [] Q) ≡ false
          looser = (or_false (met F Q) (compatible F Q F.order) q).1

          wanted_some : is_nil (nf C [] Q) ≡ false
          wanted_some = prefix_some (nf C [] Q) (nf C [] ks) unmet

          some : is_nil (fresh_keys C [] Q) ≡ false
          some = fresh_some C canonical Q wanted_some

          abbrev S' : Op
          S' = new_sort_over C Q v.req.fetch

          abbrev old : ParentRequirements
          old = record { order = nf C [] ks; fetch = f; dist = Unspecified }

          replaced_step : needs_merge C v.req.dist ≡ false → Target d₁ (sort_replaced p ks f v c)
          replaced_step nm =
              subst (λ (ts : List Op). Target d₁ (replaced ts S (below_sort old))) (sym tops)
              (decided_at full (replaced (S' ∷ []) S (below_sort old)) c (suc (size c) + k) (size c + suc k) (suc (suc (size c')) + k) k refl (omega arith)
              (omega arith)
              (λ w. by_call full (suc (suc (suc n))) k (start d₁) he
              (returned_full full (suc (suc (suc n))) k (node S' default_requirements (plant (node o₂ old x) none))
              (ap full (omega (arith, size-resting c')) ∙ w)))
              (λ w. replaced_by S S' (λ fs. refl) old (start d₁) he (suc (suc (suc n))) k (omega arith) w))
            where
              tops : sort_above_with_distribution C Q v.req.fetch v.req.dist ≡ S' ∷ []
              tops = above_sort C Q v.req.fetch some v.req.dist nm

              he : helper (start d₁) ≡ returns (node S' default_requirements (plant (node o₂ old x) none))
              he = different_call p ks f v.req o' d₁ x C o₂ e_c eo e s q (S' ∷ []) tops

          -- The second call, at the new sort, finds the old order required: it differs again
          twice_step : needs_merge C v.req.dist ≡ true → Target d₁ (sort_replaced_twice p ks f v c)
          twice_step nm =
              subst (λ (ts : List Op). Target d₁ (replaced ts S (below_sort r))) (sym (ap₂ ◌++◌ (one_merge C Q v.req.fetch some) again))
              (decided_at full (replaced (M ∷ S'' ∷ []) S (below_sort r)) c (suc (size c) + k) (size c + suc (suc k)) (suc (suc (suc (size c'))) + k) k refl
              (omega arith) (omega arith)
              (λ w. by_call full (suc (suc (suc n))) k (start d₁) he
              (returned_full full (suc (suc (suc n))) k (node M default_requirements (plant second none))
              (ap full (omega (arith, size-resting c')) ∙ w)))
              (λ w. subst (λ (y : Counted Tree). AgreesT k (walk d₁) y) (twice below (λ d. over S'' false (kid0 (node S false d) d)) (over M false))
              (by_call full (suc (suc (suc n))) k (start d₁) he
              (over-returned full (suc (suc (suc n))) k M default_requirements second
              (bind below (λ d i. counted (over S'' false (kid0 (node S false d) d)) i)) (λ fs. refl) (ap full (omega (arith, size-resting c')) ∙ w)
              (replaced_by S S'' (λ fs. refl) r second he₂ (suc (suc n)) (suc k) (omega arith) (ap full (omega arith) ∙ w))))))
            where
              r : ParentRequirements
              r = record { order = nf C [] (fresh_keys C [] Q); fetch = v.req.fetch; dist = Unspecified }

              M : Op
              M = new_merge_over C Q v.req.fetch

              S'' : Op
              S'' = new_sort_over C (nf C [] ks) f

              second : SortPushDown
              second = node S' old (tree (record { op = o₂; mark = d₁ }) x none)

              below : Counted (Forest Marked)
              below = count_by full (λ i. below_sort r) (size c + suc (suc k)) c

              he : helper (start d₁) ≡ returns (node M default_requirements (plant second none))
              he = different_call p ks f v.req o' d₁ x C o₂ e_c eo e s q (M ∷ S' ∷ []) (above_merge C Q v.req.fetch some v.req.dist nm)

              same : nf C [] (fresh_keys C [] Q) ≡ nf C [] Q
              same = fresh_same C canonical Q

              old-some : is_nil (fresh_keys C [] (nf C [] ks)) ≡ false
              old-some = fresh_some C canonical (nf C [] ks) (ap is_nil (nf_twice C canonical ks) ∙ s)

              again : sort_above_with_distribution C (nf C [] ks) f Unspecified ≡ S'' ∷ []
              again = above_sort C (nf C [] ks) f old-some Unspecified (no_merge C)

              differs : (prefixb (nf C [] (nf C [] ks)) (nf C [] (fresh_keys C [] Q)) || prefixb (nf C [] (nf C [] (fresh_keys C [] Q)))
                  (nf C [] (nf C [] ks))) ≡ false
              differs =
                  ap₂ ◌||◌ (ap (λ (ls : List Key). prefixb (nf C [] (nf C [] ks)) ls) same ∙ looser)
                  (ap₂ prefixb (nf_twice C canonical (fresh_keys C [] Q) ∙ same) (nf_twice C canonical ks) ∙ unmet)

              he₂ : helper second ≡ returns (node S'' default_requirements (plant (node o₂ r x) none))
              he₂ =
                  different_call (ltb 1 C.streams) (fresh_keys C [] Q) v.req.fetch old o₂ d₁ x C o₂ e_c₂ eo₂ s (ap is_nil same ∙ wanted_some) differs
                  (S'' ∷ []) again

          differs_step : Target d₁ (sort_differs p ks f v c)
          differs_step =
              by_bool (needs_merge C v.req.dist)
              (λ nm. subst (λ (b : Bool). Target d₁ (cond b (sort_replaced_twice p ks f v c) (sort_replaced p ks f v c))) (sym nm) (twice_step nm))
              (λ nm. subst (λ (b : Bool). Target d₁ (cond b (sort_replaced_twice p ks f v c) (sort_replaced p ks f v c))) (sym nm) (replaced_step nm))

        asked_step : Target d₁ (sort_asked p ks f v c)
        asked_step =
            by_bool (met F Q || compatible F Q F.order)
            (λ q. subst (λ (b : Bool). Target d₁ (cond b (sort_unnecessary p ks f v c) (sort_differs p ks f v c))) (sym q) (unnecessary_step q))
            (λ q. subst (λ (b : Bool). Target d₁ (cond b (sort_unnecessary p ks f v c) (sort_differs p ks f v c))) (sym q) (differs_step q))

    abbrev held : ParentRequirements
    held = kids_hold v.root S c 0

    pub sort_step : AgreesT k (walk held) (carried_at full c (decide_sort p ks f v c) (suc (size c) + k) (is_nil (nf C [] ks)))
    sort_step =
        by_bool (is_nil (nf C [] ks))
        (λ s. subst (λ (b : Bool). AgreesT k (walk held) (carried_at full c (decide_sort p ks f v c) (suc (size c) + k) b)) (sym s)
        (by_call full (suc (suc (suc n))) k (start held) (constant_call p ks f v.req o' held x C o₂ e_c eo s) agree_stop))
        (λ s. subst (λ (b : Bool). AgreesT k (walk held) (carried_at full c (decide_sort p ks f v c) (suc (size c) + k) b)) (sym s)
        (by_bool (is_nil Q)
        (λ e. subst (λ (b : Bool). Target held (cond b (sort_unasked p ks f v c) (sort_asked p ks f v c))) (sym e) (unasked_step s e))
        (λ e. subst (λ (b : Bool). Target held (cond b (sort_unasked p ks f v c) (sort_asked p ks f v c))) (sym e) (asked_step s e held))))
