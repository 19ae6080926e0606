-- The decision, piece by piece. Assumes nothing.
use Rattle.std.specs.Prelude.{◌≡◌, refl, Bool, true, false, cond, ◌&&◌, List, [], ◌++◌, ℕ, zero, suc, ◌+◌, ◌<◌, ◌≤◌, ltb, get_or, Option, None, Some}
use Rattle.std.proofs.Common.{sym, ap, ap₂, ◌∙◌, subst, append-nil, arith, eqb-true}
use Rattle.std.proofs.Math.Path.{subst⁻¹}
use Rattle.row_order.specs.Iso.{Key}
use Rattle.plan.specs.Op.{Op, source, filter, projection, union, repartition, coalesce, sort_op, merge_op, global_limit, local_limit, sort_merge_join, hash_join, output_requirement, partial_sort, aggregate, Plan}
use Rattle.plan.specs.WellFormed.{children_ok}
use Rattle.plan.specs.declared.Distribution.{Distribution}
use Rattle.plan.specs.declared.Distribution.TheVariants.{Unspecified}
use Rattle.semantics.specs.Facts.{Facts, facts, facts_op, is_nil, compatible}
use Rattle.semantics.specs.Properties.{fresh_keys, wanted, dist_of, fetches, rebuilt, cuts, sort_dist}
use Rattle.key_lists.specs.declared.Keys.{Keys}
use Rattle.key_lists.specs.Keys.{keys_of, order_of, Keyed, Ordered, Real}
use Rattle.push_requirements.specs.declared.ParentRequirements.{ParentRequirements as Coded}
use Rattle.push_requirements.specs.Answers.{some-keys}
use Rattle.push_requirements.specs.Pushing.{required, order_by, Handed, SeenNode}
use Rattle.walks.specs.Utils.{needs_merge, new_merge, sort_above_with_distribution}
use Rattle.walks.proofs.Theorems.Common.Keeps.{remark-same}
use Rattle.walks.specs.SortPushdown.{child_count, ParentRequirements, stronger_distribution}
use Rattle.walks.specs.PushdownSorts as walk
use Rattle.walks.specs.Counted.{one}
use Rattle.sort_pushdown.specs.declared.NewNodes.{NewNodes}
use Rattle.sort_pushdown.specs.declared.ChildRequirements.{ChildRequirements}
use Rattle.sort_pushdown.specs.declared.Decision.{Decision}
use Rattle.sort_pushdown.specs.Decisions.{Adds, of_child, req_for, Asks, visit_for, Decides, removed_by, stays_by}

-- ---- new nodes

no_merge : (a : Bool) → a && false ≡ false
no_merge true = refl
no_merge false = refl

-- one sort of the new keys, or a merge over it
module _ (F : Facts) (ks keys : List Key) (f : Option ℕ) (s : Option Keys) (p : Bool) (e : keys ≡ fresh_keys F [] ks) (o : Ordered keys s)
    (x : p ≡ ltb 1 F.streams) where
  sort_is : order_of s ≡ fresh_keys F [] ks
  sort_is = o.is ∙ e

  pub above_merge : (d : Distribution) → needs_merge F d ≡ true → Adds (sort_above_with_distribution F ks f d)
      (record { merge = s; mfetch = f; sort = s; sfetch = f; preserve = p })
  above_merge d n = record { is = rw (sort_is, x, n); merge = o.real; sort = o.real }

  pub above_sort : (d : Distribution) → needs_merge F d ≡ false → Adds (sort_above_with_distribution F ks f d)
      (record { merge = None; mfetch = f; sort = s; sfetch = f; preserve = p })
  above_sort d n = record { is = rw (sort_is, x, n); merge = tt; sort = o.real }

  pub merge_above_lem : (ms : List Key) (m : Option Keys) (g : Option ℕ) → Ordered ms m → Adds (new_merge ms g ++ sort_above_with_distribution F ks f Unspecified)
      (record { merge = m; mfetch = g; sort = s; sfetch = f; preserve = p })
  merge_above_lem ms m g h = record { is = rw (h.is, sort_is, x, no_merge (ltb 1 F.streams)); merge = h.real; sort = o.real }

pub merge_alone : (ms : List Key) (m : Option Keys) (g : Option ℕ) → Ordered ms m
    → Adds (new_merge ms g) (record { merge = m; mfetch = g; sort = None; sfetch = g; preserve = false })
merge_alone ms m g h = record { is = append-nil (new_merge (order_of m) g) ∙ ap (λ l. new_merge l g) h.is; merge = h.real; sort = tt }

-- ---- what the children are visited with: all but the first alike

dist_rest : (o : Op) (i : ℕ) → dist_of o 1 ≡ dist_of o (suc i)
dist_rest (source s) i = refl
dist_rest filter i = refl
dist_rest (projection cols) i = refl
dist_rest union i = refl
dist_rest (repartition p n h ks) i = refl
dist_rest (coalesce f) i = refl
dist_rest (sort_op p ks f) i = refl
dist_rest (merge_op ks f) i = refl
dist_rest (global_limit s f note) i = refl
dist_rest (local_limit f note) i = refl
dist_rest (sort_merge_join t on) i = refl
dist_rest (hash_join t on) i = refl
dist_rest (output_requirement ks d f) i = refl
dist_rest (partial_sort p ks n f) i = refl
dist_rest (aggregate ks n) i = refl

wanted_rest : (o : Op) (m : ℕ) → children_ok o m ≡ true → (i : ℕ) → suc i < m → wanted o 1 ≡ wanted o (suc i)
wanted_rest (source s) m c i l = refl
wanted_rest filter m c i l = refl
wanted_rest (projection cols) m c i l = refl
wanted_rest union m c i l = refl
wanted_rest (repartition p n h ks) m c i l = refl
wanted_rest (coalesce f) m c i l = refl
wanted_rest (sort_op p ks f) m c i l = refl
wanted_rest (merge_op ks f) m c i l = refl
wanted_rest (global_limit s f note) m c i l = refl
wanted_rest (local_limit f note) m c i l = refl
wanted_rest (hash_join t on) m c i l = refl
wanted_rest (output_requirement ks d f) m c i l = refl
wanted_rest (partial_sort p ks n f) m c i l = refl
wanted_rest (aggregate ks n) m c i l = refl
wanted_rest (sort_merge_join t on) m c zero l = refl
wanted_rest (sort_merge_join t on) m c (suc i) l = let e = eqb-true m 2 c in absurd (omega arith)

module _ (o : Op) (a b : Option Keys) (f : Option ℕ) (d₀ d₁ : Distribution) where
  abbrev both : Bool → ChildRequirements
  both x = record { first = record { order = a; fetch = f; distribution = d₀ }; rest = record { order = b; fetch = f; distribution = d₁ }; initial = x }

  pub hand_asks : (d : Distribution) → d₀ ≡ stronger_distribution d (dist_of o 0) → d₁ ≡ stronger_distribution d (dist_of o 1) → (m : ℕ) (ts : List (Option ℕ))
      (ks : ℕ → List Key) → Handed m ks a b
      → Asks m ts (λ i. (walk.hand_down ks f d o i).req)
      (record {
        first = record { order = a; fetch = f; distribution = d₀ };
        rest = record { order = b; fetch = f; distribution = d₁ };
        initial = false;
      })
  hand_asks d e₀ e₁ m ts ks h = record { is = at; first = h.first; rest = h.rest }
    where
      at : (i : ℕ) → i < m → req_for (both false) ts i ≡ (walk.hand_down ks f d o i).req
      at zero l = let g = h.is zero l in λ j. record { order = g j; fetch = f; dist = e₀ j }
      at (suc i) l = let e = e₁ ∙ ap (stronger_distribution d) (dist_rest o i) in let g = h.is (suc i) l in
          λ j. record { order = g j; fetch = f; dist = e j }

  pub own_asks : d₀ ≡ dist_of o 0 → d₁ ≡ dist_of o 1 → order_of a ≡ [] → order_of b ≡ [] → Real a → Real b → f ≡ None → (m : ℕ) (ts : List (Option ℕ))
      → Asks m ts (λ i. (walk.with_own_distribution o i).req)
      (record {
        first = record { order = a; fetch = f; distribution = d₀ };
        rest = record { order = b; fetch = f; distribution = d₁ };
        initial = false;
      })
  own_asks e₀ e₁ x y p q z m ts = record { is = at; first = p; rest = q }
    where
      at : (i : ℕ) → i < m → req_for (both false) ts i ≡ (walk.with_own_distribution o i).req
      at zero l = λ j. record { order = x j; fetch = z j; dist = e₀ j }
      at (suc i) l = let e = e₁ ∙ dist_rest o i in λ j. record { order = y j; fetch = z j; dist = e j }

  pub initial_asks : d₀ ≡ dist_of o 0 → d₁ ≡ dist_of o 1 → Ordered (wanted o 0) a → Ordered (wanted o 1) b → (c : Plan)
      → children_ok o (child_count c) ≡ true
      → Asks (child_count c) (fetches c) (λ i. (walk.assign_initial_requirements o c i).req)
      (record { first = record { order = a; fetch = f; distribution = d₀ }; rest = record { order = b; fetch = f; distribution = d₁ }; initial = true })
  initial_asks e₀ e₁ x y c v = record { is = at; first = x.real; rest = y.real }
    where
      at : (i : ℕ) → i < child_count c → req_for (both true) (fetches c) i ≡ (walk.assign_initial_requirements o c i).req
      at zero l = let g = x.is in λ j. record { order = g j; fetch = get_or (fetches c) 0 None; dist = e₀ j }
      at (suc i) l =
          let e = e₁ ∙ dist_rest o i in let g = y.is ∙ wanted_rest o (child_count c) v i l in
          λ j. record { order = g j; fetch = get_or (fetches c) (suc i) None; dist = e j }

pub wanted_going : (o : Op) (a b : Option Keys) (m : ℕ) → children_ok o m ≡ true → Ordered (wanted o 0) a → Ordered (wanted o 1) b → Handed m (wanted o) a b
wanted_going o a b m v x y = record { is = at; first = x.real; rest = y.real }
  where
    at : (i : ℕ) → i < m → order_by a b i ≡ wanted o i
    at zero l = x.is
    at (suc i) l = y.is ∙ wanted_rest o m v i l

-- child number j
pub other_child : (reqs : ChildRequirements) (j : ℕ) → (j ≡ 0 → ⊥) → reqs.rest ≡ of_child reqs j
other_child reqs zero e = absurd (e refl)
other_child reqs (suc j) e = refl

-- ---- a sort that goes

pub sort_cut : (o : Op) (p : Bool) (ks : List Key) (f g : Option ℕ) → o ≡ sort_op p ks f → g ≡ (cuts o).fetch → g ≡ f
sort_cut o p ks f g e h = h ∙ ap (λ x. (cuts x).fetch) e

pub sort_dist_lem : (o : Op) (p : Bool) (ks : List Key) (f : Option ℕ) (root : Bool) (d : Distribution) → o ≡ sort_op p ks f
    → d ≡ cond root (dist_of o 0) Unspecified → d ≡ cond root (sort_dist p) Unspecified
sort_dist_lem o p ks f root d e h = h ∙ ap (λ x. cond root (dist_of x 0) Unspecified) e

pub gone_by : (p : Bool) (ks : List Key) (f : Option ℕ) (c : Plan) (us : List Op) (P : ParentRequirements) (b : Bool) (tops : NewNodes) (req : Coded)
    (r : Decision)
    → r ≡ removed_by tops req b → Adds us tops → required req ≡ P → Real req.order
    → Decides (sort_op p ks f) c (record { tops = us; gone = true; op = sort_op p ks f; reqs = λ i. walk.below_sort P; peak = 0; quiet = b }) r
gone_by p ks f c us P b tops req r x a d h =
    subst⁻¹ (Decides (sort_op p ks f) c (record { tops = us; gone = true; op = sort_op p ks f; reqs = λ i. walk.below_sort P; peak = 0; quiet = b })) x
    (record { tops = a; gone = refl; op = refl; reqs = at; first = h; rest = h; peak = refl; quiet = refl })
  where
    at : (i : ℕ) → i < child_count c → visit_for (removed_by tops req b) (fetches c) i ≡ walk.below_sort P
    at zero l = ap walk.below_sort d
    at (suc i) l = ap walk.below_sort d

-- three parts of requirements
pub parts : (ks : List Key) (f : Option ℕ) (d : Distribution) (x : List Key) (g : Option ℕ) (e : Distribution) → x ≡ ks → g ≡ f → e ≡ d
    → ◌≡◌ {A = ParentRequirements} (record { order = x; fetch = g; dist = e }) (record { order = ks; fetch = f; dist = d })
parts ks f d x g e p q s = λ i. record { order = p i; fetch = q i; dist = s i }

pub stricter_own : (C : Facts) (own : Option Keys) (k : Keys) (ps : List Key) → Keyed (order_of own) k → (x : Bool) → x ≡ compatible C (keys_of k) ps → x ≡ true
    → Real own → Ordered (cond (compatible C (order_of own) ps) (order_of own) ps) own
stricter_own C own k ps h x e t r = record { is = sym (ap (λ b. cond b (order_of own) ps) (sym (e ∙ ap (λ l. compatible C l ps) h.is) ∙ t)); real = r }

pub stricter_parent : (C : Facts) (own : Option Keys) (k : Keys) (ps : List Key) → Keyed (order_of own) k → (x : Bool) → x ≡ compatible C (keys_of k) ps → x ≡ false
    → (o : Option Keys) → Ordered ps o → Ordered (cond (compatible C (order_of own) ps) (order_of own) ps) o
stricter_parent C own k ps h x e t o r = subst⁻¹ (λ b. Ordered (cond b (order_of own) ps) o) (sym (e ∙ ap (λ l. compatible C l ps) h.is) ∙ t) r

pub stricter_is : (C : Facts) (x own : Option Keys) (p : Keys) (ks ls : List Key)
    → Ordered (cond (compatible C (order_of own) (keys_of p)) (order_of own) (keys_of p)) x → order_of own ≡ ks → keys_of p ≡ ls
    → order_of x ≡ cond (compatible C ks ls) ks ls
stricter_is C x own p ks ls h e d = h.is ∙ ap₂ (λ o l. cond (compatible C o l) o l) e d

-- ---- tests

module _ (o : Op) (c : Plan) (D E : walk.Decision) (b : Bool) (r : Decision) where
  pub if_so : b ≡ true → Decides o c D r → Decides o c (cond b D E) r
  if_so e h = subst⁻¹ (λ x. Decides o c (cond x D E) r) e h

  pub if_not : b ≡ false → Decides o c E r → Decides o c (cond b D E) r
  if_not e h = subst⁻¹ (λ x. Decides o c (cond x D E) r) e h

-- an order by keys
module _ (o : Option Keys) (k : Keys) (r : Real o) (e : o ≡ Some k) where
  pub requirement_is : keys_of k ≡ order_of o
  requirement_is = ap order_of (sym e)

  pub requirement_few : k.len ≤ 8
  requirement_few = (subst Real e r).1

  pub requirement_some : is_nil (order_of o) ≡ false
  requirement_some = ap (λ x. is_nil (order_of x)) e ∙ some-keys k (subst Real e r)

pub requirement_none : (o : Option Keys) → o ≡ None → is_nil (order_of o) ≡ true
requirement_none o e = ap (λ x. is_nil (order_of x)) e

-- ---- a node that stays

pub stay_by : (o : Op) (c : Plan) (us : List Op) (p : Op) (g : ℕ → ParentRequirements) (j : ℕ) (b x : Bool) (tops : NewNodes) (reqs : ChildRequirements)
    (r : Decision)
    → r ≡ stays_by b tops reqs x → Adds us tops → cond b (rebuilt o (facts c)) o ≡ p → one x ≡ j → Asks (child_count c) (fetches c) g reqs
    → Decides o c (record { tops = us; gone = false; op = p; reqs = λ i. walk.asked (g i); peak = j; quiet = false }) r
stay_by o c us p g j b x tops reqs r e a d k h =
    subst⁻¹ (Decides o c (record { tops = us; gone = false; op = p; reqs = λ i. walk.asked (g i); peak = j; quiet = false })) e
    (record { tops = a; gone = refl; op = d; reqs = λ i l. ap walk.asked (h.is i l); first = h.first; rest = h.rest; peak = k; quiet = refl })

-- what is asked of the node's children does not depend on a repartition's mark
module _ (n o : Op) (fs : List Facts) (m : ℕ) (F L R : Facts) (s : SeenNode n o fs m F L R) where
  like : {A : Type 0} (v : Op → A) → ((p q : Bool) (k : ℕ) (h : Bool) (ks : List Key) → v (repartition p k h ks) ≡ v (repartition q k h ks)) → v o ≡ v n
  like v e = ap v s.like ∙ remark-same v s.mark e n

  pub facts-like : F ≡ facts_op o fs
  facts-like = s.facts ∙ sym s.same

  pub count_like : children_ok o m ≡ true
  count_like = like (λ x. children_ok x m) (λ p q k h ks. refl) ∙ s.count

  pub wanted-like : (i : ℕ) → wanted n i ≡ wanted o i
  wanted-like i = sym (like (λ x. wanted x i) (λ p q k h ks. refl))

  pub handed_like : (ts : List (Option ℕ)) (ks : ℕ → List Key) (f : Option ℕ) (d : Distribution) (q : ChildRequirements)
      → Asks m ts (λ i. (walk.hand_down ks f d n i).req) q → Asks m ts (λ i. (walk.hand_down ks f d o i).req) q
  handed_like ts ks f d q h = record {
    is = λ i l. h.is i l ∙ sym (like (λ x. (walk.hand_down ks f d x i).req) (λ p q k h ks. refl));
    first = h.first;
    rest = h.rest;
  }

  pub own_like : (ts : List (Option ℕ)) (q : ChildRequirements) → Asks m ts (λ i. (walk.with_own_distribution n i).req) q
      → Asks m ts (λ i. (walk.with_own_distribution o i).req) q
  own_like ts q h = record {
    is = λ i l. h.is i l ∙ sym (like (λ x. (walk.with_own_distribution x i).req) (λ p q k h ks. refl));
    first = h.first;
    rest = h.rest;
  }

  pub initial_like : (c : Plan) (q : ChildRequirements) → Asks m (fetches c) (λ i. (walk.assign_initial_requirements n c i).req) q
      → Asks m (fetches c) (λ i. (walk.assign_initial_requirements o c i).req) q
  initial_like c q h = record {
    is = λ i l. h.is i l ∙ sym (like (λ x. (walk.assign_initial_requirements x c i).req) (λ p q k h ks. refl));
    first = h.first;
    rest = h.rest;
  }

-- the visit of child number j
pub child_is : (d : Decision) (j : ℕ) (own : Option ℕ) (ts : List (Option ℕ)) (req : Coded) (g : Option ℕ) → req ≡ of_child d.reqs j
    → g ≡ cond d.reqs.initial own req.fetch → own ≡ get_or ts j None
    → ◌≡◌ {A = walk.Visit} (record { req = record { order = order_of req.order; fetch = g; dist = req.distribution }; touch = d.gone; root = false })
    (visit_for d ts j)
child_is d j own ts req g x y z =
    let w : g ≡ cond d.reqs.initial (get_or ts j None) (of_child d.reqs j).fetch =
    y ∙ ap₂ (λ a (q : Coded). cond d.reqs.initial a q.fetch) z x in
    λ i. record { req = record { order = order_of (x i).order; fetch = w i; dist = (x i).distribution }; touch = d.gone; root = false }
