-- The decision at a node that is no sort, and at a rebuilt one. Assumes nothing.
use Rattle.std.specs.Prelude.{◌≡◌, refl, Bool, true, false, cond, not, ◌&&◌, ◌||◌, List, [], ◌∷◌, ◌++◌, ℕ, ◌<◌, eqb, ltb, Option, Some, None}
use Rattle.std.proofs.Common.{sym, ap, ap₂, ◌∙◌, subst, arith, eqb-true}
use Rattle.std.proofs.Math.Path.{subst⁻¹, fun_ext}
use Rattle.row_order.specs.Iso.{Key}
use Rattle.row_order.proofs.Order.{no_bool}
use Rattle.row_order.specs.Lists.{All, all_nil, all_cons}
use Rattle.plan.specs.Op.{Op, source, filter, projection, union, repartition, coalesce, sort_op, merge_op, global_limit, local_limit, sort_merge_join, hash_join, output_requirement, partial_sort, aggregate, Plan}
use Rattle.plan.specs.Numbers.{code}
use Rattle.plan.specs.WellFormed.{children_ok, member}
use Rattle.plan.specs.declared.Distribution.TheVariants.{Unspecified}
use Rattle.semantics.specs.Facts.{Facts, at0, facts, facts_op, is_nil, met, nf, is_c, cl, counts, known_order}
use Rattle.semantics.proofs.Theorems.Orders.NormalForms.{nf_all}
use Rattle.semantics.specs.Properties.{fresh_keys, fetches, fetch_op, rebuilt, remark}
use Rattle.key_lists.specs.declared.Keys.{Keys}
use Rattle.key_lists.specs.Keys.{keys_of, order_of, Keyed, Real}
use Rattle.facts.specs.Reading.{classes}
use Rattle.fact_slots.specs.Slots.{loaded}
use Rattle.asked_facts.specs.Asked.{told}
use Rattle.push_requirements.specs.declared.ChildOrders.{ChildOrders}
use Rattle.push_requirements.specs.Pushing.{HandsOn, Handed, Asked, SeenNode}
use Rattle.walks.specs.Utils.{needs_merge, new_merge, sort_above_with_distribution}
use Rattle.walks.specs.Marks.{shape}
use Rattle.walks.proofs.Theorems.Common.Keeps.{remark-same}
use Rattle.walks.proofs.Theorems.Parallelize.Bottlenecks.{rebuilt_facts, rebuilt_twice}
use Rattle.walks.specs.SortPushdown.{child_count, effective_dist, min_fetch, Pushed, goes, stop, pushdown_requirement_to_children}
use Rattle.walks.specs.PushdownSorts as walk
use Rattle.sort_pushdown.specs.declared.NewNodes.{NewNodes}
use Rattle.sort_pushdown.specs.declared.ChildRequirements.{ChildRequirements}
use Rattle.sort_pushdown.specs.declared.Decision.{Decision}
use Rattle.sort_pushdown.specs.Decisions.{Adds, Asks, Decides, Visited, stays_by, rebuilt_by, sort_on}
use Rattle.sort_pushdown.specs.Deciding.{facts-like, handed_like, if_not, if_so, own_like, stay_by}

-- ---- what a try answered
module _ (o p : Op) (c : Plan) (r : Decision) (q : walk.Visit) where
  abbrev m : ℕ
  m = child_count c

  pub try_goes : (P : Pushed) (d : ChildOrders) → HandsOn (child_count c) P (Some d)
      → ((ks : ℕ → List Key) → Handed (child_count c) ks d.first d.rest
      → Decides o c (walk.stays p (walk.hand_down ks (min_fetch (fetch_op p (fetches c)) q.req.fetch)
      (effective_dist (facts_op p (facts c)) q.req.dist) p)) r)
      → Decides o c (walk.after_try P q p c) r
  try_goes (goes ks) d h k = k ks h
  try_goes stop d h k = absurd h

  pub try_stop : (P : Pushed) → HandsOn (child_count c) P None
      → Decides o c (cond (needs_merge (facts_op p (facts c)) q.req.dist) (walk.merge_added q p c) (walk.sort_added q p c)) r
      → Decides o c (walk.after_try P q p c) r
  try_stop (goes ks) h k = absurd h
  try_stop stop h k = k

  after_goes : (P : Pushed) (d : ChildOrders) → HandsOn m P (Some d)
      → ((ks : ℕ → List Key) → Handed m ks d.first d.rest
      → Decides o c (walk.covered (new_merge (fresh_keys (facts_op p (facts c)) [] q.req.order) q.req.fetch) 1 p
      (walk.hand_down ks (min_fetch (fetch_op p (fetches c)) q.req.fetch) Unspecified p)) r)
      → Decides o c (walk.after_merge P q p c) r
  after_goes (goes ks) d h k = k ks h
  after_goes stop d h k = absurd h

  after_stop : (P : Pushed) → HandsOn m P None
      → Decides o c (let F : Facts = facts_op p (facts c) in let new : List Key = fresh_keys F [] q.req.order in
      walk.covered (new_merge new q.req.fetch ++ sort_above_with_distribution F (nf F [] new) q.req.fetch Unspecified) 0 p
      (walk.with_own_distribution p)) r
      → Decides o c (walk.after_merge P q p c) r
  after_stop (goes ks) h k = absurd h
  after_stop stop h k = k

-- ---- what is asked again

fresh_keep : (P : Key → Type 0) (b : Bool) (k : Key) (ls ms : List Key) → P k → All P ls → All P ms → All P (cond b ls (k ∷ ms))
fresh_keep P true k ls ms h a b = a
fresh_keep P false k ls ms h a b = all_cons h b

fresh_all : {P : Key → Type 0} (F : Facts) (seen : List ℕ) (ks : List Key) → All P ks → All P (fresh_keys F seen ks)
fresh_all F seen [] all_nil = all_nil
fresh_all {P} F seen (k ∷ ks) (all_cons h hs) =
    fresh_keep P (is_c F k.col || member k.col seen) k (fresh_keys F seen ks) (fresh_keys F (k.col ∷ seen) ks) h (fresh_all F seen ks hs)
    (fresh_all F (k.col ∷ seen) ks hs)

-- the second try's order stays inside the width
pub asked_again : (r own a b : List ℕ) (order new again : Keys) → Asked r own a b order → Keyed (fresh_keys (told own) [] (keys_of order)) new
    → Keyed (nf (told own) [] (keys_of new)) again → Asked r own a b again
asked_again r own a b order new again h x y =
    record {
      proper = h.proper;
      here = h.here;
      first = h.first;
      second = h.second;
      few = y.few;
      inside =
          subst⁻¹ (All (λ k. k.col < (told own).width)) (y.is ∙ ap (nf (told own) []) x.is)
          (nf_all (is_c (told own)) (cl (told own)) (λ k l. let d = h.here.fine.down k.col in let e = classes (loaded own) h.here.fine k.col in
          omega arith) [] (fresh_all (told own) [] (keys_of order) h.inside));
      merged = h.merged;
      hashed = h.hashed;
    }

pub visited_asked : (r own a b : List ℕ) (requirement : Option Keys) (k : Keys) → Visited r own a b requirement → requirement ≡ Some k → Asked r own a b k
visited_asked r own a b requirement k h e =
    record {
      proper = h.proper;
      here = h.here;
      first = h.first;
      second = h.second;
      few = (subst Real e h.real).1;
      inside = subst (λ o. All (λ k. k.col < (told own).width) (order_of o)) e h.inside;
      merged = h.merged;
      hashed = h.hashed;
    }

-- ---- the node rebuilt

remark_twice : (g h : Bool → Bool) (o : Op) → remark g (remark h o) ≡ remark (λ p. g (h p)) o
remark_twice g h (source s) = refl
remark_twice g h filter = refl
remark_twice g h (projection cols) = refl
remark_twice g h union = refl
remark_twice g h (repartition p n x ks) = refl
remark_twice g h (coalesce f) = refl
remark_twice g h (sort_op p ks f) = refl
remark_twice g h (merge_op ks f) = refl
remark_twice g h (global_limit s f note) = refl
remark_twice g h (local_limit f note) = refl
remark_twice g h (sort_merge_join t on) = refl
remark_twice g h (hash_join t on) = refl
remark_twice g h (output_requirement ks d f) = refl
remark_twice g h (partial_sort p ks n f) = refl
remark_twice g h (aggregate ks n) = refl

pub seen_again : (n o : Op) (fs : List Facts) (m : ℕ) (F L R : Facts) → SeenNode n o fs m F L R → SeenNode n (rebuilt o fs) fs m F L R
seen_again n o fs m F L R s =
    record {
      mark = λ p. counts (s.mark p) (at0 fs);
      like = ap (λ x. rebuilt x fs) s.like ∙ remark_twice (λ p. counts p (at0 fs)) s.mark n;
      facts = s.facts;
      same = rebuilt_facts o fs ∙ s.same;
      first = s.first;
      second = s.second;
      count = s.count;
      long = s.long;
    }

-- ---- where a merge comes too
module _ (c : Plan) (n o : Op) (q : walk.Visit) (F L R : Facts) (s : SeenNode n o (facts c) (child_count c) F L R) (limit fetch : Option ℕ)
    (order new again : Keys)
    (e : limit ≡ fetch_op o (fetches c)) (eo : keys_of order ≡ q.req.order) (ef : fetch ≡ q.req.fetch) (kn : Keyed (fresh_keys F [] (keys_of order)) new)
    (ka : Keyed (nf F [] (keys_of new)) again) where
  abbrev p : Op
  p = rebuilt o (facts c)

  pub seen₁ : SeenNode n (rebuilt o (facts c)) (facts c) (child_count c) F L R
  seen₁ = seen_again n o (facts c) (child_count c) F L R s

  pub limit₁ : limit ≡ fetch_op (rebuilt o (facts c)) (fetches c)
  limit₁ = e ∙ sym (remark-same (λ x. fetch_op x (fetches c)) (λ b. counts b (at0 (facts c))) (λ p q m h ks. refl) o)

  facts₁ : F ≡ facts_op p (facts c)
  facts₁ = facts-like n p (facts c) (child_count c) F L R seen₁

  new₁ : keys_of new ≡ fresh_keys (facts_op p (facts c)) [] q.req.order
  new₁ = kn.is ∙ ap₂ (λ G l. fresh_keys G [] l) facts₁ eo

  again₁ : keys_of again ≡ nf (facts_op o (facts c)) [] (fresh_keys (facts_op o (facts c)) [] q.req.order)
  again₁ = ka.is ∙ ap₂ (λ G l. nf G [] l) (facts-like n o (facts c) (child_count c) F L R s)
      (kn.is ∙ ap₂ (λ G l. fresh_keys G [] l) (facts-like n o (facts c) (child_count c) F L R s) eo)

  tried : (x : Option ChildOrders) → HandsOn (child_count c) (pushdown_requirement_to_children p limit (child_count c) (facts c) (keys_of again) fetch) x
      → HandsOn (child_count c) (walk.tried_again q o c) x
  tried x h =
      subst (λ P. HandsOn (child_count c) P x)
      (ap₂ (λ (l : Option ℕ) (f : Option ℕ). pushdown_requirement_to_children p l (child_count c) (facts c) (keys_of again) f) limit₁ ef
      ∙ ap (λ (l : List Key). pushdown_requirement_to_children p (fetch_op p (fetches c)) (child_count c) (facts c) l q.req.fetch) again₁) h

  module _ (tops : NewNodes) (reqs : ChildRequirements) (r : Decision) where
    pub merge_goes : (d : ChildOrders) → HandsOn (child_count c) (pushdown_requirement_to_children (rebuilt o (facts c)) limit (child_count c) (facts c)
        (keys_of again) fetch) (Some d) → (f : Option ℕ) → f ≡ min_fetch limit fetch
        → r ≡ stays_by true tops reqs true → Adds (new_merge (keys_of new) fetch) tops
        → ((ks : ℕ → List Key) → Handed (child_count c) ks d.first d.rest → Asks (child_count c) (fetches c) (λ i. (walk.hand_down ks f Unspecified n i).req)
        reqs)
        → Decides o c (walk.merge_added q o c) r
    merge_goes d h f g w t asks =
        after_goes o p c r q (walk.tried_again q o c) d (tried (Some d) h)
        (λ ks k.
        stay_by o c _ p (λ i. (walk.hand_down ks (min_fetch (fetch_op p (fetches c)) q.req.fetch) Unspecified p i).req) 1 true true tops reqs r w
        (subst (λ l. Adds l tops) (ap₂ new_merge new₁ ef) t) refl refl
        (subst (λ l. Asks (child_count c) (fetches c) (λ i. (walk.hand_down ks l Unspecified p i).req) reqs) (g ∙ ap₂ min_fetch limit₁ ef)
        (handed_like n p (facts c) (child_count c) F L R seen₁ (fetches c) ks f Unspecified reqs (asks ks k))))

    pub merge_stop : HandsOn (child_count c) (pushdown_requirement_to_children (rebuilt o (facts c)) limit (child_count c) (facts c)
        (keys_of again) fetch) None
        → r ≡ stays_by true tops reqs false → Adds (new_merge (keys_of new) fetch ++ sort_above_with_distribution F (keys_of again) fetch Unspecified) tops
        → Asks (child_count c) (fetches c) (λ i. (walk.with_own_distribution n i).req) reqs
        → Decides o c (walk.merge_added q o c) r
    merge_stop h w t asks =
        let G : Facts = facts_op p (facts c) in
        let x : new_merge (keys_of new) fetch ++ sort_above_with_distribution F (keys_of again) fetch Unspecified ≡ new_merge (fresh_keys G [] q.req.order)
        q.req.fetch ++ sort_above_with_distribution G (nf G [] (fresh_keys G [] q.req.order)) q.req.fetch Unspecified =
        ap₂ (λ (l : List Key) (f : Option ℕ). new_merge l f ++ sort_above_with_distribution F (keys_of again) f Unspecified) new₁ ef
        ∙ ap₂ (λ (H : Facts) (l : List Key). new_merge (fresh_keys G [] q.req.order) q.req.fetch ++ sort_above_with_distribution H l
        q.req.fetch Unspecified) facts₁ (ka.is ∙ ap₂ (λ H l. nf H [] l) facts₁ new₁) in
        after_stop o p c r q (walk.tried_again q o c) (tried None h)
        (stay_by o c _ p (λ i. (walk.with_own_distribution p i).req) 0 true false tops reqs r w (subst (λ l. Adds l tops) x t) refl refl
        (own_like n p (facts c) (child_count c) F L R seen₁ (fetches c) reqs asks))

-- ---- the helper

-- none but a sort is decided as a sort
no_sort : (o : Op) (q : walk.Visit) (x : Op) (c : Plan) → eqb (code o) 7 ≡ false → walk.decide_node q x c ≡ walk.decide_by (shape o) q x c
no_sort (source s) q x c e = refl
no_sort filter q x c e = refl
no_sort (projection cols) q x c e = refl
no_sort union q x c e = refl
no_sort (repartition p n h ks) q x c e = refl
no_sort (coalesce f) q x c e = refl
no_sort (sort_op p ks f) q x c e = no_bool (sym e)
no_sort (merge_op ks f) q x c e = refl
no_sort (global_limit s f note) q x c e = refl
no_sort (local_limit f note) q x c e = refl
no_sort (sort_merge_join t on) q x c e = refl
no_sort (hash_join t on) q x c e = refl
no_sort (output_requirement ks d f) q x c e = refl
no_sort (partial_sort p ks n f) q x c e = refl
no_sort (aggregate ks n) q x c e = refl

module _ (o : Op) (q : walk.Visit) (c : Plan) (r : Decision) where
  -- the node is rebuilt before it is looked at: rebuilt once more it is the same
  pub helper_touched : eqb (code o) 7 ≡ false → q.touch ≡ true → (d : Decision) → r ≡ rebuilt_by d → Decides (rebuilt o (facts c)) c
      (walk.decide_node q (rebuilt o (facts c)) c) d → Decides o c (walk.pushdown_sorts_helper q o c) r
  helper_touched e t d w h =
      subst (λ D. Decides o c D r) (no_sort o q (rebuilt o (facts c)) c e ∙ ap (λ b. walk.decide_by (shape o) q (cond b (rebuilt o (facts c)) o) c) (sym t))
      (subst⁻¹ (Decides o c (walk.decide_node q (rebuilt o (facts c)) c)) w
      (record {
        tops = h.tops;
        gone = h.gone;
        op = once d.rebuilt ∙ h.op;
        reqs = h.reqs;
        first = h.first;
        rest = h.rest;
        peak = h.peak;
        quiet = h.quiet;
      }))
    where
      once : (b : Bool) → rebuilt o (facts c) ≡ cond b (rebuilt (rebuilt o (facts c)) (facts c)) (rebuilt o (facts c))
      once true = sym (rebuilt_twice o (facts c))
      once false = refl

  pub helper_node : eqb (code o) 7 ≡ false → q.touch ≡ false → Decides o c (walk.decide_node q o c) r → Decides o c (walk.pushdown_sorts_helper q o c) r
  helper_node e t h = subst (λ D. Decides o c D r) (no_sort o q o c e ∙ ap (λ b. walk.decide_by (shape o) q (cond b (rebuilt o (facts c)) o) c) (sym t)) h

  pub helper_sort : (p : Bool) (ks : List Key) (f : Option ℕ) → o ≡ sort_op p ks f → (F C : Facts) → F ≡ facts_op o (facts c) → C ≡ at0 (facts c)
      → Decides (sort_op p ks f) c (sort_on p ks f q F C) r → Decides o c (walk.pushdown_sorts_helper q o c) r
  helper_sort p ks f e F C x y h =
      subst⁻¹ (λ n. Decides n c (walk.pushdown_sorts_helper q n c) r) e
      (subst (λ D. Decides (sort_op p ks f) c D r) (ap₂ (sort_on p ks f q) (x ∙ ap (λ n. facts_op n (facts c)) e) y) h)

pub sort_one : (o : Op) (p : Bool) (ks : List Key) (f : Option ℕ) (m : ℕ) → o ≡ sort_op p ks f → children_ok o m ≡ true → 0 < m
sort_one o p ks f m e h = let x = eqb-true m 1 (sym (ap (λ n. children_ok n m) e) ∙ h) in omega arith

-- ---- at another node that an order is required of
module _ (c : Plan) (n o : Op) (q : walk.Visit) (F L R : Facts) (s : SeenNode n o (facts c) (child_count c) F L R) (limit : Option ℕ)
    (e : limit ≡ fetch_op o (fetches c)) (k : Keys) (eo : keys_of k ≡ q.req.order) where
  met_is : met F (keys_of k) ≡ met (facts_op o (facts c)) q.req.order
  met_is = ap₂ met (facts-like n o (facts c) (child_count c) F L R s) eo

  pub pushed_down : (p : Option ChildOrders) → HandsOn (child_count c) (pushdown_requirement_to_children o limit (child_count c) (facts c) (keys_of k)
      q.req.fetch) p → HandsOn (child_count c) (walk.push_down q.req.order q o c) p
  pushed_down p h = subst (λ P. HandsOn (child_count c) P p)
      (ap₂ (λ (l : Option ℕ) (ks : List Key). pushdown_requirement_to_children o l (child_count c) (facts c) ks q.req.fetch) e eo) h

  module _ (some : is_nil q.req.order ≡ false) (r : Decision) (x : Bool) (h : x ≡ met F (keys_of k)) where
    pub node_met : x ≡ true → Decides o c (walk.satisfied q o c) r → Decides o c (walk.decide_node q o c) r
    node_met t d = if_not o c (walk.unasked q o c) (walk.node_asked q o c) (is_nil q.req.order) r some
        (if_so o c (walk.satisfied q o c) (walk.unsatisfied q o c) _ r (sym (h ∙ met_is) ∙ t) d)

    pub node_tried : x ≡ false → Decides o c (walk.after_try (walk.push_down q.req.order q o c) q o c) r → Decides o c (walk.decide_node q o c) r
    node_tried t d = if_not o c (walk.unasked q o c) (walk.node_asked q o c) (is_nil q.req.order) r some
        (if_not o c (walk.satisfied q o c) (walk.unsatisfied q o c) _ r (sym (h ∙ met_is) ∙ t) d)

pub limit_again : (o : Op) (c : Plan) (limit : Option ℕ) → limit ≡ fetch_op o (fetches c) → limit ≡ fetch_op (rebuilt o (facts c)) (fetches c)
limit_again o c limit e = e ∙ sym (remark-same (λ x. fetch_op x (fetches c)) (λ b. counts b (at0 (facts c))) (λ p q m h ks. refl) o)
