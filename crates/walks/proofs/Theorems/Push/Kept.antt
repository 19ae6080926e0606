-- Pushing keeps the skeleton with its limits, the child counts, that nothing is cut off, and that no sort has all-constant keys.
use Rattle.std.specs.Prelude.{◌≡◌, refl, Bool, true, false, cond, ◌||◌, List, [], ◌∷◌, ◌++◌, ℕ, suc, ltb, length, Option, Some, None}
use Rattle.std.proofs.Common.{sym, subst}
use Rattle.row_order.specs.Iso.{Key}
use Rattle.row_order.proofs.Order.{no_bool}
use Rattle.row_order.specs.Lists.{All, all_cons, all_nil}
use Rattle.row_order.specs.ListLaws.{all_append}
use Rattle.plan.specs.Forest.{Forest, none, tree}
use Rattle.plan.specs.Op.{coalesce, merge_op, Op, Plan, repartition, sort_op}
use Rattle.plan.specs.declared.Distribution.{Distribution}
use Rattle.plan.specs.declared.Distribution.TheVariants.{Unspecified}
use Rattle.semantics.specs.Facts.{at0, compatible, Facts, facts, facts_op, is_nil, met, nf}
use Rattle.semantics.specs.Properties.{fetches, fetch_op, fresh_keys, rebuilt, is_all}
use Rattle.semantics.proofs.Theorems.Canonical.EveryNode.{canon, op_canon}
use Rattle.walks.specs.Marks.{bare, cover, fact, kid0, known, Marked, node, rebuild, Shape, strip, Tree}
use Rattle.walks.specs.Utils.{needs_merge, new_merge, new_sort, sort_above, sort_above_with_distribution}
use Rattle.walks.specs.SortPushdown.{goes, min_fetch, Pushed, stop}
use Rattle.walks.specs.PushdownSorts.{after_merge, after_try, assign_initial_requirements, below_tops, carry_out, covered, decide_by, decide_node, decide_sort, Decision, merge_added, node_asked, push_down, pushdown_sorts, pushdown_sorts_helper, removed, replaced, satisfied, sort_added, sort_asked, sort_differs, sort_ordering, sort_replaced, sort_replaced_twice, sort_unasked, sort_unnecessary, stays, tried_again, unasked, unsatisfied, Visit, with_own_distribution}
use Rattle.walks.specs.Terms.{blank, clear_op, passing}
use Rattle.walks.proofs.Theorems.Common.Lists.{all_nth}
use Rattle.walks.proofs.Theorems.Common.ConstantSorts.{Alive, alive_blank, fresh_alive, WholeClasses}
use Rattle.walks.specs.Trees.{arity, count, Fit, FitsA, Pure, PureT}
use Rattle.walks.proofs.Theorems.Common.Keeps.{all_kept_none, fetch_op_lem, Keeps, KeepsAll, kept_first, kept_node, kept_over, kept_plant, kept_trans, Like, like_refl, like_trans, op_fetch, pure-fetches, remark_like, shape_ind, strip-bare, uncut_fetch}

-- ---- what a decision may be: what comes on top, and what goes, is of kinds 5 to 8, and no new sort's keys are all constant; the node
-- stays but for a preserve mark. fs: the facts of its children
abbrev Top : Facts → Op → Type 0
Top F p = (passing p ≡ true) × Alive F p

pub record Fair (o : Op) (fs : List Facts) (D : Decision) : Type 0 where
  pub tops : All (Top (facts_op o fs)) D.tops
  pub gone : D.gone ≡ true → passing D.op ≡ true
  pub like : Like o D.op
  -- where no step ends, nothing is added
  pub still : D.quiet ≡ true → length D.tops ≡ 0

fair_cond : {o : Op} {fs : List Facts} (x : Bool) (D E : Decision) → Fair o fs D → Fair o fs E → Fair o fs (cond x D E)
fair_cond true D E h k = h
fair_cond false D E h k = k

stays_fair : {o p : Op} {fs : List Facts} (g : ℕ → Visit) → Like o p → Fair o fs (stays p g)
stays_fair g l = record { tops = all_nil; gone = λ e. no_bool e; like = l; still = λ e. no_bool e }

covered_fair : {o p : Op} {fs : List Facts} (ts : List Op) (n : ℕ) (g : ℕ → Visit) → All (Top (facts_op o fs)) ts → Like o p → Fair o fs (covered ts n p g)
covered_fair ts n g h l = record { tops = h; gone = λ e. no_bool e; like = l; still = λ e. no_bool e }

-- The new nodes
pub new_sort_all : {P : Op → Type 0} (p : Bool) (ks : List Key) (f : Option ℕ) → ((k : Key) (l : List Key) → ks ≡ k ∷ l → P (sort_op p (k ∷ l) f))
    → All P (new_sort p ks f)
new_sort_all p [] f h = all_nil
new_sort_all p (k ∷ ks) f h = all_cons (h k ks refl) all_nil

pub new_merge_all : {P : Op → Type 0} (ks : List Key) (f : Option ℕ) → ((k : Key) (l : List Key) → ks ≡ k ∷ l → P (merge_op (k ∷ l) f)) → All P (new_merge ks f)
new_merge_all [] f h = all_nil
new_merge_all (k ∷ ks) f h = all_cons (h k ks refl) all_nil

pub above_all : {P : Op → Type 0} (F : Facts) (ks : List Key) (f : Option ℕ) (d : Distribution)
    → ((k : Key) (l : List Key) → fresh_keys F [] ks ≡ k ∷ l → P (merge_op (k ∷ l) f) × P (sort_op (ltb 1 F.streams) (k ∷ l) f))
    → All P (sort_above_with_distribution F ks f d)
above_all {P} F ks f d h = go (needs_merge F d)
  where
    sorts : All P (sort_above F ks f)
    sorts = new_sort_all (ltb 1 F.streams) (fresh_keys F [] ks) f (λ k l e. (h k l e).1)

    go : (b : Bool) → All P (cond b (new_merge (fresh_keys F [] ks) f ++ sort_above F ks f) (sort_above F ks f))
    go true = all_append (new_merge_all (fresh_keys F [] ks) f (λ k l e. (h k l e).0)) sorts
    go false = sorts

-- Over a node with facts F, which has the constants and classes of G
above_top : (F G : Facts) → WholeClasses F → blank F ≡ blank G → (ks : List Key) (f : Option ℕ) (d : Distribution)
    → All (Top G) (sort_above_with_distribution F ks f d)
above_top F G h q ks f d = above_all F ks f d
    (λ k l e. ((refl, refl), (refl, alive_blank F G (sort_op (ltb 1 F.streams) (k ∷ l) f) q (fresh_alive F h (ltb 1 F.streams) f ks k l e))))

merge_top : (G : Facts) (ks : List Key) (f : Option ℕ) → All (Top G) (new_merge ks f)
merge_top G ks f = new_merge_all ks f (λ k l e. (refl, refl))

whole : (o : Op) (c : Plan) → WholeClasses (facts_op o (facts c))
whole o c = (op_canon o (facts c) (canon c)).classes.const

after_fair : {o p : Op} (u : Pushed) (q : Visit) (c : Plan) → Like o p → Fair o (facts c) (after_merge u q p c)
after_fair {o} {p} stop q c l =
    let F : Facts = facts_op p (facts c) in
    let G : Facts = facts_op o (facts c) in
    let new : List Key = fresh_keys F [] q.req.order in
    covered_fair (new_merge new q.req.fetch ++ sort_above_with_distribution F (nf F [] new) q.req.fetch Unspecified) 0 (with_own_distribution p)
    (all_append (merge_top G new q.req.fetch) (above_top F G (whole p c) (l.base (facts c)) (nf F [] new) q.req.fetch Unspecified)) l
after_fair {o} {p} (goes ks) q c l =
    covered_fair (new_merge (fresh_keys (facts_op p (facts c)) [] q.req.order) q.req.fetch) _ _
    (merge_top (facts_op o (facts c)) (fresh_keys (facts_op p (facts c)) [] q.req.order) q.req.fetch) l

try_fair : {o : Op} (u : Pushed) (q : Visit) (p : Op) (c : Plan) → Like o p → Fair o (facts c) (after_try u q p c)
try_fair (goes ks) q p c l = stays_fair _ l
try_fair {o} stop q p c l =
    fair_cond (needs_merge (facts_op p (facts c)) q.req.dist) (merge_added q p c) (sort_added q p c)
    (after_fair (tried_again q p c) q c (like_trans l (remark_like _ p)))
    (covered_fair (sort_above_with_distribution (facts_op p (facts c)) q.req.order q.req.fetch q.req.dist) 0 (with_own_distribution p)
    (above_top (facts_op p (facts c)) (facts_op o (facts c)) (whole p c) (l.base (facts c)) q.req.order q.req.fetch q.req.dist) l)

node_fair : {o : Op} (q : Visit) (p : Op) (c : Plan) → Like o p → Fair o (facts c) (decide_node q p c)
node_fair q p c l =
    fair_cond (is_nil q.req.order) (unasked q p c) (node_asked q p c) (stays_fair _ l)
    (fair_cond (met (facts_op p (facts c)) q.req.order) (satisfied q p c) (unsatisfied q p c) (stays_fair _ l)
    (try_fair (push_down q.req.order q p c) q p c l))

removed_fair : {fs : List Facts} (o : Op) (q : Visit) → passing o ≡ true → Fair o fs (removed o q)
removed_fair o q e = record { tops = all_nil; gone = λ _. e; like = like_refl o; still = λ _. refl }

replaced_fair : {fs : List Facts} (ts : List Op) (o : Op) (q : Visit) → passing o ≡ true → All (Top (facts_op o fs)) ts → Fair o fs (replaced ts o q)
replaced_fair ts o q e h = record { tops = h; gone = λ _. e; like = like_refl o; still = λ i. no_bool i }

sort_fair : (p : Bool) (ks : List Key) (f : Option ℕ) (q : Visit) (c : Plan) → Fair (sort_op p ks f) (facts c) (decide_sort p ks f q c)
sort_fair p ks f q c =
    let F : Facts = facts_op (sort_op p ks f) (facts c) in
    let C : Facts = at0 (facts c) in
    let new : List Key = fresh_keys C [] q.req.order in
    fair_cond (is_nil q.req.order) (sort_unasked p ks f q c) (sort_asked p ks f q c) (removed_fair (sort_op p ks f) _ refl)
    (fair_cond (met F q.req.order || compatible F q.req.order F.order) (sort_unnecessary p ks f q c) (sort_differs p ks f q c)
    (removed_fair (sort_op p ks f) _ refl)
    (fair_cond (needs_merge C q.req.dist) (sort_replaced_twice p ks f q c) (sort_replaced p ks f q c)
    (replaced_fair (new_merge new q.req.fetch ++ sort_above_with_distribution C (sort_ordering p ks f c) f Unspecified) (sort_op p ks f) _ refl
    (all_append (merge_top F new q.req.fetch) (above_top C F (whole (sort_op p ks f) c) refl (sort_ordering p ks f c) f Unspecified)))
    (replaced_fair (sort_above_with_distribution C q.req.order q.req.fetch q.req.dist) (sort_op p ks f) _ refl
    (above_top C F (whole (sort_op p ks f) c) refl q.req.order q.req.fetch q.req.dist))))

touch_like : (x : Bool) (o : Op) (fs : List Facts) → Like o (cond x (rebuilt o fs) o)
touch_like true o fs = remark_like _ o
touch_like false o fs = like_refl o

pub helper_fair : (q : Visit) (c : Plan) (o : Op) → Fair o (facts c) (pushdown_sorts_helper q o c)
helper_fair q c =
    shape_ind (λ o. Fair o (facts c) (pushdown_sorts_helper q o c))
    (λ p ks f. sort_fair p ks f q c)
    (λ ks f. node_fair q _ c (touch_like q.touch (merge_op ks f) (facts c)))
    (λ p n h ks. node_fair q _ c (touch_like q.touch (repartition p n h ks) (facts c)))
    (λ f. node_fair q _ c (touch_like q.touch (coalesce f) (facts c)))
    (λ o e. subst (λ (s : Shape). Fair o (facts c) (decide_by s q (cond q.touch (rebuilt o (facts c)) o) c)) (sym e)
    (node_fair q _ c (touch_like q.touch o (facts c))))

cover_kept : (ts : List Op) (t u : Tree) → All (Top (fact t)) ts → Keeps false false false t u → Keeps false false false t (cover ts u)
cover_kept [] t u hs k = k
cover_kept (o ∷ os) t u (all_cons h hs) k =
    let i : Keeps false false false t (cover os u) = cover_kept os t u hs k in
    kept_over o false h.0 (λ e p. no_bool e) (λ e p v. no_bool e) (alive_blank (fact t) (fact (cover os u)) o (sym i.base) h.1) i

-- Below the new nodes
pub below_kept : (o : Op) (D : Decision) (c d : Forest Marked) → Fair o (known c) D → FitsA (arity o) (count (strip c)) → KeepsAll false false false c d
    → Keeps false false false (node o false c) (below_tops D d)
below_kept o D c d h f k = go D.gone refl
  where
    i : Keeps false false false (node o false c) (node D.op false d)
    i = kept_node o D.op false false c d h.like f k

    go : (x : Bool) → D.gone ≡ x → Keeps false false false (node o false c) (cond x (kid0 (node D.op false d) d) (rebuild D.op false d))
    go true e = kept_trans i (kept_first (node D.op false d) (h.gone e) i.fit)
    go false e = kept_node o _ false false c d (like_trans h.like (remark_like _ D.op)) f k

carry_out_kept : (o : Op) (D : Decision) (c d : Forest Marked) → Fair o (known c) D → FitsA (arity o) (count (strip c)) → KeepsAll false false false c d
    → Keeps false false false (node o false c) (carry_out D d)
carry_out_kept o D c d h f k = cover_kept D.tops (node o false c) (below_tops D d) h.tops (below_kept o D c d h f k)

-- Over children without marks
pub bare_fair : (q : Visit) (c : Plan) (o : Op) → Fair o (known (bare c)) (pushdown_sorts_helper q o c)
bare_fair q c o = subst (λ (g : Plan). Fair o (facts g) (pushdown_sorts_helper q o c)) (sym (strip-bare c)) (helper_fair q c o)

pub push_kept : (q : ℕ → Visit) (f : Plan) → Fit f → KeepsAll false false false (bare f) (pushdown_sorts q f)
push_kept q none h = all_kept_none
push_kept q (tree o c r) h =
    let D : Decision = pushdown_sorts_helper (q 0) o c in
    kept_plant (carry_out_kept o D (bare c) (pushdown_sorts D.reqs c) (bare_fair (q 0) c o)
    (subst (λ (g : Plan). FitsA (arity o) (count g)) (sym (strip-bare c)) h.0) (push_kept D.reqs c h.1))
    (push_kept (λ i. q (suc i)) r h.2)

-- ---- nothing is cut off: by the new nodes, by the node, and by the fetches required of the children
record Calm (D : Decision) : Type 0 where
  tops : All (λ p. clear_op p ≡ true) D.tops
  op : clear_op D.op ≡ true
  fetch : (i : ℕ) → is_all (D.reqs i).req.fetch ≡ true

calm_cond : (x : Bool) (D E : Decision) → Calm D → Calm E → Calm (cond x D E)
calm_cond true D E h k = h
calm_cond false D E h k = k

min_all : (f g : Option ℕ) → is_all f ≡ true → is_all g ≡ true → is_all (min_fetch f g) ≡ true
min_all None g p q = q
min_all (Some m) None p q = p
min_all (Some m) (Some n) p q = q

above_clear : (F : Facts) (ks : List Key) (f : Option ℕ) (d : Distribution) → is_all f ≡ true
    → All (λ p. clear_op p ≡ true) (sort_above_with_distribution F ks f d)
above_clear F ks f d h = above_all F ks f d (λ k l e. (uncut_fetch f h, uncut_fetch f h))

merge_clear : (ks : List Key) (f : Option ℕ) → is_all f ≡ true → All (λ p. clear_op p ≡ true) (new_merge ks f)
merge_clear ks f h = new_merge_all ks f (λ k l e. uncut_fetch f h)

module _ (q : Visit) (c : Plan) (hq : is_all q.req.fetch ≡ true) (hc : Pure c) where
  own_all_lem : (o : Op) → clear_op o ≡ true → is_all (fetch_op o (fetches c)) ≡ true
  own_all_lem o e = fetch_op_lem o (fetches c) e (pure-fetches c hc)

  after_calm : (u : Pushed) (o : Op) → clear_op o ≡ true → Calm (after_merge u q o c)
  after_calm stop o e =
      let F : Facts = facts_op o (facts c) in
      let new : List Key = fresh_keys F [] q.req.order in
      record {
        tops = all_append (merge_clear new q.req.fetch hq) (above_clear F (nf F [] new) q.req.fetch Unspecified hq);
        op = e;
        fetch = λ i. refl;
      }
  after_calm (goes ks) o e = record {
    tops = merge_clear (fresh_keys (facts_op o (facts c)) [] q.req.order) q.req.fetch hq;
    op = e;
    fetch = λ i. min_all (fetch_op o (fetches c)) q.req.fetch (own_all_lem o e) hq;
  }

  try_calm : (u : Pushed) (o : Op) → clear_op o ≡ true → Calm (after_try u q o c)
  try_calm (goes ks) o e = record { tops = all_nil; op = e; fetch = λ i. min_all (fetch_op o (fetches c)) q.req.fetch (own_all_lem o e) hq }
  try_calm stop o e =
      calm_cond (needs_merge (facts_op o (facts c)) q.req.dist) (merge_added q o c) (sort_added q o c)
      (after_calm (tried_again q o c) (rebuilt o (facts c)) ((remark_like _ o).uncut e))
      (record { tops = above_clear (facts_op o (facts c)) q.req.order q.req.fetch q.req.dist hq; op = e; fetch = λ i. refl })

  first_calm : (x : Bool) (o : Op) → clear_op o ≡ true → Calm (stays o (cond x (assign_initial_requirements o c) (with_own_distribution o)))
  first_calm true o e = record { tops = all_nil; op = e; fetch = λ i. all_nth None refl (pure-fetches c hc) i }
  first_calm false o e = record { tops = all_nil; op = e; fetch = λ i. refl }

  node_calm : (o : Op) → clear_op o ≡ true → Calm (decide_node q o c)
  node_calm o e =
      calm_cond (is_nil q.req.order) (unasked q o c) (node_asked q o c) (first_calm q.root o e)
      (calm_cond (met (facts_op o (facts c)) q.req.order) (satisfied q o c) (unsatisfied q o c) (record { tops = all_nil; op = e; fetch = λ i. hq })
      (try_calm (push_down q.req.order q o c) o e))

  sort_calm : (p : Bool) (ks : List Key) (f : Option ℕ) → clear_op (sort_op p ks f) ≡ true → Calm (decide_sort p ks f q c)
  sort_calm p ks f e =
      let hf : is_all f ≡ true = op_fetch (sort_op p ks f) e in
      let F : Facts = facts_op (sort_op p ks f) (facts c) in
      let C : Facts = at0 (facts c) in
      let new : List Key = fresh_keys C [] q.req.order in
      calm_cond (is_nil q.req.order) (sort_unasked p ks f q c) (sort_asked p ks f q c)
      (record { tops = all_nil; op = e; fetch = λ i. min_all f q.req.fetch hf hq })
      (calm_cond (met F q.req.order || compatible F q.req.order F.order) (sort_unnecessary p ks f q c) (sort_differs p ks f q c)
      (record { tops = all_nil; op = e; fetch = λ i. min_all f q.req.fetch hf hq })
      (calm_cond (needs_merge C q.req.dist) (sort_replaced_twice p ks f q c) (sort_replaced p ks f q c)
      (record { tops = all_append (merge_clear new q.req.fetch hq) (above_clear C (sort_ordering p ks f c) f Unspecified hf); op = e; fetch = λ i. hq })
      (record { tops = above_clear C q.req.order q.req.fetch q.req.dist hq; op = e; fetch = λ i. hf })))

  touched : (x : Bool) (o : Op) → clear_op o ≡ true → clear_op (cond x (rebuilt o (facts c)) o) ≡ true
  touched x o e = (touch_like x o (facts c)).uncut e

  helper_calm : (o : Op) → clear_op o ≡ true → Calm (pushdown_sorts_helper q o c)
  helper_calm =
      shape_ind (λ o. clear_op o ≡ true → Calm (pushdown_sorts_helper q o c))
      (λ p ks f e. sort_calm p ks f e)
      (λ ks f e. node_calm _ (touched q.touch (merge_op ks f) e))
      (λ p n h ks e. node_calm _ (touched q.touch (repartition p n h ks) e))
      (λ f e. node_calm _ (touched q.touch (coalesce f) e))
      (λ o s e. subst (λ (z : Shape). Calm (decide_by z q (cond q.touch (rebuilt o (facts c)) o) c)) (sym s) (node_calm _ (touched q.touch o e)))

kid_pure : (t : Tree) (d : Forest Marked) → PureT t → Pure (strip d) → PureT (kid0 t d)
kid_pure t none p h = p
kid_pure t (tree m d r) p h = (h.0, h.1)

cover_pure : (ts : List Op) (t : Tree) → All (λ p. clear_op p ≡ true) ts → PureT t → PureT (cover ts t)
cover_pure [] t hs p = p
cover_pure (o ∷ os) t (all_cons h hs) p = let r = cover_pure os t hs p in (h, (r.0, r.1, tt))

carry_out_pure : (D : Decision) (d : Forest Marked) → Calm D → Pure (strip d) → PureT (carry_out D d)
carry_out_pure D d h p = cover_pure D.tops (below_tops D d) h.tops (go D.gone)
  where
    go : (x : Bool) → PureT (cond x (kid0 (node D.op false d) d) (rebuild D.op false d))
    go true = kid_pure (node D.op false d) d (h.op, p) p
    go false = ((remark_like _ D.op).uncut h.op, p)

pub push_pure : (q : ℕ → Visit) (f : Plan) → ((i : ℕ) → is_all (q i).req.fetch ≡ true) → Pure f → Pure (strip (pushdown_sorts q f))
push_pure q none h p = tt
push_pure q (tree o c r) h p =
    let D : Decision = pushdown_sorts_helper (q 0) o c in
    let k : Calm D = helper_calm (q 0) c (h 0) p.1 o p.0 in
    let b : PureT (carry_out D (pushdown_sorts D.reqs c)) = carry_out_pure D (pushdown_sorts D.reqs c) k (push_pure D.reqs c k.fetch p.1) in
    (b.0, b.1, push_pure (λ i. q (suc i)) r (λ i. h (suc i)) p.2)
