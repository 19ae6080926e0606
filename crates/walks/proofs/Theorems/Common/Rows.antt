-- The rows of a plan without joins and aggregates that cuts nothing off are those of its skeleton without limits. So a rewrite that keeps the skeleton
-- delivers the same rows, however the sources' rows are spread over their streams: `same_plan_rows`.
use Rattle.std.specs.Prelude.{◌≡◌, refl, Bool, true, false, cond, List, [], ◌∷◌, ◌++◌, map, ℕ, suc, ◌<◌, eqb, leb, get_or}
use Rattle.std.proofs.Common.{sym, ap, ap₂, ◌∙◌, subst, arith, ne_eqb, leb-true}
use Rattle.row_order.specs.Iso.{Row}
use Rattle.row_order.proofs.Order.{no_bool}
use Rattle.plan.specs.Forest.{Forest, none, roots, tree}
use Rattle.plan.specs.Op.{coalesce, filter, global_limit, hash_join, local_limit, merge_op, Op, output_requirement, partial_sort, aggregate, Plan, projection, repartition, sort_merge_join, sort_op, source, union}
use Rattle.plan.specs.Numbers.{code}
use Rattle.semantics.specs.Facts.{facts}
use Rattle.semantics.specs.Runs.{Each, Env, next_f, next_s, past, Run, SameInputs, Streams}
use Rattle.semantics.proofs.Theorems.Common.Bools.{and_left}
use Rattle.semantics.specs.Bags.{bag_op, bags, SameRows}
use Rattle.semantics.proofs.Theorems.Runs.Rows.{same_rows}
use Rattle.walks.specs.Marks.{bare, Marked, strip, transform_up}
use Rattle.walks.specs.EnsureSorting.{ensure, ensure_sorting}
use Rattle.walks.specs.Terms.{◌⊕◌, Added, blank, clear, easing, Live, prune, skel}
use Rattle.walks.proofs.Theorems.Common.Skeleton.{eased}
use Rattle.walks.specs.Trees.{Arity, count, Fit, FitsA, Ok, Pure}
use Rattle.walks.proofs.Theorems.Common.Trees.{clear_pure, pure_clear, pure_simple}
use Rattle.walks.proofs.Theorems.Common.Keeps.{ease_one, KeepsAll, strip-bare}
use Rattle.walks.proofs.Theorems.Ensure.Kept.{ensure_kept}

bags_append : (E : Env) (i j : ℕ) (a b : Plan) → bags E i j (a ⊕ b) ≡ bags E i j a ++ bags E (past next_s a i) (past next_f a j) b
bags_append E i j none b = refl
bags_append E i j (tree o c r) b =
    ap (λ (l : List (List Row)). bag_op E i j o (bags E (next_s o i) (next_f o j) c) ∷ l)
    (bags_append E (past next_s c (next_s o i)) (past next_f c (next_f o j)) r b)

past_append : (n : Op → ℕ → ℕ) (a b : Plan) (i : ℕ) → past n (a ⊕ b) i ≡ past n b (past n a i)
past_append n none b i = refl
past_append n (tree o c r) b i = past_append n r b (past n c (n o i))

-- ---- kinds 5 to 10
ease_low : (o : Op) (k : ℕ) → k < 5 → easing o ≡ true → eqb (code o) k ≡ false
ease_low o k h e = ne_eqb (code o) k (λ q. omega (arith, leb-true 5 (code o) (and_left (leb 5 (code o)) (leb (code o) 10) e)))

pub ease_next_s : (o : Op) (i : ℕ) → easing o ≡ true → next_s o i ≡ i
ease_next_s o i e = ap (λ (b : Bool). cond b (suc i) i) (ease_low o 1 (omega arith) e)

pub ease_next_f : (o : Op) (i : ℕ) → easing o ≡ true → next_f o i ≡ i
ease_next_f o i e = ap (λ (b : Bool). cond b (suc i) i) (ease_low o 2 (omega arith) e)

eased_bag : (E : Env) (i j : ℕ) (o : Op) (bs : List (List Row)) → easing o ≡ true → bag_op E i j o bs ≡ get_or bs 0 []
eased_bag E i j (source s) bs e = no_bool e
eased_bag E i j filter bs e = no_bool e
eased_bag E i j (projection cols) bs e = no_bool e
eased_bag E i j union bs e = no_bool e
eased_bag E i j (repartition p n h ks) bs e = refl
eased_bag E i j (coalesce f) bs e = refl
eased_bag E i j (sort_op p ks f) bs e = refl
eased_bag E i j (merge_op ks f) bs e = refl
eased_bag E i j (global_limit s f note) bs e = refl
eased_bag E i j (local_limit f note) bs e = refl
eased_bag E i j (sort_merge_join t on) bs e = no_bool e
eased_bag E i j (hash_join t on) bs e = no_bool e
eased_bag E i j (output_requirement ks d f) bs e = no_bool e
eased_bag E i j (partial_sort p ks n f) bs e = no_bool e
eased_bag E i j (aggregate ks n) bs e = no_bool e

-- ---- numbers of sources and filters
pub skeleton_past : (n : Op → ℕ → ℕ) → ((o : Op) (i : ℕ) → easing o ≡ true → n o i ≡ i) → (f : Plan) (i : ℕ) → past n (prune easing f) i ≡ past n f i
skeleton_past n h none i = refl
skeleton_past n h (tree o c r) i = go (easing o) refl (λ k. skeleton_past n h c k) (λ k. skeleton_past n h r k)
  where
    go : (b : Bool) → easing o ≡ b → ((k : ℕ) → past n (prune easing c) k ≡ past n c k) → ((k : ℕ) → past n (prune easing r) k ≡ past n r k)
        → past n (cond b (prune easing c) (tree o (prune easing c) none) ⊕ prune easing r) i ≡ past n r (past n c (n o i))
    go true e p q = past_append n (prune easing c) (prune easing r) i ∙ q (past n (prune easing c) i) ∙ ap (past n r) (p i ∙ ap (past n c) (sym (h o i e)))
    go false e p q = q (past n (prune easing c) (n o i)) ∙ ap (past n r) (p (n o i))

-- ---- bags
one_bag : (E : Env) (i j : ℕ) (c : Plan) (l : List (List Row)) → count c ≡ 1 → bags E i j c ++ l ≡ get_or (bags E i j c) 0 [] ∷ l
one_bag E i j none l e = absurd (omega arith)
one_bag E i j (tree o c none) l e = refl
one_bag E i j (tree o c (tree p d r)) l e = absurd (omega arith)

pub skeleton_bags : (E : Env) (i j : ℕ) (f : Plan) → Fit f → bags E i j (prune easing f) ≡ bags E i j f
skeleton_bags E i j none h = refl
skeleton_bags E i j (tree o c r) h = go (easing o) refl (λ k l. skeleton_bags E k l c h.1) (λ k l. skeleton_bags E k l r h.2)
  where
    go : (b : Bool) → easing o ≡ b → ((k l : ℕ) → bags E k l (prune easing c) ≡ bags E k l c) → ((k l : ℕ) → bags E k l (prune easing r) ≡ bags E k l r) →
        bags E i j (cond b (prune easing c) (tree o (prune easing c) none) ⊕ prune easing r) ≡ bags E i j (tree o c r)
    go true e p q =
        bags_append E i j (prune easing c) (prune easing r)
        ∙ ap₂ (λ (x y : List (List Row)). x ++ y) (p i j) (q (past next_s (prune easing c) i) (past next_f (prune easing c) j)
        ∙ ap₂ (λ (x y : ℕ). bags E x y r) (skeleton_past next_s ease_next_s c i) (skeleton_past next_f ease_next_f c j))
        ∙ one_bag E i j c (bags E (past next_s c i) (past next_f c j) r) (subst (λ (z : Arity). FitsA z (count c)) (ease_one o e) h.0)
        ∙ ap₂ (λ (x y : ℕ). get_or (bags E x y c) 0 [] ∷ bags E (past next_s c x) (past next_f c y) r) (sym (ease_next_s o i e)) (sym (ease_next_f o j e))
        ∙ ap (λ (x : List Row). x ∷ bags E (past next_s c (next_s o i)) (past next_f c (next_f o j)) r)
        (sym (eased_bag E i j o (bags E (next_s o i) (next_f o j) c) e))
    go false e p q =
        ap₂ (λ (x y : List (List Row)). bag_op E i j o x ∷ y) (p (next_s o i) (next_f o j))
        (q (past next_s (prune easing c) (next_s o i)) (past next_f (prune easing c) (next_f o j)) ∙ ap₂ (λ (x y : ℕ). bags E x y r)
        (skeleton_past next_s ease_next_s c (next_s o i)) (skeleton_past next_f ease_next_f c (next_f o j)))

-- What a rewrite keeps, said of plans; a: limits may be added
pub record SamePlan (a : Bool) (f g : Plan) : Type 0 where
  pub fit : Fit g
  pub uncut : clear f ≡ true → clear g ≡ true
  pub ok : Ok f → Ok g
  pub bones : Added a (skel f) (skel g)
  pub number : count g ≡ count f
  -- width, constants and classes of each root
  pub bases : map blank (facts g) ≡ map blank (facts f)
  -- no sort of all-constant keys where there was none
  pub live : Live f → Live g

pub kept_plan : {a : Bool} (f : Plan) (d : Forest Marked) → KeepsAll a true true (bare f) d → SamePlan a f (strip d)
kept_plan {a} f d k =
    record {
      fit = k.fit;
      uncut = λ e. pure_clear (strip d) (k.pure refl (subst Pure (sym (strip-bare f)) (clear_pure f e)));
      ok = λ h. k.ok refl (subst Ok (sym (strip-bare f)) h);
      bones = subst (λ (g : Plan). Added a (skel g) (skel (strip d))) (strip-bare f) k.bones;
      number = k.same ∙ ap (λ (g : Plan). count g) (strip-bare f);
      bases = k.bases ∙ ap (λ (g : Plan). map blank (facts g)) (strip-bare f);
      live = λ h. k.live (subst Live (sym (strip-bare f)) h);
    }

pub same_plan_rows : {a : Bool} {E E' : Env} (f g : Plan) {x y : Forest Streams} → SameInputs E E' f → Fit f → clear f ≡ true → SamePlan a f g
    → Run E 0 0 f x → Run E' 0 0 g y → Each SameRows (roots x) (roots y)
same_plan_rows {E' = E'} f g d h e s = same_rows f g d (sym (skeleton_bags E' 0 0 g s.fit) ∙ ap (bags E' 0 0) (eased f g s.bones)
    ∙ skeleton_bags E' 0 0 f h) (pure_simple f (clear_pure f e)) (pure_simple g (clear_pure g (s.uncut e)))

-- ---- ensuring
pub ensure_plan : (f : Plan) → Fit f → SamePlan true f (ensure f)
ensure_plan f h = kept_plan f (transform_up ensure_sorting f) (ensure_kept f h)

pub ensure_rows : {E E' : Env} (f : Plan) {x y : Forest Streams} → SameInputs E E' f → Fit f → clear f ≡ true → Run E 0 0 f x → Run E' 0 0 (ensure f) y
    → Each SameRows (roots x) (roots y)
ensure_rows f d h e = same_plan_rows f (ensure f) d h e (ensure_plan f h)
