-- The walk in the Rust's form and the structural one agree on a whole plan, whatever bound there is on nodes. Assumes nothing.
use Rattle.std.specs.Prelude.{◌≡◌, refl, Bool, true, false, cond, ◌&&◌, List, [], ◌∷◌, ℕ, suc, ◌+◌, ◌*◌, ◌-◌, ◌≤◌, leb, Option}
use Rattle.std.proofs.Common.{sym, ap, ap₂, ◌∙◌, subst, arith, eqb-true}
use Rattle.row_order.specs.Iso.{Key}
use Rattle.row_order.proofs.Order.{no_bool}
use Rattle.plan.specs.Forest.{Forest, none, tree, size}
use Rattle.plan.specs.Op.{coalesce, merge_op, Op, Plan, repartition, sort_op}
use Rattle.plan.specs.Numbers.{code}
use Rattle.plan.specs.WellFormed.{every}
use Rattle.plan.specs.declared.Refusal.TheVariants.{ConstantSort}
use Rattle.semantics.specs.Facts.{facts}
use Rattle.semantics.specs.Properties.{rebuilt}
use Rattle.walks.specs.Marks.{Marked, node, plant, Shape, shape, size_t, strip, Tree}
use Rattle.walks.specs.Utils.{is_sort}
use Rattle.walks.specs.PushdownSorts.{at_root, Decision, decide_by, decide_node, push, pushdown_sorts, pushdown_sorts_helper, Visit}
use Rattle.walks.specs.Counted.{answered, answer_of, bind, constant_sort, Counted, counted, refused}
use Rattle.push_literal.specs.PushdownSortsLiteral.{OneChild, and_then, done, given_by, gives, literal_push, map_children, Outcome, pushdown_sorts_by, Required, SortPushDown, transform_down}
use Rattle.walks.specs.Terms.{has_constant_sort, sizes_down}
use Rattle.walks.proofs.Theorems.Common.ConstantSorts.{no_sort}
use Rattle.walks.specs.Trees.{Arity, count, Fit, FitsA}
use Rattle.walks.proofs.Theorems.Common.Keeps.{pass_one, remark-same, shape_ind}
use Rattle.walks.proofs.Theorems.Ensure.Removal.{is_other, other_code}
use Rattle.walks.proofs.Theorems.Calls.Counts.{count_down_lem, count_by, decided}
use Rattle.push_literal.proofs.Contexts.{BelowRoot, contexts, holding, initial-contexts, kids_hold, size-contexts, touched, visited}
use Rattle.push_literal.proofs.Agrees.{agree_bind, agree_done, agree_stop, AgreesF, AgreesT, Below, carried_at, SameF, SameT}
use Rattle.push_literal.proofs.Nodes.{node_step}
use Rattle.push_literal.proofs.Sorts.{sort_step}

pub fit_one : (f : Plan) → Fit f → OneChild f
fit_one none h = tt
fit_one (tree o c r) h = (
  λ e. subst (λ (z : Arity). FitsA z (count c)) (pass_one o (ap (λ (n : ℕ). leb 5 n && leb n 8) (eqb-true (code o) 7 e))) h.0,
  fit_one c h.1,
  fit_one r h.2,
)

module _ (full : ℕ → Bool) (mono : (m n : ℕ) → m ≤ n → full n ≡ false → full m ≡ false) where
  -- ---- one node o over c
  abbrev Steps : Visit → Plan → ℕ → ℕ → Op → Type 0
  Steps v c n k o =
      AgreesT k (transform_down full (suc (suc (suc (suc n)))) k (visited v o c))
      (carried_at full c (pushdown_sorts_helper v o c) (suc (size c) + k) (constant_sort o c))

  other_step : (v : Visit) → BelowRoot v → (c : Plan) → Below full c → (n k : ℕ) → 4 * size c ≤ n → (o : Op) → is_sort o ≡ false →
      ((w : Op) → decide_by (shape o) v w c ≡ decide_node v w c) → Steps v c n k o
  other_step v low c ih n k l o ns e =
      subst (λ (b : Bool). AgreesT k (transform_down full (suc (suc (suc (suc n)))) k (visited v o c))
      (carried_at full c (pushdown_sorts_helper v o c) (suc (size c) + k) b)) (sym (no_sort o (facts c) ns))
      (subst (λ (D : Decision). AgreesT k (transform_down full (suc (suc (suc (suc n)))) k (visited v o c)) (carried_at full c D (suc (size c) + k) false))
      (sym (e (touched v o c)))
      (node_step full mono c ih v low (touched v o c) (still v.touch) n k l))
    where
      still : (b : Bool) → is_sort (cond b (rebuilt o (facts c)) o) ≡ false
      still true = remark-same is_sort _ (λ p q i h ks. refl) o ∙ ns
      still false = ns

  sort_at : (v : Visit) (c : Plan) → Below full c → (n k : ℕ) → 4 * size c ≤ n → (p : Bool) (ks : List Key) (f : Option ℕ) → count c ≡ 1 →
      Steps v c n k (sort_op p ks f)
  sort_at v none ih n k l p ks f e = absurd (omega arith)
  sort_at v (tree o' c' none) ih n k l p ks f e = go v.touch
    where
      c : Plan
      c = tree o' c' none

      go : (b : Bool) →
          AgreesT k (transform_down full (suc (suc (suc (suc n)))) k
          (node (cond b (sort_op p ks f) (sort_op p ks f)) v.req (holding (kids_hold v.root (cond b (sort_op p ks f) (sort_op p ks f)) c) c)))
          (carried_at full c (pushdown_sorts_helper v (sort_op p ks f) c) (suc (size c) + k) (constant_sort (sort_op p ks f) c))
      go true = sort_step full o' c' ih p ks f v n k l
      go false = sort_step full o' c' ih p ks f v n k l
  sort_at v (tree o' c' (tree a d r)) ih n k l p ks f e = absurd (omega arith)

  step : (v : Visit) → BelowRoot v → (c : Plan) → Below full c → (n k : ℕ) → 4 * size c ≤ n → (o : Op) → (is_sort o ≡ true → count c ≡ 1) → Steps v c n k o
  step v low c ih n k l =
      shape_ind (λ o. (is_sort o ≡ true → count c ≡ 1) → Steps v c n k o)
      (λ p ks f h. sort_at v c ih n k l p ks f (h refl))
      (λ ks f h. other_step v low c ih n k l (merge_op ks f) refl (λ w. refl))
      (λ p m b ks h. other_step v low c ih n k l (repartition p m b ks) refl (λ w. refl))
      (λ f h. other_step v low c ih n k l (coalesce f) refl (λ w. refl))
      (λ o e h. other_step v low c ih n k l o (other_code o (ap is_other e)).0 (λ w. ap (λ (s : Shape). decide_by s v w c) e))

  -- ---- a whole plan
  planted : (k : ℕ) (t : SortPushDown) (u : Tree) (m : ℕ) (s : Forest Required) (y : Forest Marked) (j r : ℕ) → SameT (r + k) t u m →
      SameF (size_t t + k) s y j → SameF k (plant t s) (plant u y) j
  planted k t u m s y j r a b =
      let number : j ≡ suc (size t.kids + size s) + k = omega (arith, b.number) in
      record { plan = ap (λ (o : Op). tree o (strip t.kids) (strip s)) a.node ∙ ap₂ (tree u.top.op) a.plan b.plan; number = number }

  -- A tree and those to its right, where the walks agree on its children and on those
  tree_agrees : (o : Op) (c r : Plan) → (is_sort o ≡ true → count c ≡ 1) → Below full c → Below full r → Below full (tree o c r)
  tree_agrees o c r h ic ir q low n k l =
      agree_bind (λ t. and_then (map_children (λ j u. transform_down full n j u) (size_t t + k) R) (λ s. done (plant t s)))
      (λ u m. bind (count_by full (λ i. q (suc i)) m r) (λ s j. counted (plant u s) j)) first
      (λ t u m a. agree_bind (λ s. done (plant t s)) (λ s j. counted (plant u s) j) (right t u m a)
      (λ s y j b. agree_done (planted k t u m s y j (size R) a b)))
    where
      R : Forest Required
      R = contexts (λ i. q (suc i)) r

      R-size : size R ≡ size r
      R-size = size-contexts (λ i. q (suc i)) r

      fuel : suc (suc (suc (suc (n - 4)))) ≡ n
      fuel = omega arith

      whole : suc (size c) + (size R + k) ≡ suc (size c + size r) + k
      whole = omega (arith, R-size)

      first : AgreesT (size R + k) (transform_down full n (size R + k) (visited (q 0) o c))
          (carried_at full c (pushdown_sorts_helper (q 0) o c) (suc (size c + size r) + k) (constant_sort o c))
      first =
          subst (λ (i : ℕ). AgreesT (size R + k) (transform_down full i (size R + k) (visited (q 0) o c))
          (carried_at full c (pushdown_sorts_helper (q 0) o c) (suc (size c + size r) + k) (constant_sort o c))) fuel
          (subst (λ (i : ℕ). AgreesT (size R + k) (transform_down full (suc (suc (suc (suc (n - 4))))) (size R + k) (visited (q 0) o c))
          (carried_at full c (pushdown_sorts_helper (q 0) o c) i (constant_sort o c))) whole
          (step (q 0) (low 0) c ic (n - 4) (size R + k) (omega arith) o h))

      right : (t : SortPushDown) (u : Tree) (m : ℕ) → SameT (size R + k) t u m →
          AgreesF (size_t t + k) (map_children (λ j u. transform_down full n j u) (size_t t + k) R) (count_by full (λ i. q (suc i)) m r)
      right t u m a =
          subst (λ (i : ℕ). AgreesF (size_t t + k) (map_children (λ j u. transform_down full n j u) (size_t t + k) R) (count_by full (λ i. q (suc i)) i r))
          (omega (arith, a.number, R-size))
          (ir (λ i. q (suc i)) (λ i. low (suc i)) n (size_t t + k) (omega arith))

  walks_agree : (f : Plan) → OneChild f → Below full f
  walks_agree none h q low n k l = agree_done (record { plan = refl; number = refl })
  walks_agree (tree o c r) h q low n k l = tree_agrees o c r h.0 (walks_agree c h.1) (walks_agree r h.2) q low n k l

  given : {k : ℕ} {X : Outcome (Forest Required)} {Y : Counted (Forest Marked)} → AgreesF k X Y → given_by X ≡ gives (answer_of Y)
  given agree_stop = refl
  given (agree_done a) = ap (λ (p : Plan). gives (answered p)) a.plan

  pub literal_agrees : (f : Plan) → OneChild f → (n : ℕ) → 4 * size f ≤ n →
      given_by (pushdown_sorts_by full n f) ≡ gives (answer_of (count_by full (λ i. at_root) (size f) f))
  literal_agrees f h n l =
      ap (λ (x : Forest Required). given_by (map_children (λ k t. transform_down full n k t) 0 x)) (initial-contexts f)
      ∙ given (walks_agree f h (λ i. at_root) (λ i e. no_bool (sym e)) n 0 l)
      ∙ ap (λ (i : ℕ). gives (answer_of (count_by full (λ i. at_root) i f))) (omega arith)

-- With no limit of nodes: 25 if some sort's keys are all constant, else the plan
pub push_is_literal : (f : Plan) → Fit f → (n : ℕ) → 4 * size f ≤ n →
    literal_push n f ≡ gives (cond (has_constant_sort f) (refused ConstantSort) (answered (push f)))
push_is_literal f h n l =
    literal_agrees (λ m. false) (λ m i q e. refl) f (fit_one f h) n l
    ∙ ap (λ (w : Counted (Forest Marked)). gives (answer_of w)) (count_down_lem (λ m. false) 0 (λ i. at_root) f (size f) h (omega arith))
    ∙ go (every (λ m. true) sizes) (never sizes) (has_constant_sort f)
  where
    sizes : List ℕ
    sizes = sizes_down 0 (λ i. at_root) f

    d : Forest Marked
    d = pushdown_sorts (λ i. at_root) f

    never : (l : List ℕ) → every (λ m. true) l ≡ true
    never [] = refl
    never (m ∷ l) = never l

    go : (x : Bool) → x ≡ true → (y : Bool) →
        gives (answer_of (decided x y (counted d (0 + size d)))) ≡ gives (cond y (refused ConstantSort) (answered (push f)))
    go true e true = refl
    go true e false = refl
    go false e y = no_bool e
