-- The counted walks, as equations: each refuses 23 exactly where some step of the pure walk leaves more than 126 nodes of the whole
-- plan, and else answers the pure walk's tree. Pushing stops with 25 at the first sort of all-constant keys: only the steps before it count.
use Rattle.std.specs.Prelude.{◌≡◌, refl, Bool, true, false, cond, not, ◌&&◌, ◌||◌, List, [], ◌∷◌, ◌++◌, ℕ, suc, ◌+◌, ◌-◌, ◌≤◌, length}
use Rattle.std.proofs.Common.{sym, ap, ap₂, ◌∙◌, subst, leb-false, leb-true, le-ltb, lt-ltb, arith}
use Rattle.plan.specs.Forest.{Forest, none, size, tree}
use Rattle.plan.specs.Op.{Op, Plan}
use Rattle.plan.specs.WellFormed.{every}
use Rattle.plan.specs.declared.Refusal.TheVariants.{ConstantSort, TooManyNodes}
use Rattle.semantics.specs.Facts.{facts}
use Rattle.walks.specs.Marks.{bare, cover, kid0, Marked, node, plant, rebuild, size_t, transform_up, Tree}
use Rattle.walks.specs.PushdownSorts.{carry_out, Decision, pushdown_sorts, pushdown_sorts_helper, Visit}
use Rattle.walks.specs.Counted.{afterwards, bind, constant_sort, count_down, Counted, counted, count_up, one, overflows, stepped, stopped, too_many}
use Rattle.walks.specs.Terms.{has_constant_sort, reaches, sizes_down, sizes_up, small}
use Rattle.walks.proofs.Theorems.Common.Lists.{every_append}
use Rattle.walks.specs.Trees.{Arity, arity, count, Fit, FitsA}
use Rattle.walks.proofs.Theorems.Common.Keeps.{KeepsAll, pass_one, strip-bare}
use Rattle.walks.proofs.Theorems.Push.Kept.{Fair, helper_fair, push_kept}
use Rattle.walks.proofs.Theorems.Ensure.Removal.{strip-count}

-- ---- children before parents
bind-cond : {A B : Type 0} (a : Bool) (x : A) (m : ℕ) (g : A → ℕ → Counted B) → bind (cond a (counted x m) (stopped TooManyNodes)) g ≡ cond a (g x m)
    (stopped TooManyNodes)
bind-cond true x m g = refl
bind-cond false x m g = refl

settled : {A B : Type 0} (a b e : Bool) (x : A) (l : ℕ) (g : A → B)
    → cond a (cond b (stopped TooManyNodes) (bind (cond e (counted x l) (stopped TooManyNodes)) (λ s i. counted (g s) i))) (stopped TooManyNodes) ≡ cond
    (a && (not b && e)) (counted (g x) l) (stopped TooManyNodes)
settled true true e x l g = refl
settled true false true x l g = refl
settled true false false x l g = refl
settled false b e x l g = refl

pub not_many : (n : ℕ) → not (too_many n) ≡ small n
not_many n = go (small n) refl
  where
    go : (b : Bool) → small n ≡ b → not (too_many n) ≡ b
    go true q = ap not (le-ltb 126 n (leb-true n 126 q))
    go false q = ap not (lt-ltb 126 n (leb-false n 126 q))

pub count_up_lem : (step : Tree → Tree) (a : ℕ) (f : Plan) (n : ℕ) → n ≡ a + size f → count_up step n f ≡ cond (every small (sizes_up step a f))
    (counted (transform_up step f) (a + size (transform_up step f))) (stopped TooManyNodes)
count_up_lem step a none n e = ap (λ (m : ℕ). counted none m) e
count_up_lem step a (tree o c r) n e =
    ap (λ (w : Counted (Forest Marked)). bind w rest) (count_up_lem step (a + suc (size r)) c n (omega arith))
    ∙ bind-cond (every small (sizes_up step (a + suc (size r)) c)) d m rest
    ∙ ap (λ (k : ℕ). cond (every small (sizes_up step (a + suc (size r)) c))
    (cond (too_many k) (stopped TooManyNodes) (bind (count_up step k r) (λ s l. counted (plant t s) l))) (stopped TooManyNodes)) here
    ∙ ap (λ (w : Counted (Forest Marked)). cond (every small (sizes_up step (a + suc (size r)) c))
    (cond (too_many ((a + size_t t) + size r)) (stopped TooManyNodes) (bind w (λ s l. counted (plant t s) l))) (stopped TooManyNodes))
    (count_up_lem step (a + size_t t) r ((a + size_t t) + size r) refl)
    ∙ settled (every small (sizes_up step (a + suc (size r)) c)) (too_many ((a + size_t t) + size r)) (every small (sizes_up step (a + size_t t) r))
    (transform_up step r) ((a + size_t t) + size (transform_up step r)) (plant t)
    ∙ ap (λ (b : Bool). cond (every small (sizes_up step (a + suc (size r)) c) && (b && every small (sizes_up step (a + size_t t) r)))
    (counted (transform_up step (tree o c r)) ((a + size_t t) + size (transform_up step r))) (stopped TooManyNodes)) (not_many ((a + size_t t) + size r))
    ∙ ap₂ (λ (b : Bool) (l : ℕ). cond b (counted (transform_up step (tree o c r)) l) (stopped TooManyNodes))
    (sym (every_append small (sizes_up step (a + suc (size r)) c) (((a + size_t t) + size r) ∷ sizes_up step (a + size_t t) r))) last
  where
    d : Forest Marked
    d = transform_up step c

    t : Tree
    t = step (rebuild o false d)

    m : ℕ
    m = (a + suc (size r)) + size d

    here : (m + size_t t) - size_t (rebuild o false d) ≡ (a + size_t t) + size r
    here = omega arith

    last : (a + size_t t) + size (transform_up step r) ≡ a + size (transform_up step (tree o c r))
    last = omega arith

    rest : Forest Marked → ℕ → Counted (Forest Marked)
    rest x i = stepped step o x i (λ u j. bind (count_up step j r) (λ s l. counted (plant u s) l))

-- ---- the size of one of two trees
pub cond_le : (n : ℕ) (x : Bool) (t u : Tree) → size_t t ≤ n → size_t u ≤ n → size_t (cond x t u) ≤ n
cond_le n true t u h k = h
cond_le n false t u h k = k

-- ---- the size of what a decision makes
pub cover-size : (ts : List Op) (t : Tree) → size_t (cover ts t) ≡ length ts + size_t t
cover-size [] t = omega arith
cover-size (o ∷ os) t = omega (arith, cover-size os t)

kid_size : (t : Tree) (d : Forest Marked) → count d ≡ 1 → size_t (kid0 t d) ≡ size d
kid_size t none e = absurd (omega arith)
kid_size t (tree m d none) e = omega arith
kid_size t (tree m d (tree n c r)) e = absurd (omega arith)

pub carry_out-size : (D : Decision) (d : Forest Marked) → (D.gone ≡ true → count d ≡ 1) → size_t (carry_out D d) + one D.gone ≡ suc
    (length D.tops + size d)
carry_out-size D d h = go D.gone refl
  where
    go : (x : Bool) → D.gone ≡ x → size_t (cover D.tops (cond x (kid0 (node D.op false d) d) (rebuild D.op false d))) + one x ≡ suc
        (length D.tops + size d)
    go true e = omega (arith, cover-size D.tops (kid0 (node D.op false d) d), kid_size (node D.op false d) d (h e))
    go false e = omega (arith, cover-size D.tops (rebuild D.op false d))

pub one_le : (b : Bool) → one b ≤ 1
one_le true = omega arith
one_le false = omega arith

pub one_visited : (q : Visit) (o : Op) (c : Plan) → FitsA (arity o) (count c) → Fit c → (pushdown_sorts_helper q o c).gone ≡ true
    → count (pushdown_sorts (pushdown_sorts_helper q o c).reqs c) ≡ 1
one_visited q o c h f e =
    let D : Decision = pushdown_sorts_helper q o c in
    let F : Fair o (facts c) D = helper_fair q c o in
    let k : KeepsAll false false false (bare c) (pushdown_sorts D.reqs c) = push_kept D.reqs c f in
    sym (strip-count (pushdown_sorts D.reqs c)) ∙ k.same ∙ ap (λ (g : Plan). count g) (strip-bare c) ∙ subst (λ (z : Arity). FitsA z (count c))
    (sym F.like.kids ∙ pass_one D.op (F.gone e)) h

-- ---- parents before children, with any test of the count
-- A visit that decides D, in a plan of n nodes; b: it meets a sort whose keys are all constant; rest: its children
abbrev pub carried : (ℕ → Bool) → Decision → ℕ → Bool → (ℕ → Counted (Forest Marked)) → Counted Tree
carried full D n b rest =
    cond b (stopped ConstantSort)
    (cond (not D.quiet && full (afterwards D n + D.peak)) (stopped TooManyNodes) (bind (rest (afterwards D n)) (λ d m. counted (carry_out D d) m)))

abbrev pub count_by : (ℕ → Bool) → (ℕ → Visit) → ℕ → Plan → Counted (Forest Marked)
count_by full q n none = counted none n
count_by full q n (tree o c r) =
    bind (carried full (pushdown_sorts_helper (q 0) o c) n (constant_sort o c) (λ j. count_by full (pushdown_sorts_helper (q 0) o c).reqs j c))
    (λ t m. bind (count_by full (λ i. q (suc i)) m r) (λ s l. counted (plant t s) l))

factor : (b b' : Bool) (X : Counted (Forest Marked)) (g : Forest Marked → Tree) (K : Tree → ℕ → Counted (Forest Marked)) →
    bind (cond b (stopped ConstantSort) (cond b' (stopped TooManyNodes) (bind X (λ d m. counted (g d) m)))) K
    ≡ cond b (stopped ConstantSort) (cond b' (stopped TooManyNodes) (bind X (λ d m. K (g d) m)))
factor true b' X g K = refl
factor false true X g K = refl
factor false false (stopped e) g K = refl
factor false false (counted x n) g K = refl

bind_ext : {A B : Type 0} (X : Counted A) (g h : A → ℕ → Counted B) → ((x : A) (n : ℕ) → g x n ≡ h x n) → bind X g ≡ bind X h
bind_ext (stopped e) g h k = refl
bind_ext (counted x n) g h k = k x n

-- With the test of refusal 23 it is the definition's
pub count_by_lem : (q : ℕ → Visit) (n : ℕ) (f : Plan) → count_by too_many q n f ≡ count_down q n f
count_by_lem q n none = refl
count_by_lem q n (tree o c r) =
    ap (λ (w : Counted (Forest Marked)). bind (visit w) (right (count_by too_many))) (count_by_lem D.reqs (afterwards D n) c)
    ∙ factor (constant_sort o c) (overflows D n) below (carry_out D) (right (count_by too_many))
    ∙ ap (λ (w : Counted (Forest Marked)). cond (constant_sort o c) (stopped ConstantSort) (cond (overflows D n) (stopped TooManyNodes) w))
    (bind_ext below (λ d m. right (count_by too_many) (carry_out D d) m) (λ d m. right count_down (carry_out D d) m)
    (λ d m. ap (λ (w : Counted (Forest Marked)). bind w (λ s l. counted (plant (carry_out D d) s) l)) (count_by_lem (λ i. q (suc i)) m r)))
  where
    D : Decision
    D = pushdown_sorts_helper (q 0) o c

    below : Counted (Forest Marked)
    below = count_down D.reqs (afterwards D n) c

    visit : Counted (Forest Marked) → Counted Tree
    visit w = cond (constant_sort o c) (stopped ConstantSort) (cond (overflows D n) (stopped TooManyNodes) (bind w (λ d m. counted (carry_out D d) m)))

    right : ((ℕ → Visit) → ℕ → Plan → Counted (Forest Marked)) → Tree → ℕ → Counted (Forest Marked)
    right walk t m = bind (walk (λ i. q (suc i)) m r) (λ s l. counted (plant t s) l)

-- x: no step leaves too many nodes up to the first sort of all-constant keys; y: there is one
abbrev pub decided : {A : Type 0} → Bool → Bool → Counted A → Counted A
decided x y w = cond x (cond y (stopped ConstantSort) w) (stopped TooManyNodes)

module _ (full : ℕ → Bool) where
  abbrev fits : ℕ → Bool
  fits n = not (full n)

  every_reached : (D : Decision) (n : ℕ) → every fits (reaches D n) ≡ not (not D.quiet && full (afterwards D n + D.peak))
  every_reached D n = go D.quiet (full (afterwards D n + D.peak))
    where
      go : (x y : Bool) → every fits (cond x [] ((afterwards D n + D.peak) ∷ [])) ≡ not (not x && full (afterwards D n + D.peak))
      go true y = refl
      go false y = and_true (not (full (afterwards D n + D.peak)))
        where
          and_true : (b : Bool) → b && true ≡ b
          and_true true = refl
          and_true false = refl

  every_unless : (b : Bool) (l : List ℕ) → every fits (cond b [] l) ≡ cond b true (every fits l)
  every_unless true l = refl
  every_unless false l = refl

  -- the refusals of a visit, of its children and of those to the right, in their order
  in_order : (a v x y x' y' : Bool) (g : Forest Marked → Tree) (d : Forest Marked) (m : ℕ) (w : ℕ → Counted (Forest Marked)) (s : Forest Marked) (l : ℕ)
      → w m ≡ decided x' y' (counted s l) →
      bind (cond a (stopped ConstantSort) (cond v (stopped TooManyNodes) (bind (decided x y (counted d m)) (λ d m. counted (g d) m))))
      (λ t i. bind (w i) (λ s l. counted (plant t s) l))
      ≡ decided (cond a true (not v && (x && cond y true x'))) (a || (y || y')) (counted (plant (g d) s) l)
  in_order true v x y x' y' g d m w s l h = refl
  in_order false true x y x' y' g d m w s l h = refl
  in_order false false false y x' y' g d m w s l h = refl
  in_order false false true true x' y' g d m w s l h = refl
  in_order false false true false false y' g d m w s l h = ap (λ (z : Counted (Forest Marked)). bind z (λ s l. counted (plant (g d) s) l)) h
  in_order false false true false true true g d m w s l h = ap (λ (z : Counted (Forest Marked)). bind z (λ s l. counted (plant (g d) s) l)) h
  in_order false false true false true false g d m w s l h = ap (λ (z : Counted (Forest Marked)). bind z (λ s l. counted (plant (g d) s) l)) h

  pub count_down_lem : (a : ℕ) (q : ℕ → Visit) (f : Plan) (n : ℕ) → Fit f → n ≡ a + size f →
      count_by full q n f ≡ decided (every fits (sizes_down a q f)) (has_constant_sort f) (counted (pushdown_sorts q f) (a + size (pushdown_sorts q f)))
  count_down_lem a q none n h e = ap (λ (m : ℕ). counted none m) e
  count_down_lem a q (tree o c r) n h e =
      ap (λ (m : ℕ). count_by full q m (tree o c r)) e
      ∙ ap (λ (w : Counted (Forest Marked)). bind
      (cond (constant_sort o c) (stopped ConstantSort) (cond over (stopped TooManyNodes) (bind w (λ d m. counted (carry_out D d) m)))) rest)
      (count_down_lem b D.reqs c (afterwards D (a + size (tree o c r))) h.1 (omega (arith, one_le D.gone)))
      ∙ in_order (constant_sort o c) over (every fits below) (has_constant_sort c) (every fits right) (has_constant_sort r) (carry_out D) d (b + size d)
      (λ i. count_by full (λ j. q (suc j)) i r) s ((a + size_t t) + size s)
      (count_down_lem (a + size_t t) (λ i. q (suc i)) r (b + size d) h.2 (omega (arith, one_le D.gone, z)))
      ∙ ap₂ (λ (x : Bool) (m : ℕ). decided x (has_constant_sort (tree o c r)) (counted (plant t s) m)) (sym tests) (omega arith)
    where
      D : Decision
      D = pushdown_sorts_helper (q 0) o c

      d : Forest Marked
      d = pushdown_sorts D.reqs c

      t : Tree
      t = carry_out D d

      s : Forest Marked
      s = pushdown_sorts (λ i. q (suc i)) r

      b : ℕ
      b = (a + size r) + (suc (length D.tops) - one D.gone)

      below : List ℕ
      below = sizes_down b D.reqs c

      right : List ℕ
      right = sizes_down (a + size_t t) (λ i. q (suc i)) r

      over : Bool
      over = not D.quiet && full (afterwards D (a + size (tree o c r)) + D.peak)

      rest : Tree → ℕ → Counted (Forest Marked)
      rest u m = bind (count_by full (λ i. q (suc i)) m r) (λ s l. counted (plant u s) l)

      z : size_t t + one D.gone ≡ suc (length D.tops + size d)
      z = carry_out-size D d (one_visited (q 0) o c h.0 h.1)

      tests : every fits (sizes_down a q (tree o c r)) ≡ cond (constant_sort o c) true
          (not over && (every fits below && cond (has_constant_sort c) true (every fits right)))
      tests =
          every_unless (constant_sort o c) (reaches D (a + size (tree o c r)) ++ (below ++ cond (has_constant_sort c) [] right))
          ∙ ap (cond (constant_sort o c) true)
          (every_append fits (reaches D (a + size (tree o c r))) (below ++ cond (has_constant_sort c) [] right)
          ∙ ap₂ ◌&&◌ (every_reached D (a + size (tree o c r)))
          (every_append fits below (cond (has_constant_sort c) [] right) ∙ ap (λ (x : Bool). every fits below && x) (every_unless (has_constant_sort c) right)))
