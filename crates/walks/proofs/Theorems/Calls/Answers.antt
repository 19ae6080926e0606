-- What the calls answer, as equations; and that the answer to a well-formed plan is well formed again.
use Rattle.std.specs.Prelude.{◌≡◌, refl, Bool, true, false, cond, not, ◌&&◌, ◌||◌, List, [], ◌∷◌, ◌++◌, ◌↔◌, ℕ, suc, ◌+◌, ◌-◌, ◌≤◌, length}
use Rattle.std.proofs.Common.{sym, ap, ap₂, ◌∙◌, subst, arith, eqb-true, eq-eqb, leb-true, le-leb}
use Rattle.row_order.proofs.Order.{no_bool}
use Rattle.plan.specs.Forest.{Forest, none, roots, size, tree}
use Rattle.plan.specs.Op.{Plan}
use Rattle.plan.specs.WellFormed.{every, well_formed}
use Rattle.plan.specs.declared.Refusal.TheVariants.{ConstantSort, HasPartialSort, TooManyNodes}
use Rattle.semantics.proofs.Theorems.Common.Bools.{and_left, and_right, or_false}
use Rattle.walks.specs.Marks.{Marked, rebuild, size_t, strip, transform_up, Tree}
use Rattle.walks.specs.EnsureSorting.{ensure_sorting}
use Rattle.walks.specs.ParallelizeSorts.{parallelize_sorts}
use Rattle.walks.specs.OrderPreserving.{replace_with_order_preserving_variants, Settings}
use Rattle.walks.specs.PushdownSorts.{at_root, carry_out, Decision, push, pushdown_sorts, pushdown_sorts_helper, Visit}
use Rattle.walks.specs.Counted.{afterwards, Answer, answered, answer_of, answer_to, constant_sort, Counted, counted, count_up, ensured, has_partial_sort, one, parallelized, preserved, pushed, refused, stopped, too_many}
use Rattle.walks.specs.Terms.{answer_down, answer_up, has_constant_sort, Live, reaches, sizes_down, sizes_up, small}
use Rattle.walks.proofs.Theorems.Common.Lists.{every_append, every_same}
use Rattle.walks.specs.Trees.{count, Fit, Ok}
use Rattle.walks.proofs.Theorems.Common.Trees.{ok_fit, ok_of, ok_to, strip-size}
use Rattle.walks.proofs.Theorems.Common.Rows.{ensure_plan, SamePlan}
use Rattle.walks.proofs.Theorems.Preserve.Kept.{preserve_plan}
use Rattle.walks.proofs.Theorems.Parallelize.Kept.{parallelize_plan}
use Rattle.walks.proofs.Theorems.Push.Kept.{helper_fair}
use Rattle.walks.proofs.Theorems.Push.WellFormed.{push_plan}
use Rattle.walks.proofs.Theorems.Calls.Counts.{carry_out-size, count_by_lem, count_down_lem, count_up_lem, decided, not_many, one_le, one_visited}

-- ---- what an answer is
abbrev pub is_answer : Answer → Bool
is_answer (refused e) = false
is_answer (answered g) = true

abbrev pub plan_or : Plan → Answer → Plan
plan_or d (refused e) = d
plan_or d (answered g) = g

-- ---- the calls
answer_cond : (b : Bool) (d : Forest Marked) (n : ℕ) → answer_of (cond b (counted d n) (stopped TooManyNodes)) ≡ cond b (answered (strip d))
    (refused TooManyNodes)
answer_cond true d n = refl
answer_cond false d n = refl

up_is : (step : Tree → Tree) (f : Plan) → answer_to f (count_up step (size f) f) ≡ answer_up step f
up_is step f =
    ap (λ (w : Counted (Forest Marked)). cond (has_partial_sort f) (refused HasPartialSort) (answer_of w)) (count_up_lem step 0 f (size f) (omega arith))
    ∙ ap (λ (w : Answer). cond (has_partial_sort f) (refused HasPartialSort) w)
    (answer_cond (every small (sizes_up step 0 f)) (transform_up step f) (0 + size (transform_up step f)))

pub ensured_is : (f : Plan) → ensured f ≡ answer_up ensure_sorting f
ensured_is f = up_is ensure_sorting f

pub parallelized_is : (f : Plan) → parallelized f ≡ answer_up parallelize_sorts f
parallelized_is f = up_is parallelize_sorts f

pub preserved_is : (s : Settings) (f : Plan) → preserved s f ≡ answer_up (replace_with_order_preserving_variants s) f
preserved_is s f = up_is (replace_with_order_preserving_variants s) f

pub pushed_is : (f : Plan) → Fit f → pushed f ≡ answer_down f
pushed_is f h =
    ap (λ (w : Counted (Forest Marked)). cond (has_partial_sort f) (refused HasPartialSort) (answer_of w))
    (sym (count_by_lem (λ i. at_root) (size f) f) ∙ count_down_lem too_many 0 (λ i. at_root) f (size f) h (omega arith))
    ∙ ap (λ (w : Answer). cond (has_partial_sort f) (refused HasPartialSort) w)
    (go (every (λ n. not (too_many n)) sizes) (has_constant_sort f) (0 + size (pushdown_sorts (λ i. at_root) f))
    ∙ ap answers (every_same (λ n. not (too_many n)) small not_many sizes))
  where
    sizes : List ℕ
    sizes = sizes_down 0 (λ i. at_root) f

    answers : Bool → Answer
    answers x = cond x (cond (has_constant_sort f) (refused ConstantSort) (answered (push f))) (refused TooManyNodes)

    go : (x y : Bool) (n : ℕ) → answer_of (decided x y (counted (pushdown_sorts (λ i. at_root) f) n)) ≡ cond x
        (cond y (refused ConstantSort) (answered (push f))) (refused TooManyNodes)
    go true true n = refl
    go true false n = refl
    go false y n = refl

-- 25: "pushing meets a sort whose keys are all constant", and no step before it left more than 126 nodes
pub pushed_25 : (f : Plan) → Fit f →
    (pushed f ≡ refused ConstantSort) ↔ ((has_partial_sort f ≡ false) × (has_constant_sort f ≡ true) × (every small (sizes_down 0 (λ i. at_root) f) ≡ true))
pushed_25 f h = (
  λ e. go (has_partial_sort f) (every small (sizes_down 0 (λ i. at_root) f)) (has_constant_sort f) (sym (pushed_is f h) ∙ e),
  λ p. pushed_is f h ∙ first_of p.0 p.2 p.1,
)
  where
    answers : Bool → Bool → Bool → Answer
    answers a x y = cond a (refused HasPartialSort) (cond x (cond y (refused ConstantSort) (answered (push f))) (refused TooManyNodes))

    first_of : {a x y : Bool} → a ≡ false → x ≡ true → y ≡ true → answers a x y ≡ refused ConstantSort
    first_of {y = y} p q r = ap₂ (λ (a x : Bool). answers a x y) p q ∙ ap (answers false true) r

    go : (a x y : Bool) → answers a x y ≡ refused ConstantSort → (a ≡ false) × (y ≡ true) × (x ≡ true)
    go true x y e = let bad : ◌≡◌ {A = ℕ} 0 1 = cc in absurd (omega arith)
    go false true true e = (refl, refl, refl)
    go false true false e = no_bool (sym (ap is_answer e))
    go false false y e = let bad : ◌≡◌ {A = ℕ} 0 1 = cc in absurd (omega arith)

-- Where no sort has all-constant keys, 25 does not come
pub live_constant : (f : Plan) → Live f → has_constant_sort f ≡ false
live_constant none h = refl
live_constant (tree o c r) h = ap₂ ◌||◌ h.0 (ap₂ ◌||◌ (live_constant c h.1) (live_constant r h.2))

pub live_pushed : (f : Plan) → Fit f → Live f → ¬ (pushed f ≡ refused ConstantSort)
live_pushed f h l e = no_bool (sym (live_constant f l) ∙ ((pushed_25 f h).0 e).1)

pub up_answers : (step : Tree → Tree) (f g : Plan) → answer_up step f ≡ answered g → (every small (sizes_up step 0 f) ≡ true)
    × (g ≡ strip (transform_up step f))
up_answers step f g = go (has_partial_sort f) (every small (sizes_up step 0 f)) refl
  where
    go : (a b : Bool) → every small (sizes_up step 0 f) ≡ b → cond a (refused HasPartialSort)
        (cond b (answered (strip (transform_up step f))) (refused TooManyNodes)) ≡ answered g → (every small (sizes_up step 0 f) ≡ true)
        × (g ≡ strip (transform_up step f))
    go true b q e = no_bool (ap is_answer e)
    go false true q e = (q, sym (ap (plan_or g) e))
    go false false q e = no_bool (ap is_answer e)

pub up_whole : (step : Tree → Tree) (f g : Plan) → answer_up step f ≡ answered g → has_partial_sort f ≡ false
up_whole step f g = go (has_partial_sort f)
  where
    go : (a : Bool) → cond a (refused HasPartialSort) (cond (every small (sizes_up step 0 f)) (answered (strip (transform_up step f))) (refused TooManyNodes))
        ≡ answered g → a ≡ false
    go true e = no_bool (ap is_answer e)
    go false e = refl

pub down_answers : (f g : Plan) → answer_down f ≡ answered g → (every small (sizes_down 0 (λ i. at_root) f) ≡ true) × (g ≡ push f)
    × (has_constant_sort f ≡ false)
down_answers f g = go (has_partial_sort f) (every small (sizes_down 0 (λ i. at_root) f)) (has_constant_sort f)
  where
    go : (a x y : Bool) → cond a (refused HasPartialSort) (cond x (cond y (refused ConstantSort) (answered (push f))) (refused TooManyNodes)) ≡ answered g
        → (x ≡ true) × (g ≡ push f) × (y ≡ false)
    go true x y e = no_bool (ap is_answer e)
    go false true true e = no_bool (ap is_answer e)
    go false true false e = (refl, sym (ap (plan_or g) e), refl)
    go false false y e = no_bool (ap is_answer e)

-- ---- well formed again
-- the last step is the root's, and after it all is walked
one_root : (step : Tree → Tree) (f : Plan) → count f ≡ 1 → every small (sizes_up step 0 f) ≡ true → size (strip (transform_up step f)) ≤ 126
one_root step none n e = absurd (omega arith)
one_root step (tree o c none) n e =
    let t : Tree = step (rebuild o false (transform_up step c)) in
    let last : small ((0 + size_t t) + 0) ≡ true = and_left (small ((0 + size_t t) + 0)) true
    (and_right (every small (sizes_up step (0 + 1) c)) (small ((0 + size_t t) + 0) && true)
    (sym (every_append small (sizes_up step (0 + 1) c) (((0 + size_t t) + 0) ∷ [])) ∙ e)) in
    omega (arith, leb-true ((0 + size_t t) + 0) 126 last, strip-size (transform_up step (tree o c none)))
one_root step (tree o c (tree p d r)) n e = absurd (omega arith)

well_formed_lem : (f : Plan) → count f ≡ 1 → size f ≤ 126 → Ok f → well_formed f ≡ true
well_formed_lem f n s h = ap₂ ◌&&◌ (eq-eqb (length (roots f)) 1 n) (ap₂ ◌&&◌ (le-leb (size f) 126 s) (ok_to f h))

pub well_root : (f : Plan) → well_formed f ≡ true → count f ≡ 1
well_root f e = eqb-true (length (roots f)) 1 (search and_left)

pub well_ok : (f : Plan) → well_formed f ≡ true → Ok f
well_ok f e = ok_of f (search (and_left, and_right))

pub well_fit : (f : Plan) → well_formed f ≡ true → Fit f
well_fit f e = ok_fit f (well_ok f e)

up_well : {a : Bool} (step : Tree → Tree) (f g : Plan) → SamePlan a f (strip (transform_up step f)) → well_formed f ≡ true → answer_up step f ≡ answered g
    → well_formed g ≡ true
up_well step f g s e h =
    let p = up_answers step f g h in
    subst (λ (x : Plan). well_formed x ≡ true) (sym p.1)
    (well_formed_lem (strip (transform_up step f)) (s.number ∙ well_root f e) (one_root step f (well_root f e) p.0) (s.ok (well_ok f e)))

pub ensured_well : (f g : Plan) → well_formed f ≡ true → ensured f ≡ answered g → well_formed g ≡ true
ensured_well f g e h = up_well ensure_sorting f g (ensure_plan f (well_fit f e)) e (sym (ensured_is f) ∙ h)

pub parallelized_well : (f g : Plan) → well_formed f ≡ true → parallelized f ≡ answered g → well_formed g ≡ true
parallelized_well f g e h = up_well parallelize_sorts f g (parallelize_plan f (well_fit f e)) e (sym (parallelized_is f) ∙ h)

pub preserved_well : (s : Settings) (f g : Plan) → well_formed f ≡ true → preserved s f ≡ answered g → well_formed g ≡ true
preserved_well s f g e h = up_well (replace_with_order_preserving_variants s) f g (preserve_plan s f (well_fit f e)) e (sym (preserved_is s f) ∙ h)

-- Where pushing reaches no refusal, a plan of at most 126 nodes stays one
push-size : (a : ℕ) (q : ℕ → Visit) (f : Plan) → Fit f → a + size f ≤ 126 → every small (sizes_down a q f) ≡ true → has_constant_sort f ≡ false
    → a + size (pushdown_sorts q f) ≤ 126
push-size a q none h l e k = l
push-size a q (tree o c r) h l e k =
    let D : Decision = pushdown_sorts_helper (q 0) o c in
    let d : Forest Marked = pushdown_sorts D.reqs c in
    let t : Tree = carry_out D d in
    let b : ℕ = (a + size r) + (suc (length D.tops) - one D.gone) in
    let below : List ℕ = sizes_down b D.reqs c in
    let right : List ℕ = sizes_down (a + size_t t) (λ i. q (suc i)) r in
    let here : List ℕ = reaches D (a + size (tree o c r)) in
    let k₁ = or_false (constant_sort o c) (has_constant_sort c || has_constant_sort r) k in
    let k₂ = or_false (has_constant_sort c) (has_constant_sort r) k₁.1 in
    let all : every small (here ++ (below ++ right)) ≡ true = ap₂ (λ (x y : Bool). every small (cond x [] (here ++ (below ++ cond y [] right))))
    (sym k₁.0) (sym k₂.0) ∙ e in
    let e₁ : every small here && every small (below ++ right) ≡ true = sym (every_append small here (below ++ right)) ∙ all in
    let e₂ : every small below && every small right ≡ true = sym (every_append small below right) ∙ and_right (every small here)
    (every small (below ++ right)) e₁ in
    let now : afterwards D (a + size (tree o c r)) ≤ 126 = few D (a + size (tree o c r)) (helper_fair (q 0) c o).still l
    (and_left (every small here) (every small (below ++ right)) e₁) in
    let z : size_t t + one D.gone ≡ suc (length D.tops + size d) = carry_out-size D d (one_visited (q 0) o c h.0 h.1) in
    let i : b + size d ≤ 126 = push-size b D.reqs c h.1 (omega (arith, one_le D.gone, now)) (and_left (every small below) (every small right) e₂)
    k₂.0 in
    let j : (a + size_t t) + size (pushdown_sorts (λ i. q (suc i)) r) ≤ 126 = push-size (a + size_t t) (λ i. q (suc i)) r h.2
    (omega (arith, one_le D.gone, i, z)) (and_right (every small below) (every small right) e₂) k₂.1 in
    omega (arith, j)
  where
    few : (D : Decision) (n : ℕ) → (D.quiet ≡ true → length D.tops ≡ 0) → n ≤ 126 → every small (reaches D n) ≡ true → afterwards D n ≤ 126
    few D n s l = go D.quiet refl
      where
        go : (x : Bool) → D.quiet ≡ x → every small (cond x [] ((afterwards D n + D.peak) ∷ [])) ≡ true → afterwards D n ≤ 126
        go true u w = omega (arith, s u)
        go false u w = omega (arith, leb-true (afterwards D n + D.peak) 126 (and_left (small (afterwards D n + D.peak)) true w))

pub pushed_well : (f g : Plan) → well_formed f ≡ true → pushed f ≡ answered g → well_formed g ≡ true
pushed_well f g e h =
    let p = down_answers f g (sym (pushed_is f (well_fit f e)) ∙ h) in
    let s : SamePlan false f (push f) = push_plan f (well_fit f e) in
    let n : size f ≤ 126 = leb-true (size f) 126 (search (and_left, and_right)) in
    let l : 0 + size (pushdown_sorts (λ i. at_root) f) ≤ 126 = push-size 0 (λ i. at_root) f (well_fit f e) (omega arith) p.0 p.2 in
    subst (λ (x : Plan). well_formed x ≡ true) (sym p.1)
    (well_formed_lem (push f) (s.number ∙ well_root f e) (omega (arith, l, strip-size (pushdown_sorts (λ i. at_root) f))) (s.ok (well_ok f e)))
