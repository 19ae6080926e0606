-- The counted walk, tree by tree, and child by child.
use Rattle.std.specs.Prelude.{◌≡◌, refl, Bool, true, false, cond, ℕ, ◌+◌, ◌-◌, ◌≤◌}
use Rattle.std.proofs.Common.{sym, ap, ◌∙◌, arith}
use Rattle.plan.specs.Forest.{Forest, none, tree, size}
use Rattle.plan.specs.Op.{Op, Plan}
use Rattle.plan.specs.WellFormed.{every}
use Rattle.plan.specs.declared.Refusal.TheVariants.{TooManyNodes}
use Rattle.walks.specs.Marks.{Marked, Tree, plant, size_t, rebuild, transform_up}
use Rattle.walks.specs.Terms.{◌⊕◌, sizes_up, small}
use Rattle.walks.specs.Counted.{Counted, stopped, counted, bind, too_many, stepped, count_up}
use Rattle.walks.proofs.Theorems.Calls.Counts.{count_up_lem}

-- The walk of one tree
abbrev pub count_tree : (Tree → Tree) → ℕ → Op → Plan → Counted Tree
count_tree step n o c = bind (count_up step n c) (λ d m. stepped step o d m (λ t k. counted t k))

after : {A B : Type 0} (b : Bool) (x : A) (n : ℕ) (next : A → ℕ → Counted B) → cond b (stopped TooManyNodes) (next x n) ≡ bind
    (cond b (stopped TooManyNodes) (counted x n)) next
after true x n next = refl
after false x n next = refl

pub count_tree_lem : (step : Tree → Tree) (n : ℕ) (o : Op) (c r : Plan) → count_up step n (tree o c r) ≡ bind (count_tree step n o c)
    (λ t k. bind (count_up step k r) (λ s l. counted (plant t s) l))
count_tree_lem step n o c r = go (count_up step n c)
  where
    next : Tree → ℕ → Counted (Forest Marked)
    next t k = bind (count_up step k r) (λ s l. counted (plant t s) l)

    go : (w : Counted (Forest Marked)) → bind w (λ d m. stepped step o d m next) ≡ bind (bind w (λ d m. stepped step o d m (λ t k. counted t k))) next
    go (stopped e) = refl
    go (counted d m) = after (too_many ((m + size_t (step (rebuild o false d))) - size_t (rebuild o false d))) (step (rebuild o false d))
        ((m + size_t (step (rebuild o false d))) - size_t (rebuild o false d)) next

-- ---- what a counted walk answers

abbrev answer_of : {A : Type 0} → A → Counted A → A
answer_of d (stopped e) = d
answer_of d (counted x n) = x

abbrev count_of : {A : Type 0} → Counted A → ℕ
count_of (stopped e) = 0
count_of (counted x n) = n

stuck : {A : Type 0} (b : Bool) (x y : A) (l n : ℕ) (e : cond b (counted x l) (stopped TooManyNodes) ≡ counted y n) → (y ≡ x) × (n ≡ l)
stuck true x y l n e = (sym (ap (answer_of x) e), sym (ap count_of e))
stuck false x y l n e = let z : ◌≡◌ {A = ℕ} 0 1 = cc in absurd (omega arith)

-- it is the pure walk's forest, and the count is that of the whole plan
pub count_is : (step : Tree → Tree) (n : ℕ) (f : Plan) (d : Forest Marked) (m : ℕ) → size f ≤ n → count_up step n f ≡ counted d m → (d ≡ transform_up step f)
    × (m + size f ≡ n + size d)
count_is step n f d m h e =
    let c = count_up_lem step (n - size f) f n (omega arith) in
    let s = stuck (every small (sizes_up step (n - size f) f)) (transform_up step f) d ((n - size f) + size (transform_up step f)) m (sym c ∙ e) in
    let y : size d ≡ size (transform_up step f) = ap size s.0 in let z = s.1 in
    (s.0, omega arith)

-- ---- child by child: front is walked, k nodes are counted, rest is left

abbrev pub Going : (Tree → Tree) → ℕ → Plan → Forest Marked → ℕ → Plan → Type 0
Going step n c front k rest = count_up step n c ≡ bind (count_up step k rest) (λ s l. counted (front ⊕ s) l)

pub going-none : (step : Tree → Tree) (n : ℕ) (c : Plan) → Going step n c none n c
going-none step n c = go (count_up step n c)
  where
    go : (w : Counted (Forest Marked)) → w ≡ bind w (λ s l. counted s l)
    go (stopped e) = refl
    go (counted d m) = refl

-- one tree more
pub going_more : (step : Tree → Tree) (n : ℕ) (c : Plan) (front : Forest Marked) (k : ℕ) (o : Op) (below rest : Plan) (t : Tree) (l : ℕ)
    (front' : Forest Marked)
    → ((s : Forest Marked) → front' ⊕ s ≡ front ⊕ plant t s) → count_tree step k o below ≡ counted t l → Going step n c front k (tree o below rest)
    → Going step n c front' l rest
going_more step n c front k o below rest t l front' f e g =
    g ∙ ap (λ w. bind w (λ s i. counted (front ⊕ s) i))
    (count_tree_lem step k o below rest ∙ ap (λ w. bind w (λ u i. bind (count_up step i rest) (λ s j. counted (plant u s) j))) e)
    ∙ go (count_up step l rest)
  where
    go : (w : Counted (Forest Marked)) → bind (bind w (λ s j. counted (plant t s) j)) (λ s i. counted (front ⊕ s) i) ≡ bind w
        (λ s i. counted (front' ⊕ s) i)
    go (stopped e) = refl
    go (counted s i) = ap (λ x. counted x i) (sym (f s))

-- a refusal ends the walk
pub going_stop : (step : Tree → Tree) (n : ℕ) (o : Op) (c : Plan) (front : Forest Marked) (k : ℕ) (p : Op) (below rest : Plan)
    → count_tree step k p below ≡ stopped TooManyNodes → Going step n c front k (tree p below rest) → count_tree step n o c ≡ stopped TooManyNodes
going_stop step n o c front k p below rest e g =
    ap (λ w. bind w (λ d m. stepped step o d m (λ t k. counted t k)))
    (g ∙ ap (λ w. bind w (λ s i. counted (front ⊕ s) i))
    (count_tree_lem step k p below rest ∙ ap (λ w. bind w (λ u i. bind (count_up step i rest) (λ s j. counted (plant u s) j))) e))
