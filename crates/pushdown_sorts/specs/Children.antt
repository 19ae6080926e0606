-- The walk of one tree of a forest and of the children in a row; the step.
use Rattle.std.specs.Prelude.{◌≡◌, refl, Bool, true, false, cond, List, [], ◌∷◌, ℕ, zero, suc, ◌+◌, ◌*◌, ◌≤◌, ◌<◌, length, get_or, take, drop, set, None, Result, Ok, Err}
use Rattle.std.proofs.Common.{sym, ap₂, ◌∙◌, arith, add-one, drop_of_length-le}
use Rattle.std.proofs.Math.Path.{ap, fun_ext}
use Rattle.plan.specs.Forest.{Forest, none, tree, size, roots}
use Rattle.plan.specs.Op.{Plan}
use Rattle.plan.specs.declared.Refusal.{Refusal}
use Rattle.plan.specs.declared.Refusal.TheVariants.{TooManyNodes, ConstantSort}
use Rattle.semantics.specs.Properties.{fetches}
use Rattle.arena.specs.Arena.{index}
use Rattle.arena.specs.declared.At.{At}
use Rattle.walks.specs.Marks.{Marked, Tree, strip, op_t, fetch_t, size_t, plant}
use Rattle.walks.specs.Terms.{◌⊕◌}
use Rattle.walks.specs.PushdownSorts as walk
use Rattle.walks.specs.Counted.{Counted, stopped, counted, bind, constant_sort, overflows, afterwards, count_down}
use Rattle.plan_context.specs.View.{tree_in, tree_of, forest, Arena}
use Rattle.plan_updates.specs.Kids.{kids_none, kids_more, kids_forest, plus_none}
use Rattle.plan_updates.specs.ChildLoop.{drop_next, no_more}
use Rattle.sort_pushdown.specs.declared.Visit.{Visit}
use Rattle.sort_pushdown.specs.declared.Decision.{Decision}
use Rattle.pushdown_sorts.specs.declared.Walked.{Walked}
use Rattle.pushdown_sorts.specs.Walk.{counted_t, pushed_t, Ended, from, Visiting}

-- ---- one tree of a forest

bind_step : {A B : Type 0} (a b : Bool) (e f : Refusal) (x : Counted A) (c : A → Tree) (k : Tree → ℕ → Counted B)
    → cond a (stopped e) (cond b (stopped f) (bind x (λ d m. k (c d) m))) ≡ bind (cond a (stopped e) (cond b (stopped f) (bind x (λ d m. counted (c d) m))))
    k
bind_step true b e f x c k = refl
bind_step false true e f x c k = refl
bind_step false false e f (stopped r) c k = refl
bind_step false false e f (counted d m) c k = refl

pub count_tree_lem : (q : ℕ → walk.Visit) (n : ℕ) (t : Tree) (r : Forest Marked)
    → count_down q n (strip (plant t r)) ≡ bind (counted_t (q 0) n t) (λ u m. bind (count_down (λ i. q (suc i)) m (strip r)) (λ s l. counted (plant u s) l))
count_tree_lem q n t r =
    let D : walk.Decision = walk.pushdown_sorts_helper (q 0) (op_t t) (strip t.kids) in
    bind_step (constant_sort (op_t t) (strip t.kids)) (overflows D n) ConstantSort TooManyNodes (count_down D.reqs (afterwards D n) (strip t.kids))
    (walk.carry_out D) (λ u m. bind (count_down (λ i. q (suc i)) m (strip r)) (λ s l. counted (plant u s) l))

bind_id : (x : Counted (Forest Marked)) → x ≡ bind x (λ s l. counted s l)
bind_id (stopped e) = refl
bind_id (counted s l) = refl

bind-plant : (x : Counted (Forest Marked)) (t : Tree) (f : Forest Marked) → bind (bind x (λ s l. counted (plant t s) l)) (λ s l. counted (f ⊕ s) l) ≡ bind x
    (λ s l. counted (f ⊕ plant t s) l)
bind-plant (stopped e) t f = refl
bind-plant (counted s l) t f = refl

-- what is read of the visits
pub pushed_below : (q p : ℕ → walk.Visit) (f : Plan) → ((i : ℕ) → i < length (roots f) → q i ≡ p i) → walk.pushdown_sorts q f ≡ walk.pushdown_sorts p f
pushed_below q p none h = refl
pushed_below q p (tree o c r) h =
    ap₂ (λ v s. plant (walk.carry_out (walk.pushdown_sorts_helper v o c) (walk.pushdown_sorts (walk.pushdown_sorts_helper v o c).reqs c)) s)
    (h zero (omega arith))
    (pushed_below (λ i. q (suc i)) (λ i. p (suc i)) r (λ i l. h (suc i) (omega arith)))

from-none : (q : ℕ → walk.Visit) → q ≡ from q 0
from-none q = fun_ext (λ i. ap q (let e : i ≡ 0 + i = omega arith in e))

from_first : (q : ℕ → walk.Visit) (j : ℕ) → from q j 0 ≡ q j
from_first q j = ap q (let e : j + 0 ≡ j = omega arith in e)

from_next : (q : ℕ → walk.Visit) (j : ℕ) → (λ i. from q j (suc i)) ≡ from q (j + 1)
from_next q j = fun_ext (λ i. ap q (let e : j + suc i ≡ j + 1 + i = omega arith in e))

size_plus : (f g : Forest Marked) → size (f ⊕ g) ≡ size f + size g
size_plus none g = omega arith
size_plus (tree m c r) g = let x = size_plus r g in omega arith

pub fetches_at : (a hs : List ℕ) (j : ℕ) → j < length hs → get_or (fetches (strip (forest a hs))) j None ≡ fetch_t (tree_of a (get_or hs j 0))
unfolding forest
fetches_at a [] j h = absurd (omega arith)
fetches_at a (k ∷ hs) zero h = refl
fetches_at a (k ∷ hs) (suc j) h = fetches_at a hs j (omega arith)

-- ---- the children
module _ (a ks : List ℕ) (q : ℕ → walk.Visit) (n : ℕ) (b₀ : List ℕ) (v : ℕ) where
  pub visiting_none : (kids : List ℕ) → Arena b₀ v → length kids ≡ 8 → Visiting a ks q n b₀ v 0 v n kids b₀
  unfolding forest
  visiting_none kids g l =
      record {
        made = kids_none b₀ v kids g l;
        is = bind_id (count_down q n (strip (forest a ks))) ∙ ap (λ p. bind (count_down p n (strip (forest a ks))) (λ s l. counted s l)) (from-none q);
        pure = ap (λ p. walk.pushdown_sorts p (strip (forest a ks))) (sym (from-none q));
        left = omega arith;
        low = omega arith;
        high = omega arith;
        few = omega arith;
      }

  module _ (j w m : ℕ) (kids b : List ℕ) (p : Visiting a ks q n b₀ v j w m kids b) (l : j < length ks) where
    abbrev t : Tree
    t = tree_in a (index (get_or ks j 0))

    abbrev rest : Forest Marked
    rest = forest a (drop (j + 1) ks)

    pub split : forest a (drop j ks) ≡ plant (tree_of a (get_or ks j 0)) (forest a (drop (j + 1) ks))
    split = drop_next a ks j l ∙ ap (λ i. plant (tree_of a (get_or ks j 0)) (forest a (drop i ks))) (sym (add-one j))

    next : count_down q n (strip (forest a ks)) ≡ bind
        (bind (counted_t (q j) m (tree_in a (index (get_or ks j 0)))) (λ u k. bind (count_down (from q (j + 1)) k (strip (forest a (drop (j + 1) ks))))
        (λ s l. counted (plant u s) l))) (λ s l. counted (forest b (take j kids) ⊕ s) l)
    next =
        p.is
        ∙ ap (λ f. bind (count_down (from q j) m (strip f)) (λ s l. counted (forest b (take j kids) ⊕ s) l)) split
        ∙ ap (λ x. bind x (λ s l. counted (forest b (take j kids) ⊕ s) l))
        (count_tree_lem (from q j) m t rest
        ∙ ap₂ (λ (z : walk.Visit) (g : ℕ → walk.Visit). bind (counted_t z m t) (λ u k. bind (count_down g k (strip rest)) (λ s l. counted (plant u s) l)))
        (from_first q j) (from_next q j))

    pub visiting_stop : (e : Refusal) → counted_t (q j) m (tree_in a (index (get_or ks j 0))) ≡ stopped e → count_down q n (strip (forest a ks)) ≡ stopped e
    visiting_stop e h = next ∙ ap (λ x. bind (bind x (λ u k. bind (count_down (from q (j + 1)) k (strip rest)) (λ s l. counted (plant u s) l)))
        (λ s l. counted (forest b (take j kids) ⊕ s) l)) h

    module _ (few8 : length ks ≤ 8) (b' : List ℕ) (lb : length b' ≡ length b) (x : Walked)
        (e : Ended (q j) m (tree_in a (index (get_or ks j 0))) b w b' x) where
      abbrev r : At
      r = record { used = x.used; root = x.root }

      abbrev u : Tree
      u = pushed_t (q j) t

      more : (s : Forest Marked) → forest b' (take (j + 1) (set kids j x.root)) ⊕ s ≡ forest b (take j kids) ⊕ plant
          (pushed_t (q j) (tree_in a (index (get_or ks j 0)))) s
      more s = kids_forest b₀ v j w kids b p.made (omega arith) b' lb r u (w + 3 * size_t t) e.grown s

      pub visiting_more : Visiting a ks q n b₀ v (j + 1) x.used x.count (set kids j x.root) b'
      visiting_more =
          let sz = ap size split in let sq : size_t (tree_of a (get_or ks j 0)) ≡ size_t (tree_in a (index (get_or ks j 0))) = refl in let top = e.grown.room in
          let p₁ = p.left in let p₂ = p.low in let p₃ = p.high in let p₄ = p.few in
          let e₁ = e.few in let e₂ = e.low in let e₃ = e.high in
          let sm : size (forest b' (take (j + 1) (set kids j x.root))) ≡ size (forest b (take j kids)) + size_t u =
          (let z = ap size (sym (plus_none (forest b' (take (j + 1) (set kids j x.root)))) ∙ more none) in
          let y = size_plus (forest b (take j kids)) (plant u none) in omega arith) in
          record {
            made = kids_more b₀ v j w kids b p.made (omega arith) b' lb r u (w + 3 * size_t t) e.grown;
            is =
                next
                ∙ ap (λ z. bind (bind z (λ u k. bind (count_down (from q (j + 1)) k (strip rest)) (λ s l. counted (plant u s) l)))
                (λ s l. counted (forest b (take j kids) ⊕ s) l)) e.is
                ∙ bind-plant (count_down (from q (j + 1)) x.count (strip rest)) u (forest b (take j kids))
                ∙ ap (λ (g : Forest Marked → Forest Marked). bind (count_down (from q (j + 1)) x.count (strip rest)) (λ s l. counted (g s) l))
                (fun_ext (λ s. sym (more s)));
            pure =
                more (walk.pushdown_sorts (from q (j + 1)) (strip rest))
                ∙ ap₂ (λ (z : walk.Visit) (g : ℕ → walk.Visit). forest b (take j kids) ⊕ plant (pushed_t z t) (walk.pushdown_sorts g (strip rest)))
                (sym (from_first q j)) (sym (from_next q j))
                ∙ ap (λ f. forest b (take j kids) ⊕ walk.pushdown_sorts (from q j) (strip f)) (sym split)
                ∙ p.pure;
            left = omega arith;
            low = omega arith;
            high = omega arith;
            few = omega arith;
          }

  -- all children are walked
  module _ (j w m : ℕ) (kids b : List ℕ) (p : Visiting a ks q n b₀ v j w m kids b) (l : length ks ≤ j) where
    gone : drop j ks ≡ []
    gone = drop_of_length-le ks {i = j} l

    pub visiting_end : count_down q n (strip (forest a ks)) ≡ counted (forest b (take j kids)) m
    unfolding forest
    visiting_end =
        p.is ∙ ap (λ d. bind (count_down (from q j) m (strip (forest a d))) (λ s l. counted (forest b (take j kids) ⊕ s) l)) gone
        ∙ ap (λ f. counted f m) (plus_none (forest b (take j kids)))

    pub visiting_pure : forest b (take j kids) ≡ walk.pushdown_sorts q (strip (forest a ks))
    visiting_pure = no_more a ks b (take j kids) j (λ f. walk.pushdown_sorts (from q j) (strip f)) (walk.pushdown_sorts q (strip (forest a ks))) l refl
        p.pure

    pub visiting_sizes : (w ≤ v + 3 * size (forest a ks)) × (n ≤ m + size (forest a ks)) × (m ≤ n + 2 * size (forest a ks))
        × (size (forest b (take j kids)) ≤ 3 * size (forest a ks))
    visiting_sizes = let x = p.left in let y = p.low in let z = p.high in let u = p.few in (omega arith, omega arith, omega arith, omega arith)

-- ---- the step

pub step_stop : (k o : Bool) (n : ℕ) (s : Result ℕ Refusal) → s ≡ cond k (Err ConstantSort) (cond o (Err TooManyNodes) (Ok n)) → (e : Refusal)
    → s ≡ Err e → {A : Type 0} (y : Counted A)
    → cond k (stopped ConstantSort) (cond o (stopped TooManyNodes) y) ≡ stopped e
step_stop true o n s h e f y = cc
step_stop false true n s h e f y = cc
step_stop false false n s h e f y = cc

pub step_on : (k o : Bool) (n : ℕ) (s : Result ℕ Refusal) → s ≡ cond k (Err ConstantSort) (cond o (Err TooManyNodes) (Ok n)) → (m : ℕ)
    → s ≡ Ok m → {A : Type 0} (y : Counted A)
    → (cond k (stopped ConstantSort) (cond o (stopped TooManyNodes) y) ≡ y) × (m ≡ n)
step_on true o n s h m f y = cc
step_on false true n s h m f y = cc
step_on false false n s h m f y = (refl, cc)
