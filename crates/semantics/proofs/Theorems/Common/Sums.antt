-- Sums of weights through the list functions that a run uses. Assumes nothing.
use Rattle.std.specs.Prelude.{◌≡◌, refl, Bool, true, false, cond, List, [], ◌∷◌, ◌++◌, map, ℕ, ◌+◌}
use Rattle.std.proofs.Common.{sym, ap, ap₂, ◌∙◌, arith}
use Rattle.row_order.specs.Iso.{Row, Key}
use Rattle.row_order.specs.Lists.{sum, concat}
use Rattle.row_order.specs.ListLaws.{sum_append}
use Rattle.semantics.specs.Joins.{keep}
use Rattle.semantics.specs.Runs.{Streams, Each, each_nil, each_cons, OneStream, SortOf}

pub sum-concat_append : {A : Type 0} (w : A → ℕ) (s t : List (List A)) → sum w (concat (s ++ t)) ≡ sum w (concat s) + sum w (concat t)
sum-concat_append w [] t = omega arith
sum-concat_append w (x ∷ s) t = omega (arith, sum-concat_append w s t, sum_append w x (concat (s ++ t)), sum_append w x (concat s))

pub sum-map : {A B : Type 0} (w : B → ℕ) (f : A → B) (l : List A) → sum w (map f l) ≡ sum (λ x. w (f x)) l
sum-map w f [] = refl
sum-map w f (x ∷ l) = omega (arith, sum-map w f l)

pub sum-keep : {A : Type 0} (w : A → ℕ) (p : A → Bool) (l : List A) → sum w (keep p l) ≡ sum (λ x. cond (p x) (w x) 0) l
sum-keep w p [] = refl
sum-keep w p (x ∷ l) = go (p x) (sum-keep w p l)
  where
    go : (b : Bool) → sum w (keep p l) ≡ sum (λ y. cond (p y) (w y) 0) l → sum w (cond b (x ∷ keep p l) (keep p l)) ≡ cond b (w x) 0 + sum
        (λ y. cond (p y) (w y) 0) l
    go true e = omega arith
    go false e = omega arith

pub sum-concat-map : {A B : Type 0} (w : B → ℕ) (f : A → B) (s : List (List A)) → sum w (concat (map (map f) s)) ≡ sum (λ x. w (f x)) (concat s)
sum-concat-map w f [] = refl
sum-concat-map w f (x ∷ s) = omega (
  arith,
  sum_append w (map f x) (concat (map (map f) s)),
  sum-map w f x,
  sum-concat-map w f s,
  sum_append (λ y. w (f y)) x
      (concat s),
)

pub sum-concat-keep : {A : Type 0} (w : A → ℕ) (p : A → Bool) (s : List (List A)) → sum w (concat (map (keep p) s)) ≡ sum (λ x. cond (p x) (w x) 0)
    (concat s)
sum-concat-keep w p [] = refl
sum-concat-keep w p (x ∷ s) = omega (
  arith,
  sum_append w (keep p x) (concat (map (keep p) s)),
  sum-keep w p x,
  sum-concat-keep w p s,
  sum_append (λ y. cond (p y) (w y) 0) x (concat s),
)

pub sum_sorts : (w : Row → ℕ) (ks : List Key) {s t : Streams} → Each (SortOf ks) s t → sum w (concat t) ≡ sum w (concat s)
sum_sorts w ks each_nil = refl
sum_sorts w ks (each_cons {x = x} {y = y} {l = l} {m = m} r h) =
    omega (arith, sum_append w y (concat m), sum_append w x (concat l), r.same.sums w, sum_sorts w ks h)

pub sum_single : (w : Row → ℕ) {P : List Row → Type 0} {out : Streams} (h : OneStream P out) → sum w (concat out) ≡ sum w h.one
sum_single w h = ap (λ (o : Streams). sum w (concat o)) h.is ∙ sum_append w h.one [] ∙ omega arith

pub sum-concat : {A B : Type 0} (w : B → ℕ) (g : A → List B) (l : List A) → sum w (concat (map g l)) ≡ sum (λ x. sum w (g x)) l
sum-concat w g [] = refl
sum-concat w g (x ∷ l) = omega (arith, sum_append w (g x) (concat (map g l)), sum-concat w g l)

sum_zero : {A : Type 0} (l : List A) → sum (λ x. 0) l ≡ 0
sum_zero [] = refl
sum_zero (x ∷ l) = omega (arith, sum_zero l)

sum_plus : {A : Type 0} (u v : A → ℕ) (l : List A) → sum (λ x. u x + v x) l ≡ sum u l + sum v l
sum_plus u v [] = refl
sum_plus u v (x ∷ l) = omega (arith, sum_plus u v l)

pub sum_swap : {A B : Type 0} (f : A → B → ℕ) (l : List A) (m : List B) → sum (λ x. sum (f x) m) l ≡ sum (λ y. sum (λ x. f x y) l) m
sum_swap f [] m = sym (sum_zero m)
sum_swap f (x ∷ l) m = ap (λ (n : ℕ). sum (f x) m + n) (sum_swap f l m) ∙ sym (sum_plus (f x) (λ y. sum (λ z. f z y) l) m)

pub sum_ext : {A : Type 0} (u v : A → ℕ) → ((x : A) → u x ≡ v x) → (l : List A) → sum u l ≡ sum v l
sum_ext u v h [] = refl
sum_ext u v h (x ∷ l) = ap₂ ◌+◌ (h x) (sum_ext u v h l)
