-- The row that `least` picks: the first by keys of the streams asked for, and the earliest of its peers; what is left of each stream. Assumes nothing.
use Rattle.std.specs.Prelude.{◌≡◌, refl, Bool, true, false, cond, ◌⊎◌, List, [], ◌∷◌, ◌++◌, ℕ, suc, ◌+◌, eqb, length}
use Rattle.std.proofs.Common.{sym, ap, ◌∙◌, inl, inr, arith, eqb-true, eq-eqb, ne_eqb}
use Rattle.std.proofs.lemmas.Bool.{eqb-false}
use Rattle.row_order.specs.Iso.{Row, Key}
use Rattle.row_order.specs.RowLists.{le}
use Rattle.row_order.proofs.Order.{le_trans, le_refl, no_bool}
use Rattle.row_order.specs.Lists.{sum, All, all_nil, all_cons}
use Rattle.row_order.specs.ListLaws.{all_map}
use Rattle.row_order.proofs.Sorting.{le_flip}
use Rattle.stepping.specs.Outlets.{Placed, on}
use Rattle.stepping.specs.Moves.{Picked, nobody, picked, behind, earlier, least}

-- y stands before x and is passed over: it is on another stream, or sorts after x
abbrev pub PassedOver : List Key → (ℕ → Bool) → Placed → Placed → Type 0
PassedOver ks p x y = (p y.stream ≡ false) ⊎ (le ks y.row x.row ≡ false)

-- m is l without x
pub data Removed (ks : List Key) (p : ℕ → Bool) (x : Placed) : List Placed → List Placed → Type 0 where
  rem_here : {l : List Placed} → Removed ks p x (x ∷ l) l
  rem_there : {y : Placed} {l m : List Placed} → PassedOver ks p x y → Removed ks p x l m → Removed ks p x (y ∷ l) (y ∷ m)

pub record Best (ks : List Key) (p : ℕ → Bool) (l : List Placed) (x : Placed) (m : List Placed) : Type 0 where
  pub removed : Removed ks p x l m
  pub mine : p x.stream ≡ true
  pub first : All (λ y. p y.stream ≡ true → le ks x.row y.row ≡ true) m

abbrev pub IsLeast : List Key → (ℕ → Bool) → List Placed → Picked → Type 0
IsLeast ks p l nobody = All (λ y. p y.stream ≡ false) l
IsLeast ks p l (picked x m) = Best ks p l x m

pub removed_all : {ks : List Key} {p : ℕ → Bool} {x : Placed} {P : Placed → Type 0} {l m : List Placed} → Removed ks p x l m → P x → All P m → All P l
removed_all rem_here h hs = all_cons h hs
removed_all (rem_there q r) h (all_cons y hs) = all_cons y (removed_all r h hs)

pub least_is : (ks : List Key) (p : ℕ → Bool) (l : List Placed) → IsLeast ks p l (least ks p l)
least_is ks p [] = all_nil
least_is ks p (x ∷ l) = go (p x.stream) refl (least ks p l) (least_is ks p l)
  where
    tie : (y : Placed) (m : List Placed) → Best ks p l y m → p x.stream ≡ true → (b : Bool) → le ks x.row y.row ≡ b →
        IsLeast ks p (x ∷ l) (cond b (picked x l) (picked y (x ∷ m)))
    tie y m h e true t =
        record {
          removed = rem_here;
          mine = e;
          first = removed_all h.removed (λ _. t) (all_map (λ z f q. le_trans ks x.row y.row z.row t (f q)) h.first);
        }
    tie y m h e false t =
        record { removed = rem_there (inr t) h.removed; mine = h.mine; first = all_cons (λ _. le_flip ks x.row y.row t) h.first }

    go : (b : Bool) → p x.stream ≡ b → (q : Picked) → IsLeast ks p l q → IsLeast ks p (x ∷ l) (cond b (earlier ks x l q) (behind x q))
    go true e nobody h = record { removed = rem_here; mine = e; first = all_map (λ y n t. no_bool (sym n ∙ t)) h }
    go true e (picked y m) h = tie y m h e (le ks x.row y.row) refl
    go false e nobody h = all_cons e h
    go false e (picked y m) h =
        record { removed = rem_there (inl e) h.removed; mine = h.mine; first = all_cons (λ t. no_bool (sym e ∙ t)) h.first }

-- ---- what is left of each stream
pub removed_other : {ks : List Key} {p : ℕ → Bool} {x : Placed} {l m : List Placed} → Removed ks p x l m → (k : ℕ) → (k ≡ x.stream → ⊥) → on k l ≡ on k m
removed_other {x = x} (rem_here {l = l}) k n = ap (λ (b : Bool). cond b (x.row ∷ on k l) (on k l)) (ne_eqb x.stream k (λ e. n (sym e)))
removed_other (rem_there {y = y} {l = l} {m = m} q r) k n = go (eqb y.stream k) (removed_other r k n)
  where
    go : (b : Bool) → on k l ≡ on k m → cond b (y.row ∷ on k l) (on k l) ≡ cond b (y.row ∷ on k m) (on k m)
    go true e = ap (λ (t : List Row). y.row ∷ t) e
    go false e = e

pub removed-sum : {ks : List Key} {p : ℕ → Bool} {x : Placed} {l m : List Placed} → Removed ks p x l m → (w : Row → ℕ) →
    sum w (on x.stream l) ≡ w x.row + sum w (on x.stream m)
removed-sum {x = x} (rem_here {l = l}) w =
    ap (λ (b : Bool). sum w (cond b (x.row ∷ on x.stream l) (on x.stream l))) (eq-eqb x.stream x.stream refl)
removed-sum {x = x} (rem_there {y = y} {l = l} {m = m} q r) w = go (eqb y.stream x.stream) (removed-sum r w)
  where
    go : (b : Bool) → sum w (on x.stream l) ≡ w x.row + sum w (on x.stream m) →
        sum w (cond b (y.row ∷ on x.stream l) (on x.stream l)) ≡ w x.row + sum w (cond b (y.row ∷ on x.stream m) (on x.stream m))
    go true e = omega arith
    go false e = e

pub removed-length : {ks : List Key} {p : ℕ → Bool} {x : Placed} {l m : List Placed} → Removed ks p x l m → length l ≡ suc (length m)
removed-length rem_here = refl
removed-length (rem_there q r) = ap suc (removed-length r)

-- by no keys it is the first of its stream
pub removed-first : (i : ℕ) {x : Placed} {l m : List Placed} → Removed [] (λ s. eqb s i) x l m → eqb x.stream i ≡ true → on i l ≡ x.row ∷ on i m
removed-first i {x} (rem_here {l = l}) e = ap (λ (b : Bool). cond b (x.row ∷ on i l) (on i l)) e
removed-first i {x} (rem_there {y = y} {l = l} {m = m} (inl n) r) e =
    ap (λ (b : Bool). cond b (y.row ∷ on i l) (on i l)) n ∙ removed-first i r e
    ∙ ap (λ (b : Bool). x.row ∷ cond b (y.row ∷ on i m) (on i m)) (sym n)
removed-first i (rem_there (inr n) r) e = no_bool (sym n)

-- what holds of the rows left holds of those of a stream
pub on_all : {P : Row → Type 0} (k : ℕ) {l : List Placed} → All (λ y. eqb y.stream k ≡ true → P y.row) l → All P (on k l)
on_all k all_nil = all_nil
on_all {P} k (all_cons {x = y} {l = l} h hs) = go (eqb y.stream k) refl (on_all k hs)
  where
    go : (b : Bool) → eqb y.stream k ≡ b → All P (on k l) → All P (cond b (y.row ∷ on k l) (on k l))
    go true e ih = all_cons (h e) ih
    go false e ih = ih

pub removed_at : {ks : List Key} {p : ℕ → Bool} {x : Placed} {P : Placed → Type 0} {l m : List Placed} → Removed ks p x l m → All P l → P x
removed_at rem_here (all_cons h hs) = h
removed_at (rem_there q r) (all_cons h hs) = removed_at r hs
