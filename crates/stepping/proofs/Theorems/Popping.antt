-- A row at the front of one stream, and what comes after it. Assumes nothing.
use Rattle.std.specs.Prelude.{◌≡◌, refl, Bool, true, false, cond, ◌&&◌, List, [], ◌∷◌, ◌++◌, map, ℕ, zero, suc, ◌+◌, ◌-◌, ◌<◌, ◌≤◌, length, take, drop, Option, Some, None}
use Rattle.std.proofs.Common.{sym, ap, ap₂, ◌∙◌, subst, append_assoc, arith, le-leb, le-ltb, lt-ltb}
use Rattle.std.proofs.lemmas.Bool.{lt-leb}
use Rattle.std.proofs.Math.Seq.{take-nil}
use Rattle.row_order.specs.Iso.{Row}
use Rattle.row_order.specs.Lists.{sum, concat}
use Rattle.row_order.specs.ListLaws.{sum_append}
use Rattle.semantics.specs.Properties.{Cut}
use Rattle.semantics.specs.Runs.{Streams, front, cut_rows}
use Rattle.stepping.specs.Outlets.{below, keeps}
use Rattle.stepping.specs.Coming.{cut_from, joined}

-- The second streams are the first without row x at the front of stream i
pub data Popped (x : Row) : ℕ → Streams → Streams → Type 0 where
  pop_here : {l : List Row} {ss : Streams} → Popped x 0 ((x ∷ l) ∷ ss) (l ∷ ss)
  pop_there : {i : ℕ} {l : List Row} {ss tt : Streams} → Popped x i ss tt → Popped x (suc i) (l ∷ ss) (l ∷ tt)

pub popped_length : {x : Row} {i : ℕ} {ss ts : Streams} → Popped x i ss ts → length ss ≡ length ts
popped_length pop_here = refl
popped_length (pop_there h) = ap suc (popped_length h)

pub popped_sum : {x : Row} {i : ℕ} {ss ts : Streams} → Popped x i ss ts → (w : Row → ℕ) → sum w (concat ss) ≡ w x + sum w (concat ts)
popped_sum {x} (pop_here {l = l} {ss = ss}) w = omega (arith, sum_append w l (concat ss))
popped_sum (pop_there {l = l} {ss = ss} {tt = ts} h) w = omega (arith, popped_sum h w, sum_append w l (concat ss), sum_append w l (concat ts))

-- a function of each row
pub popped_map : (f : Row → Row) {x : Row} {i : ℕ} {ss ts : Streams} → Popped x i ss ts → Popped (f x) i (map (map f) ss) (map (map f) ts)
popped_map f pop_here = pop_here
popped_map f (pop_there h) = pop_there (popped_map f h)

-- more streams behind, and in front
pub popped_behind : {x : Row} {i : ℕ} {ss ts : Streams} (us : Streams) → Popped x i ss ts → Popped x i (ss ++ us) (ts ++ us)
popped_behind us pop_here = pop_here
popped_behind us (pop_there h) = pop_there (popped_behind us h)

pub popped_front : {x : Row} (i j : ℕ) {ss ts : Streams} (us : Streams) → i ≡ length us + j → Popped x j ss ts → Popped x i (us ++ ss) (us ++ ts)
popped_front {x} i j {ss} {ts} [] e h = subst (λ (n : ℕ). Popped x n ss ts) (omega arith) h
popped_front zero j (l ∷ us) e h = absurd (omega arith)
popped_front (suc i) j (l ∷ us) e h = pop_there (popped_front i j us (omega arith) h)

-- ---- what waits and what comes
pub joined_same : (k : Cut) (w v : ℕ → List Row) (t u : ℕ → ℕ) → ((n : ℕ) → w n ≡ v n) → ((n : ℕ) → t n ≡ u n) → (raw : Streams) → joined k w t raw ≡ joined k v u raw
joined_same k w v t u p q [] = refl
joined_same k w v t u p q (l ∷ raw) = ap₂ (λ (x : List Row) (y : Streams). x ∷ y)
    (ap₂ (λ (a : List Row) (c : ℕ). a ++ cut_from k c l) (p zero) (q zero))
    (joined_same k (λ n. w (suc n)) (λ n. v (suc n)) (λ n. t (suc n)) (λ n. u (suc n)) (λ n. p (suc n)) (λ n. q (suc n)) raw)

-- a row sent to stream o: what waits and what comes is as before
module _ (k : Cut) (y : Row) where
  pub put_joined : (w v : ℕ → List Row) (t u : ℕ → ℕ) {o : ℕ} {raw rest : Streams} → Popped y o raw rest →
      ((n : ℕ) → (n ≡ o → ⊥) → (v n ≡ w n) × (u n ≡ t n)) → v o ≡ cond (keeps k (t o)) (w o ++ (y ∷ [])) (w o) → u o ≡ suc (t o) →
      joined k w t raw ≡ joined k v u rest
  put_joined w v t u (pop_here {l = l} {ss = ss}) other here next =
      ap₂ (λ (x : List Row) (z : Streams). x ∷ z)
      (go (keeps k (t zero)) ∙ ap₂ (λ (a : List Row) (c : ℕ). a ++ cut_from k c l) (sym here) (sym next))
      (joined_same k (λ n. w (suc n)) (λ n. v (suc n)) (λ n. t (suc n)) (λ n. u (suc n)) (λ n. sym (other (suc n) (λ e. omega arith)).0)
      (λ n. sym (other (suc n) (λ e. omega arith)).1) ss)
    where
      go : (b : Bool) → w zero ++ cond b (y ∷ cut_from k (suc (t zero)) l) (cut_from k (suc (t zero)) l) ≡
          cond b (w zero ++ (y ∷ [])) (w zero) ++ cut_from k (suc (t zero)) l
      go true = sym (append_assoc (w zero) (y ∷ []) (cut_from k (suc (t zero)) l))
      go false = refl
  put_joined w v t u (pop_there {l = l} h) other here next =
      ap₂ (λ (x : List Row) (z : Streams). x ∷ z)
      (ap₂ (λ (a : List Row) (c : ℕ). a ++ cut_from k c l) (sym (other zero (λ e. omega arith)).0) (sym (other zero (λ e. omega arith)).1))
      (put_joined (λ n. w (suc n)) (λ n. v (suc n)) (λ n. t (suc n)) (λ n. u (suc n)) h (λ n e. other (suc n) (λ q. e (omega arith))) here next)

-- the same up to equations
pop_at : {x : Row} {l m : List Row} {ss ts : Streams} → l ≡ x ∷ m → ss ≡ ts → Popped x 0 (l ∷ ss) (m ∷ ts)
pop_at {x} {l} {m} {ss} {ts} e f = subst (λ (a : List Row). Popped x 0 (a ∷ ss) (m ∷ ts)) (sym e)
    (subst (λ (b : Streams). Popped x 0 ((x ∷ m) ∷ b) (m ∷ ts)) (sym f) pop_here)

pop_next : {x : Row} {i : ℕ} {l m : List Row} {ss ts : Streams} → l ≡ m → Popped x i ss ts → Popped x (suc i) (l ∷ ss) (m ∷ ts)
pop_next {x} {i} {l} {m} {ss} {ts} e h = subst (λ (a : List Row). Popped x (suc i) (a ∷ ss) (m ∷ ts)) (sym e) (pop_there h)

-- a row taken from the front of stream i of what waits
pub joined_popped : (k : Cut) (x : Row) (w v : ℕ → List Row) (t : ℕ → ℕ) (i : ℕ) (raw : Streams) → i < length raw → w i ≡ x ∷ v i →
    ((n : ℕ) → (n ≡ i → ⊥) → w n ≡ v n) → Popped x i (joined k w t raw) (joined k v t raw)
joined_popped k x w v t i [] h e other = absurd (omega arith)
joined_popped k x w v t zero (l ∷ raw) h e other =
    pop_at (ap (λ (a : List Row). a ++ cut_from k (t zero) l) e)
    (joined_same k (λ n. w (suc n)) (λ n. v (suc n)) (λ n. t (suc n)) (λ n. t (suc n)) (λ n. other (suc n) (λ q. omega arith)) (λ n. refl) raw)
joined_popped k x w v t (suc i) (l ∷ raw) h e other =
    pop_next (ap (λ (a : List Row). a ++ cut_from k (t zero) l) (other zero (λ q. omega arith)))
    (joined_popped k x (λ n. w (suc n)) (λ n. v (suc n)) (λ n. t (suc n)) i raw (omega arith) e (λ n q. other (suc n) (λ z. q (omega arith))))

pub joined_length : (k : Cut) (w : ℕ → List Row) (t : ℕ → ℕ) (raw : Streams) → length (joined k w t raw) ≡ length raw
joined_length k w t [] = refl
joined_length k w t (l ∷ raw) = ap suc (joined_length k (λ n. w (suc n)) (λ n. t (suc n)) raw)

-- ---- cuts from the start are the run's
abbrev cut : ℕ → Option ℕ → Cut
cut s f = record { skip = s; fetch = f }

-- past the skipped rows
all_kept : (s c : ℕ) (l : List Row) → s ≤ c → cut_from (cut s None) c l ≡ l
all_kept s c [] h = refl
all_kept s c (x ∷ l) h = ap₂ (λ (b : Bool) (m : List Row). cond (b && true) (x ∷ m) m) (le-leb s c h) (all_kept s (suc c) l (omega arith))

none_kept : (s n c : ℕ) (l : List Row) → s + n ≤ c → cut_from (cut s (Some n)) c l ≡ []
none_kept s n c [] h = refl
none_kept s n c (x ∷ l) h =
    ap₂ (λ (a b : Bool). cond (a && b) (x ∷ cut_from (cut s (Some n)) (suc c) l) (cut_from (cut s (Some n)) (suc c) l)) (le-leb s c (omega arith))
    (le-ltb c (s + n) h) ∙ none_kept s n (suc c) l (omega arith)

some_kept : (s n c m : ℕ) (l : List Row) → s ≤ c → c + m ≡ s + n → cut_from (cut s (Some n)) c l ≡ take m l
some_kept s n c zero l h e = none_kept s n c l (omega arith)
some_kept s n c (suc m) [] h e = refl
some_kept s n c (suc m) (x ∷ l) h e =
    ap₂ (λ (a b : Bool). cond (a && b) (x ∷ cut_from (cut s (Some n)) (suc c) l) (cut_from (cut s (Some n)) (suc c) l)) (le-leb s c h)
    (lt-ltb c (s + n) (omega arith)) ∙ ap (λ (t : List Row). x ∷ t) (some_kept s n (suc c) m l (omega arith) (omega arith))

front_kept : (s c : ℕ) (f : Option ℕ) (l : List Row) → c ≡ s → cut_from (cut s f) c l ≡ front f l
front_kept s c None l e = all_kept s c l (omega arith)
front_kept s c (Some n) l e = some_kept s n c n l (omega arith) (omega arith)

front_nil : (f : Option ℕ) → front f [] ≡ []
front_nil None = refl
front_nil (Some n) = take-nil n

skip_kept : (s c m : ℕ) (f : Option ℕ) (l : List Row) → c + m ≡ s → cut_from (cut s f) c l ≡ front f (drop m l)
skip_kept s c zero f l e = front_kept s c f l (omega arith)
skip_kept s c (suc m) f [] e = sym (front_nil f)
skip_kept s c (suc m) f (x ∷ l) e =
    ap (λ (b : Bool). cond (b && below s f c) (x ∷ cut_from (cut s f) (suc c) l) (cut_from (cut s f) (suc c) l)) (lt-leb s c (omega arith)) ∙
    skip_kept s (suc c) m f l (omega arith)

pub cut_whole : (k : Cut) (l : List Row) → cut_from k 0 l ≡ cut_rows k l
cut_whole k l = skip_kept k.skip 0 k.skip k.fetch l (omega arith)

-- nothing waits and nothing came: what comes is what the run cuts
pub joined_whole : (k : Cut) (raw : Streams) → joined k (λ n. []) (λ n. 0) raw ≡ map (cut_rows k) raw
joined_whole k [] = refl
joined_whole k (l ∷ raw) = ap₂ (λ (x : List Row) (z : Streams). x ∷ z) (cut_whole k l) (joined_whole k raw)
