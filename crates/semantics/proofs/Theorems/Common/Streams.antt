-- Lists of rows and of streams: filters, cuts, places, orders. Assumes nothing.
use Rattle.std.specs.Prelude.{◌≡◌, refl, Bool, true, false, cond, List, [], ◌∷◌, ℕ, zero, suc, length, get_or, take, drop}
use Rattle.std.proofs.Common.{ap}
use Rattle.row_order.specs.Iso.{Row, Key}
use Rattle.row_order.specs.RowLists.{le, Rel, Sorted}
use Rattle.row_order.specs.Lists.{concat, All, all_nil, all_cons, Pw, pw_nil, pw_cons, tab}
use Rattle.row_order.specs.ListLaws.{all_head, all_tail, all_map, all_zip, all_left, all_right, pw_head, pw_tail, pw_map}
use Rattle.semantics.specs.Joins.{keep}
use Rattle.semantics.specs.Runs.{Streams, Each, each_nil, each_cons}

-- ---- filters
pub keep_all : {A : Type 0} {P : A → Type 0} (p : A → Bool) {l : List A} → All P l → All P (keep p l)
keep_all p all_nil = all_nil
keep_all {P = P} p (all_cons {x = x} {l = l} h hs) = go (p x) (keep_all p hs)
  where
    go : (b : Bool) → All P (keep p l) → All P (cond b (x ∷ keep p l) (keep p l))
    go true ih = all_cons h ih
    go false ih = ih

pub keep_pw : {A : Type 0} {R : A → A → Type 0} (p : A → Bool) {l : List A} → Pw R l → Pw R (keep p l)
keep_pw p pw_nil = pw_nil
keep_pw {R = R} p (pw_cons {x = x} {l = l} h hs) = go (p x) (keep_pw p hs)
  where
    go : (b : Bool) → Pw R (keep p l) → Pw R (cond b (x ∷ keep p l) (keep p l))
    go true ih = pw_cons (keep_all p h) ih
    go false ih = ih

-- ---- several streams
pub sorted_nil : (l : List Row) → Sorted [] l
sorted_nil [] = pw_nil
sorted_nil (x ∷ l) = pw_cons (trivial l) (sorted_nil l)
  where
    trivial : (l : List Row) → All (Rel [] x) l
    trivial [] = all_nil
    trivial (y ∷ l) = all_cons refl (trivial l)

pub all_sorted_nil : (s : Streams) → All (Sorted []) s
all_sorted_nil [] = all_nil
all_sorted_nil (x ∷ s) = all_cons (sorted_nil x) (all_sorted_nil s)

-- each stream by another relation, where its rows satisfy P
pub streams_map : {P : Row → Type 0} (ks ls : List Key) {s : Streams} → ((x y : Row) → P x → P y → le ks x y ≡ true → le ls x y ≡ true) → All (All P) s
    → All (Sorted ks) s → All (Sorted ls) s
streams_map ks ls h ps ss = all_map (λ l pr. pw_map h pr.0 pr.1) (all_zip ps ss)

pub each_length : {A B : Type 0} {R : A → B → Type 0} {l : List A} {m : List B} → Each R l m → length m ≡ length l
each_length each_nil = refl
each_length (each_cons r h) = ap suc (each_length h)

-- what holds of the rows of one list, or of two in their order, holds of what they are related to
pub each_all : {A B : Type 0} {P : A → Type 0} {Q : B → Type 0} {R : A → B → Type 0} → ((x : A) (a : B) → P x → R x a → Q a) → {l : List A} {m : List B} →
    All P l → Each R l m → All Q m
each_all f ps each_nil = all_nil
each_all f ps (each_cons {x = x} {y = a} r h) = all_cons (f x a (all_head ps) r) (each_all f (all_tail ps) h)

pub each_pw : {A B : Type 0} {R : A → B → Type 0} {S : A → A → Type 0} {T : B → B → Type 0} → ((x y : A) (a b : B) → R x a → R y b → S x y → T a b) →
    {l : List A} {m : List B} → Pw S l → Each R l m → Pw T m
each_pw f ss each_nil = pw_nil
each_pw f ss (each_cons {x = x} {y = a} r h) = pw_cons (each_all (λ y b s q. f x y a b r q s) (pw_head ss) h) (each_pw f (pw_tail ss) h)

-- a place by its number
pub each_at : {A B : Type 0} {R : A → B → Type 0} {l : List A} {m : List B} (d : A) (e : B) → R d e → Each R l m → (n : ℕ) → R (get_or l n d) (get_or m n e)
each_at d e z each_nil n = z
each_at d e z (each_cons r h) zero = r
each_at d e z (each_cons r h) (suc n) = each_at d e z h n

pub all_at : {A : Type 0} {P : A → Type 0} {l : List A} (d : A) → P d → All P l → (n : ℕ) → P (get_or l n d)
all_at d z all_nil n = z
all_at d z (all_cons p ps) zero = p
all_at d z (all_cons p ps) (suc n) = all_at d z ps n

-- tables
pub all_tab : {A : Type 0} {P : A → Type 0} (n : ℕ) (f : ℕ → A) → ((k : ℕ) → P (f k)) → All P (tab n f)
all_tab zero f h = all_nil
all_tab (suc n) f h = all_cons (h zero) (all_tab n (λ k. f (suc k)) (λ k. h (suc k)))

-- what holds of all rows of several streams holds on each
pub concat_each : {A : Type 0} {P : A → Type 0} (ss : List (List A)) → All P (concat ss) → All (All P) ss
concat_each [] ps = all_nil
concat_each (s ∷ ss) ps = all_cons (all_left s (concat ss) ps) (concat_each ss (all_right s (concat ss) ps))

-- ---- cuts
pub all_take : {A : Type 0} {P : A → Type 0} (n : ℕ) {l : List A} → All P l → All P (take n l)
all_take zero ps = all_nil
all_take (suc n) all_nil = all_nil
all_take (suc n) (all_cons p ps) = all_cons p (all_take n ps)

pub all_drop : {A : Type 0} {P : A → Type 0} (n : ℕ) {l : List A} → All P l → All P (drop n l)
all_drop zero ps = ps
all_drop (suc n) all_nil = all_nil
all_drop (suc n) (all_cons p ps) = all_drop n ps

pub pw_take : {A : Type 0} {R : A → A → Type 0} (n : ℕ) {l : List A} → Pw R l → Pw R (take n l)
pw_take zero ps = pw_nil
pw_take (suc n) pw_nil = pw_nil
pw_take (suc n) (pw_cons p ps) = pw_cons (all_take n p) (pw_take n ps)

pub pw_drop : {A : Type 0} {R : A → A → Type 0} (n : ℕ) {l : List A} → Pw R l → Pw R (drop n l)
pw_drop zero ps = ps
pw_drop (suc n) pw_nil = pw_nil
pw_drop (suc n) (pw_cons p ps) = pw_drop n ps
