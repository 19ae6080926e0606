-- Laws of the words of Lists. Assumes nothing.
use Rattle.std.specs.Prelude.{◌≡◌, refl, Bool, true, false, List, [], ◌∷◌, ◌++◌, map, ℕ, zero, suc, ◌+◌, ◌≤◌, ◌<◌, ltb, length, get_or}
use Rattle.std.proofs.Common.{sym, ap, ◌∙◌, subst, arith, ltb-true, ltb-false}
use Rattle.std.proofs.lemmas.Bool.{false≢true}
use mathlib.Core.HLevel.{Discrete}
use mathlib.Core.List.Memᴰ.{head as here}
use mathlib.Core.List.Memᴰ.{tail as there}
use mathlib.Core.List.{Memᴰ as Mem}
use Rattle.std.proofs.Math.ListN.{get_or-eq_default}
use Rattle.row_order.specs.Lists.{one, sum, concat, Same, All, all_nil, all_cons, Pw, pw_nil, pw_cons, Mix, mix_nil, mix_left, mix_right, Mixes, mixes_nil, mixes_cons, tab}

module _ {A : Type 0} where
  pub sum_append : (w : A → ℕ) (l m : List A) → sum w (l ++ m) ≡ sum w l + sum w m
  sum_append w [] m = omega arith
  sum_append w (x ∷ l) m = omega (arith, sum_append w l m)

  pub same_refl : (l : List A) → Same l l
  same_refl l = record { sums = λ w. refl }

  pub same_sym : {l m : List A} → Same l m → Same m l
  same_sym s = record { sums = λ w. sym (s.sums w) }

  pub same_trans : {l m n : List A} → Same l m → Same m n → Same l n
  same_trans s t = record { sums = λ w. s.sums w ∙ t.sums w }

  pub same_append : {l m l' m' : List A} → Same l m → Same l' m' → Same (l ++ l') (m ++ m')
  same_append {l} {m} {l'} {m'} s t =
      record { sums = λ w. omega (arith, sum_append w l l', sum_append w m m', s.sums w, t.sums w) }

  -- ---- membership
  mem_count : (dec : Discrete A) (x : A) (l : List A) → Mem x l → 1 ≤ sum (λ y. one (dec x y)) l
  mem_count dec x l (here {x = y} {xs = m} e) = go (dec x y)
    where
      go : (d : Dec (x ≡ y)) → 1 ≤ one d + sum (λ z. one (dec x z)) m
      go (yes p) = omega arith
      go (no n) = absurd (n e)
  mem_count dec x l (there {xs = m} h) = omega (arith, mem_count dec x m h)

  count_mem : (dec : Discrete A) (x : A) (l : List A) → 1 ≤ sum (λ y. one (dec x y)) l → Mem x l
  count_mem dec x [] h = absurd (omega arith)
  count_mem dec x (y ∷ l) h = go (dec x y) h (λ h'. count_mem dec x l h')
    where
      n : ℕ
      n = sum (λ z. one (dec x z)) l

      go : (d : Dec (x ≡ y)) → 1 ≤ one d + n → (1 ≤ n → Mem x l) → Mem x (y ∷ l)
      go (yes p) h f = here p
      go (no q) h f = there (f (omega arith))

  pub same_mem : (dec : Discrete A) {l m : List A} → Same l m → (x : A) → Mem x l → Mem x m
  same_mem dec {l} {m} s x h =
      count_mem dec x m (omega (arith, mem_count dec x l h, s.sums (λ y. one (dec x y))))

  -- ---- all, pairwise
  pub all_head : {P : A → Type 0} {x : A} {l : List A} → All P (x ∷ l) → P x
  all_head (all_cons p ps) = p

  pub all_tail : {P : A → Type 0} {x : A} {l : List A} → All P (x ∷ l) → All P l
  all_tail (all_cons p ps) = ps

  pub all_map : {P Q : A → Type 0} {l : List A} → ((x : A) → P x → Q x) → All P l → All Q l
  all_map f all_nil = all_nil
  all_map f (all_cons {x = x} p ps) = all_cons (f x p) (all_map f ps)

  pub all_zip : {P Q : A → Type 0} {l : List A} → All P l → All Q l → All (λ x. P x × Q x) l
  all_zip all_nil qs = all_nil
  all_zip (all_cons p ps) qs = all_cons (p, all_head qs) (all_zip ps (all_tail qs))

  pub all_append : {P : A → Type 0} {l m : List A} → All P l → All P m → All P (l ++ m)
  all_append all_nil qs = qs
  all_append (all_cons p ps) qs = all_cons p (all_append ps qs)

  pub all_left : {P : A → Type 0} (l m : List A) → All P (l ++ m) → All P l
  all_left [] m ps = all_nil
  all_left (x ∷ l) m ps = all_cons (all_head ps) (all_left l m (all_tail ps))

  pub all_right : {P : A → Type 0} (l m : List A) → All P (l ++ m) → All P m
  all_right [] m ps = ps
  all_right (x ∷ l) m ps = all_right l m (all_tail ps)

  -- by membership, and back
  pub tabulate : {P : A → Type 0} (l : List A) → ((x : A) → Mem x l → P x) → All P l
  tabulate [] f = all_nil
  tabulate (x ∷ l) f = all_cons (f x (here refl)) (tabulate l (λ y h. f y (there h)))

  pub lookup : {P : A → Type 0} {l : List A} → All P l → (x : A) → Mem x l → P x
  lookup all_nil x h = elim h [ ]
  lookup {P} (all_cons {x = y} p ps) x (here e) = subst P (sym e) p
  lookup (all_cons p ps) x (there h) = lookup ps x h

  -- what holds of all elements holds of all of a permutation
  pub same_all : (dec : Discrete A) {P : A → Type 0} {l : List A} (m : List A) → Same m l → All P l → All P m
  same_all dec m s ps = tabulate m (λ x h. lookup ps x (same_mem dec s x h))

  pub pw_head : {R : A → A → Type 0} {x : A} {l : List A} → Pw R (x ∷ l) → All (R x) l
  pw_head (pw_cons p ps) = p

  pub pw_tail : {R : A → A → Type 0} {x : A} {l : List A} → Pw R (x ∷ l) → Pw R l
  pw_tail (pw_cons p ps) = ps

  -- a weaker relation, where both rows satisfy P
  pub pw_map : {P : A → Type 0} {R S : A → A → Type 0} {l : List A} → ((x y : A) → P x → P y → R x y → S x y) → All P l → Pw R l → Pw S l
  pw_map f ps pw_nil = pw_nil
  pw_map f ps (pw_cons {x = x} q qs) =
      pw_cons (all_map (λ y pr. f x y (all_head ps) pr.0 pr.1) (all_zip (all_tail ps) q)) (pw_map f (all_tail ps) qs)

module _ {A : Type 0} where
  pub all_concat : {P : A → Type 0} (ss : List (List A)) → All (All P) ss → All P (concat ss)
  all_concat [] ps = all_nil
  all_concat (s ∷ ss) ps = all_append (all_head ps) (all_concat ss (all_tail ps))

  -- a list function over each of several lists
  pub all_over : {B : Type 0} {P : A → Type 0} {Q : B → Type 0} (f : A → B) → ((x : A) → P x → Q (f x)) → {l : List A} → All P l → All Q (map f l)
  all_over f h all_nil = all_nil
  all_over f h (all_cons {x = x} p ps) = all_cons (h x p) (all_over f h ps)

  pub pw_over : {B : Type 0} {P : A → Type 0} {R : A → A → Type 0} {S : B → B → Type 0} (f : A → B) → ((x y : A) → P x → P y → R x y → S (f x) (f y))
      → {l : List A} → All P l → Pw R l → Pw S (map f l)
  pw_over f h ps pw_nil = pw_nil
  pw_over f h ps (pw_cons {x = x} q qs) =
      pw_cons (all_over f (λ y pr. h x y (all_head ps) pr.0 pr.1) (all_zip (all_tail ps) q)) (pw_over f h (all_tail ps) qs)

module _ {A : Type 0} where
  -- ---- interleavings
  pub mix_sum : {l m n : List A} → Mix l m n → (w : A → ℕ) → sum w n ≡ sum w l + sum w m
  mix_sum mix_nil w = omega arith
  mix_sum (mix_left h) w = omega (arith, mix_sum h w)
  mix_sum (mix_right h) w = omega (arith, mix_sum h w)

  pub mixes_sum : {ss : List (List A)} {z : List A} → Mixes ss z → (w : A → ℕ) → sum w z ≡ sum w (concat ss)
  mixes_sum mixes_nil w = refl
  mixes_sum (mixes_cons {s = s} {ss = ss} h m) w = omega (arith, mixes_sum h w, mix_sum m w, sum_append w s (concat ss))

  pub mix_all : {P : A → Type 0} {l m n : List A} → Mix l m n → All P l → All P m → All P n
  mix_all mix_nil ps qs = all_nil
  mix_all (mix_left h) ps qs = all_cons (all_head ps) (mix_all h (all_tail ps) qs)
  mix_all (mix_right h) ps qs = all_cons (all_head qs) (mix_all h ps (all_tail qs))

  pub mixes_all : {P : A → Type 0} {ss : List (List A)} {z : List A} → Mixes ss z → All (All P) ss → All P z
  mixes_all mixes_nil ps = all_nil
  mixes_all (mixes_cons h m) ps = mix_all m (all_head ps) (mixes_all h (all_tail ps))

  -- and back: the parts of an interleaving
  pub mix_all_l : {P : A → Type 0} {l m n : List A} → Mix l m n → All P n → All P l
  mix_all_l mix_nil ps = all_nil
  mix_all_l (mix_left h) ps = all_cons (all_head ps) (mix_all_l h (all_tail ps))
  mix_all_l (mix_right h) ps = mix_all_l h (all_tail ps)

  pub mix_all_r : {P : A → Type 0} {l m n : List A} → Mix l m n → All P n → All P m
  mix_all_r mix_nil ps = all_nil
  mix_all_r (mix_left h) ps = mix_all_r h (all_tail ps)
  mix_all_r (mix_right h) ps = all_cons (all_head ps) (mix_all_r h (all_tail ps))

  pub unmix_all : {P : A → Type 0} {ss : List (List A)} {z : List A} → Mixes ss z → All P z → All (All P) ss
  unmix_all mixes_nil ps = all_nil
  unmix_all (mixes_cons h m) ps = all_cons (mix_all_l m ps) (unmix_all h (mix_all_r m ps))

  pub mix_pw_l : {R : A → A → Type 0} {l m n : List A} → Mix l m n → Pw R n → Pw R l
  mix_pw_l mix_nil ps = pw_nil
  mix_pw_l (mix_left h) ps = pw_cons (mix_all_l h (pw_head ps)) (mix_pw_l h (pw_tail ps))
  mix_pw_l (mix_right h) ps = mix_pw_l h (pw_tail ps)

  pub mix_pw_r : {R : A → A → Type 0} {l m n : List A} → Mix l m n → Pw R n → Pw R m
  mix_pw_r mix_nil ps = pw_nil
  mix_pw_r (mix_left h) ps = mix_pw_r h (pw_tail ps)
  mix_pw_r (mix_right h) ps = pw_cons (mix_all_r h (pw_head ps)) (mix_pw_r h (pw_tail ps))

  pub unmix_pw : {R : A → A → Type 0} {ss : List (List A)} {z : List A} → Mixes ss z → Pw R z → All (Pw R) ss
  unmix_pw mixes_nil ps = all_nil
  unmix_pw (mixes_cons h m) ps = all_cons (mix_pw_l m ps) (unmix_pw h (mix_pw_r m ps))

  pub mix_same_left : (l : List A) → Mix l [] l
  mix_same_left [] = mix_nil
  mix_same_left (x ∷ l) = mix_left (mix_same_left l)

  pub mix_same_right : (l : List A) → Mix [] l l
  mix_same_right [] = mix_nil
  mix_same_right (x ∷ l) = mix_right (mix_same_right l)

-- ---- tables
pub length-tab : {A : Type 0} (n : ℕ) (f : ℕ → A) → length (tab n f) ≡ n
length-tab zero f = refl
length-tab (suc n) f = ap suc (length-tab n (λ k. f (suc k)))

pub get_or-tab : {A : Type 0} (n : ℕ) (f : ℕ → A) (d : A) (c : ℕ) → c < n → get_or (tab n f) c d ≡ f c
get_or-tab zero f d c h = absurd (omega arith)
get_or-tab (suc n) f d zero h = refl
get_or-tab (suc n) f d (suc c) h = get_or-tab n (λ k. f (suc k)) d c (omega arith)

-- a table of tests: past its end nothing is true
pub tab-true : (n : ℕ) (f : ℕ → Bool) (c : ℕ) → get_or (tab n f) c false ≡ true → (c < n) × (f c ≡ true)
tab-true zero f c e = absurd (false≢true e)
tab-true (suc n) f zero e = (omega arith, e)
tab-true (suc n) f (suc c) e = let r = tab-true n (λ k. f (suc k)) c e in (omega (arith, r.0), r.1)

-- what holds of a table's entry, and of c itself, holds of what the table says at c
pub tab_at : (P : ℕ → Type 0) (n : ℕ) (f : ℕ → ℕ) (c : ℕ) → (c < n → P (f c)) → P c → P (get_or (tab n f) c c)
tab_at P n f c h z =
    (elim (ltb c n) as (λ b. ltb c n ≡ b → P (get_or (tab n f) c c)) [
      | true ↦ λ e. subst P (sym (get_or-tab n f c c (ltb-true c n e)))
          (h (ltb-true c n e))
      | false ↦ λ e. subst P (sym (get_or-eq_default (tab n f) c {n = c} (omega (arith, length-tab n f, ltb-false c n e)))) z
    ])
    refl
