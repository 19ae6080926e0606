-- Lists: sums of weights, `Same` (a permutation), `All`, `Pw` (pairwise), `Mix` and `Mixes` (interleavings), `tab` (tables). These are definitions.
use Rattle.std.specs.Prelude.{◌≡◌, List, [], ◌∷◌, ◌++◌, ℕ, zero, suc, ◌+◌}

-- a decision as a weight: 1 where the fact holds
abbrev pub one {ℓ} : {P : Type ℓ} → Dec P → ℕ
one (yes p) = 1
one (no n) = 0

module _ {A : Type 0} where
  -- the weights of the elements, summed
  abbrev pub sum : (A → ℕ) → List A → ℕ
  sum w [] = 0
  sum w (x ∷ l) = w x + sum w l

  -- the lists one after the other
  abbrev pub concat : List (List A) → List A
  concat [] = []
  concat (l ∷ ls) = l ++ concat ls

  -- m is a permutation of l: every weight sums to the same over both
  pub record Same (l m : List A) : Type 0 where
    pub sums : (w : A → ℕ) → sum w l ≡ sum w m

  -- every element satisfies P
  pub data All (P : A → Type 0) : List A → Type 0 where
    all_nil : All P []
    all_cons : {x : A} {l : List A} → P x → All P l → All P (x ∷ l)

  -- every element stands in R to each that comes after it
  pub data Pw (R : A → A → Type 0) : List A → Type 0 where
    pw_nil : Pw R []
    pw_cons : {x : A} {l : List A} → All (R x) l → Pw R l → Pw R (x ∷ l)

  -- the third list interleaves the first two; a list interleaves several
  pub data Mix : List A → List A → List A → Type 0 where
    mix_nil : Mix [] [] []
    mix_left : {x : A} {l m n : List A} → Mix l m n → Mix (x ∷ l) m (x ∷ n)
    mix_right : {x : A} {l m n : List A} → Mix l m n → Mix l (x ∷ m) (x ∷ n)

  pub data Mixes : List (List A) → List A → Type 0 where
    mixes_nil : Mixes [] []
    mixes_cons : {s : List A} {ss : List (List A)} {t z : List A} → Mixes ss t → Mix s t z → Mixes (s ∷ ss) z

-- the table of n values of f, from f 0 on
abbrev pub tab : {A : Type 0} → ℕ → (ℕ → A) → List A
tab zero f = []
tab (suc n) f = f zero ∷ tab n (λ k. f (suc k))
