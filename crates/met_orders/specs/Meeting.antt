-- The loop that compares a list's normal form with an order, key by key, and what its number says. Assumes nothing.
use Rattle.std.specs.Prelude.{◌≡◌, refl, Bool, true, false, cond, ◌||◌, ◌&&◌, List, [], ◌∷◌, ℕ, zero, suc, ◌+◌, ◌<◌, eqb, length, take}
use Rattle.std.proofs.Common.{sym, ap, ap₂, ◌∙◌, arith, take_all, eq-eqb, ne_eqb}
use Rattle.std.proofs.Math.Decide.{ℕ_discrete}
use Rattle.row_order.specs.Iso.{Key}
use Rattle.row_order.proofs.Order.{no_bool}
use Rattle.row_order.specs.Packed.{bit, key_of}
use Rattle.plan.specs.WellFormed.{member}
use Rattle.semantics.proofs.Theorems.Common.Bools.{and_left, and_right}
use Rattle.semantics.specs.Facts.{Facts, is_c, cl, nf_by, nf, with_column, eq_key, prefixb}
use Rattle.column_sets.specs.Sets.{Holding}
use Rattle.key_list_algebra.specs.Normalising.{none_seen, swap}
use Rattle.asked_facts.specs.Asked.{Fronts}

-- ---- the loop: i keys of ks are passed, the keys l are left, and of the order q the keys p
pub record Fronting (F : Facts) (q ks : List Key) (s : ℕ) (p l : List Key) (i : ℕ) : Type 0 where
  pub far : i + length l ≡ length ks
  pub seen : List ℕ
  pub holds : Holding (λ c. is_c F c || member c seen) s
  pub left : (j : ℕ) → prefixb (nf_by (is_c F) (cl F) seen (take j l)) p ≡ prefixb (nf F [] (take (i + j) ks)) q
  pub front : (j : ℕ) → j < i → prefixb (nf F [] (take (suc j) ks)) q ≡ true

pub front-none : (F : Facts) (q ks : List Key) (s : ℕ) (p l : List Key) → p ≡ q → l ≡ ks → ((c : ℕ) → bit s c ≡ is_c F c) → Fronting F q ks s p l 0
front-none F q ks s p l e f h =
    record {
      far = omega (arith, ap length f);
      seen = [];
      holds = λ c. h c ∙ none_seen (is_c F c);
      left = λ j. ap₂ (λ x y. prefixb (nf F [] (take j x)) y) f e ∙ ap (λ x. prefixb (nf F [] (take x ks)) q) (let z : j ≡ 0 + j = omega arith in z);
      front = λ j h. absurd (omega arith);
    }

module _ {F : Facts} {q ks : List Key} {s : ℕ} {p l : List Key} {i : ℕ} (g : Fronting F q ks s p l i) (w : ℕ) (m : List Key) (d : l ≡ key_of w ∷ m) (c : ℕ)
    (e : c ≡ cl F (key_of w).col) where
  abbrev k : Key
  k = key_of w

  dropped : (b : Bool) → bit s c ≡ b → is_c F (cl F k.col) || member (cl F k.col) g.seen ≡ b
  dropped b f = sym (g.holds (cl F k.col)) ∙ ap (bit s) (sym e) ∙ f

  -- the next j keys behind this one
  step : (j : ℕ) → i + suc j ≡ i + 1 + j
  step j = omega arith

  passed : prefixb (nf F [] (take (i + 1) ks)) q ≡ true → (j : ℕ) → j < i + 1 → prefixb (nf F [] (take (suc j) ks)) q ≡ true
  passed p j l = go (ℕ_discrete j i)
    where
      go : Dec (j ≡ i) → prefixb (nf F [] (take (suc j) ks)) q ≡ true
      go (yes z) = ap (λ x. prefixb (nf F [] (take x ks)) q) (let y : suc j ≡ i + 1 = omega arith in y) ∙ p
      go (no z) = g.front j (omega arith)

  module _ (f : bit s c ≡ true) where
    skip_here : (x : List Key) → nf_by (is_c F) (cl F) g.seen (k ∷ x) ≡ nf_by (is_c F) (cl F) g.seen x
    skip_here x = rw (dropped true f)

    skip_left : (j : ℕ) → prefixb (nf_by (is_c F) (cl F) g.seen (take j m)) p ≡ prefixb (nf F [] (take (i + 1 + j) ks)) q
    skip_left j =
        ap (λ x. prefixb x p) (sym (skip_here (take j m)))
        ∙ ap (λ x. prefixb (nf_by (is_c F) (cl F) g.seen (take (suc j) x)) p) (sym d)
        ∙ g.left (suc j)
        ∙ ap (λ x. prefixb (nf F [] (take x ks)) q) (step j)

    pub front_skip : Fronting F q ks s p m (i + 1)
    front_skip =
        record {
          far = omega (arith, g.far, ap length d);
          seen = g.seen;
          holds = g.holds;
          left = skip_left;
          front = passed (ap (λ x. prefixb (nf F [] (take x ks)) q) (let y : i + 1 ≡ i + 1 + 0 = omega arith in y) ∙ sym (skip_left 0));
        }

  module _ (f : bit s c ≡ false) where
    kept_here : (x : List Key) → nf_by (is_c F) (cl F) g.seen (k ∷ x) ≡ with_column (cl F k.col) k ∷ nf_by (is_c F) (cl F) (cl F k.col ∷ g.seen) x
    kept_here x = rw (dropped false f)

    -- this key alone decides as the first i + 1 keys do
    alone : (b : Bool) → prefixb (with_column (cl F k.col) k ∷ []) p ≡ b → prefixb (nf F [] (take (i + 1) ks)) q ≡ b
    alone b z = sym (g.left 1) ∙ ap (λ x. prefixb (nf_by (is_c F) (cl F) g.seen (take 1 x)) p) d ∙ ap (λ x. prefixb x p) (kept_here []) ∙ z

    stopped : prefixb (nf F [] (take (i + 1) ks)) q ≡ false → Fronts F q ks i
    stopped z =
        record {
          few = omega (arith, g.far);
          front = g.front;
          stop = λ h. ap (λ x. prefixb (nf F [] (take x ks)) q) (let x : suc i ≡ i + 1 = omega arith in x) ∙ z;
        }

    pub front_short : p ≡ [] → Fronts F q ks i
    front_short h = stopped (alone false (ap (prefixb (with_column (cl F k.col) k ∷ [])) h))

    module _ (v : ℕ) (r : List Key) (h : p ≡ key_of v ∷ r) (x : ℕ) (y : key_of x ≡ with_column c k) (b : Bool) (z : b ≡ eq_key (key_of x) (key_of v)) where
      tested : b ≡ eq_key (with_column (cl F k.col) k) (key_of v)
      tested = z ∙ ap (λ a. eq_key a (key_of v)) (y ∙ ap (λ a. with_column a k) e)

      first : (t : Bool) → b ≡ t → (o : List Key) → prefixb (with_column (cl F k.col) k ∷ o) p ≡ t && prefixb o r
      first t u o = ap (prefixb (with_column (cl F k.col) k ∷ o)) h ∙ ap (λ a. a && prefixb o r) (sym tested ∙ u)

      pub front_differ : b ≡ false → Fronts F q ks i
      front_differ t = stopped (alone false (first false t []))

      pub front_more : b ≡ true → (t : ℕ) → Holding (λ d. eqb d c || bit s d) t → Fronting F q ks t r m (i + 1)
      front_more t u a =
          record {
            far = omega (arith, g.far, ap length d);
            seen = cl F k.col ∷ g.seen;
            holds = λ d. a d ∙ rw (e, g.holds d) (swap (eqb d (cl F k.col)) (is_c F d) (member d g.seen));
            left =
                λ j. sym (first true t (nf_by (is_c F) (cl F) (cl F k.col ∷ g.seen) (take j m)))
                ∙ ap (λ o. prefixb o p) (sym (kept_here (take j m)))
                ∙ ap (λ o. prefixb (nf_by (is_c F) (cl F) g.seen (take (suc j) o)) p) (sym d)
                ∙ g.left (suc j)
                ∙ ap (λ o. prefixb (nf F [] (take o ks)) q) (step j);
            front = passed (alone true (first true t []));
          }

pub front-end : {F : Facts} {q ks : List Key} {s : ℕ} {p l : List Key} {i : ℕ} → Fronting F q ks s p l i → l ≡ [] → Fronts F q ks i
front-end g e = record { few = omega (arith, g.far); front = g.front; stop = λ h. absurd (omega (arith, g.far, ap length e)) }

-- ---- all keys are met exactly if their number is

-- fewer keys have a prefix of the normal form
shorter : (cs : ℕ → Bool) (low : ℕ → ℕ) (n : ℕ) (seen : List ℕ) (ks q : List Key) → prefixb (nf_by cs low seen ks) q ≡ true
    → prefixb (nf_by cs low seen (take n ks)) q ≡ true
shorter cs low zero seen ks q e = refl
shorter cs low (suc n) seen [] q e = refl
shorter cs low (suc n) seen (k ∷ ks) q e =
    go (cs (low k.col) || member (low k.col) seen) q e (shorter cs low n seen ks) (shorter cs low n (low k.col ∷ seen) ks)
  where
    Shorter : List ℕ → Type 0
    Shorter s = (q : List Key) → prefixb (nf_by cs low s ks) q ≡ true → prefixb (nf_by cs low s (take n ks)) q ≡ true

    go : (b : Bool) (q : List Key) → prefixb (cond b (nf_by cs low seen ks) (with_column (low k.col) k ∷ nf_by cs low (low k.col ∷ seen) ks)) q ≡ true
        → Shorter seen → Shorter (low k.col ∷ seen)
        → prefixb (cond b (nf_by cs low seen (take n ks)) (with_column (low k.col) k ∷ nf_by cs low (low k.col ∷ seen) (take n ks))) q ≡ true
    go true q e h g = h q e
    go false [] e h g = no_bool e
    go false (l ∷ q) e h g =
        let a = and_left (eq_key (with_column (low k.col) k) l) (prefixb (nf_by cs low (low k.col ∷ seen) ks) q) e in
        let b = and_right (eq_key (with_column (low k.col) k) l) (prefixb (nf_by cs low (low k.col ∷ seen) ks) q) e in
        ap₂ ◌&&◌ a (g q b)

pub all_fronts : (F : Facts) (q ks : List Key) (r : ℕ) → Fronts F q ks r → eqb r (length ks) ≡ prefixb (nf F [] ks) q
all_fronts F q ks r g = go (ℕ_discrete r (length ks))
  where
    whole : (n : ℕ) → n ≡ length ks → ((i : ℕ) → i < n → prefixb (nf F [] (take (suc i) ks)) q ≡ true) → prefixb (nf F [] ks) q ≡ true
    whole zero e h = ap (λ l. prefixb (nf F [] l) q) (none ks e)
      where
        none : (l : List Key) → 0 ≡ length l → l ≡ []
        none [] e = refl
        none (k ∷ l) e = absurd (omega arith)
    whole (suc n) e h = ap (λ l. prefixb (nf F [] l) q) (sym (take_all (suc n) ks (omega arith))) ∙ h n (omega arith)

    fails : (b : Bool) → prefixb (nf F [] ks) q ≡ b → prefixb (nf F [] (take (suc r) ks)) q ≡ false → b ≡ false
    fails true e f = sym (shorter (is_c F) (cl F) (suc r) [] ks q e) ∙ f
    fails false e f = refl

    go : Dec (r ≡ length ks) → eqb r (length ks) ≡ prefixb (nf F [] ks) q
    go (yes e) = eq-eqb r (length ks) e ∙ sym (whole r e g.front)
    go (no n) = ne_eqb r (length ks) n ∙ sym (fails (prefixb (nf F [] ks) q) refl (g.stop (let f = g.few in omega arith)))
