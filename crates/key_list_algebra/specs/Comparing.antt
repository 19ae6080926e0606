-- Two key lists compared key by key: prefix and common front. Assumes nothing.
use Rattle.std.specs.Prelude.{◌≡◌, refl, Bool, true, false, cond, ◌&&◌, ◌⊎◌, List, [], ◌∷◌, ℕ, suc, ◌+◌, eqb, length, take}
use Rattle.std.proofs.Common.{ap, ap₂, sym, ◌∙◌, arith, eq-eqb, ne_eqb, inl, inr}
use Rattle.row_order.specs.Iso.{Key}
use Rattle.row_order.specs.Packed.{key_of}
use Rattle.semantics.specs.Facts.{eq_key, prefixb, common}
use Rattle.key_lists.specs.declared.Keys.{Keys}
use Rattle.key_lists.specs.Keys.{keys_of, Keyed}
use Rattle.key_lists.specs.Lists.{length_keys}

take-common : (p q : List Key) → take (length (common p q)) p ≡ common p q
take-common [] q = refl
take-common (k ∷ p) [] = refl
take-common (k ∷ p) (l ∷ q) = go (take-common p q) (eq_key k l)
  where
    go : take (length (common p q)) p ≡ common p q → (b : Bool) → take (length (cond b (k ∷ common p q) [])) (k ∷ p) ≡ cond b (k ∷ common p q) []
    go ih true = ap (λ m. k ∷ m) ih
    go ih false = refl

-- the first i keys are what is common
pub shared : (p : Keys) (m : List Key) (i : ℕ) (r : Keys) → Keyed (take i (keys_of p)) r → i ≡ length (common (keys_of p) m) → Keyed (common (keys_of p) m) r
shared p m i r k e = record { is = k.is ∙ ap (λ n. take n (keys_of p)) e ∙ take-common (keys_of p) m; few = k.few }

-- n keys are passed, which both lists have; of the list k the keys l are left, of the list m the keys r
pub record Sharing (k : Keys) (m : List Key) (n : ℕ) (l r : List Key) : Type 0 where
  pub is : n + length (common l r) ≡ length (common (keys_of k) m)
  pub room : n + length l ≡ k.len

pub share_none : (k : Keys) (m l r : List Key) → l ≡ keys_of k → r ≡ m → Sharing k m 0 l r
share_none k m l r e f =
    let z : length (common l r) ≡ length (common (keys_of k) m) = ap₂ (λ a b. length (common a b)) e f in
    record { is = omega arith; room = omega (arith, ap length e, length_keys k.len k.word) }

module _ {k : Keys} {m : List Key} {n : ℕ} {l r : List Key} (g : Sharing k m n l r) where
  pub share_more : (a b : ℕ) (l' r' : List Key) → l ≡ key_of a ∷ l' → r ≡ key_of b ∷ r' → eq_key (key_of a) (key_of b) ≡ true → Sharing k m (n + 1) l' r'
  share_more a b l' r' e f t =
      let z : length (common l r) ≡ suc (length (common l' r')) = ap₂ (λ x y. length (common x y)) e f ∙ ap (λ x. length (cond x (key_of a ∷ common l' r') [])) t in
      record { is = omega (arith, g.is, z); room = omega (arith, g.room, ap length e) }

  -- where no more are common, those passed are all
  passed : length (common l r) ≡ 0 → n ≡ length (common (keys_of k) m)
  passed z = omega (arith, g.is, z)

  pub share_differ : (a b : ℕ) (l' r' : List Key) (s : Keys) → l ≡ key_of a ∷ l' → r ≡ key_of b ∷ r' → eq_key (key_of a) (key_of b) ≡ false
      → Keyed (take n (keys_of k)) s → Keyed (common (keys_of k) m) s
  share_differ a b l' r' s e f t h =
      shared k m n s h (passed (ap₂ (λ x y. length (common x y)) e f ∙ ap (λ x. length (cond x (key_of a ∷ common l' r') [])) t))

  pub share_all : (s : Keys) → l ≡ [] ⊎ (r ≡ []) → Keyed (take n (keys_of k)) s → Keyed (common (keys_of k) m) s
  share_all s (inl e) h = shared k m n s h (passed (ap (λ x. length (common x r)) e))
  share_all s (inr e) h = shared k m n s h (passed (ap (λ x. length (common l x)) e ∙ none l))
    where
      none : (x : List Key) → length (common x []) ≡ 0
      none [] = refl
      none (y ∷ x) = refl

-- two lists are the same, or their lengths differ
same_length : (p q : Keys) → eqb p.len q.len ≡ eqb (length (keys_of p)) (length (keys_of q))
same_length p q = sym (ap₂ eqb (length_keys p.len p.word) (length_keys q.len q.word))

pub same_so : (p q : Keys) (b : Bool) → p.len ≡ q.len → b ≡ prefixb (keys_of p) (keys_of q) → b ≡ prefixb (keys_of p) (keys_of q)
    && eqb (length (keys_of p)) (length (keys_of q))
same_so p q b e h = h ∙ go (prefixb (keys_of p) (keys_of q)) (sym (same_length p q) ∙ eq-eqb p.len q.len e)
  where
    go : (x : Bool) {y : Bool} → y ≡ true → x ≡ x && y
    go true e = sym e
    go false e = refl

pub same_not : (p q : Keys) → (p.len ≡ q.len → ⊥) → false ≡ prefixb (keys_of p) (keys_of q) && eqb (length (keys_of p)) (length (keys_of q))
same_not p q e = go (prefixb (keys_of p) (keys_of q)) (sym (same_length p q) ∙ ne_eqb p.len q.len e)
  where
    go : (x : Bool) {y : Bool} → y ≡ false → false ≡ x && y
    go true e = sym e
    go false e = refl
