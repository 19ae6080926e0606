-- Key lists that 01's rules accept in a node over columns below w: at most 8 keys, their columns below w, none repeated.
use Rattle.std.specs.Prelude.{◌≡◌, refl, Bool, true, false, cond, not, ◌&&◌, ◌||◌, List, [], ◌∷◌, map, ℕ, suc, ◌≤◌, ◌<◌, eqb, length}
use Rattle.std.proofs.Common.{sym, ap, ap₂, ◌∙◌, subst, arith, eq-eqb, ne_eqb, leb-true, ltb-true, le-leb, lt-ltb}
use Rattle.row_order.specs.Iso.{Key}
use Rattle.row_order.proofs.Order.{no_bool}
use Rattle.row_order.specs.Lists.{All, all_cons, all_nil}
use Rattle.plan.specs.WellFormed.{below, distinct, few, keys_fit, member}
use Rattle.semantics.specs.Facts.{cl, drop_repeats, Facts, is_c, nf, nf_by, nothing, with_column}
use Rattle.semantics.specs.Properties.{fresh_keys}
use Rattle.semantics.specs.Canonical.{Classes, n_cons, n_nil, Normal}
use Rattle.semantics.proofs.Theorems.Common.Bools.{and_left, and_right, or_false, or_right}
use Rattle.semantics.proofs.Theorems.Orders.NormalForms.{nf_all, nf_normal}

pub record KeysFit (w : ℕ) (ks : List Key) : Type 0 where
  pub short : length ks ≤ 8
  pub inside : All (λ k. k.col < w) ks
  pub apart : distinct (map (λ k. k.col) ks) ≡ true

-- ---- the reader's tests
abbrev pub keys_ok : ℕ → List Key → Bool
keys_ok w ks = few ks && keys_fit w ks

below_all : (w : ℕ) (ks : List Key) → below w (map (λ k. k.col) ks) ≡ true → All (λ k. k.col < w) ks
below_all w [] e = all_nil
below_all w (k ∷ ks) e = all_cons (ltb-true k.col w (search and_left)) (below_all w ks (search (and_left, and_right)))

all_below_lem : (w : ℕ) {ks : List Key} → All (λ k. k.col < w) ks → below w (map (λ k. k.col) ks) ≡ true
all_below_lem w all_nil = refl
all_below_lem w (all_cons {x = k} h hs) = ap₂ ◌&&◌ (lt-ltb k.col w h) (all_below_lem w hs)

pub keys_of_lem : (w : ℕ) (ks : List Key) → keys_ok w ks ≡ true → KeysFit w ks
keys_of_lem w ks e = record {
  short = leb-true (length ks) 8 (search (and_left, and_right));
  inside = below_all w ks (search (and_left, and_right));
  apart = search (and_left, and_right);
}

pub keys_to : {w : ℕ} {ks : List Key} → KeysFit w ks → keys_ok w ks ≡ true
keys_to {w} {ks} h = ap₂ ◌&&◌ (ap₂ ◌&&◌ (le-leb 0 (length ks) (omega arith)) (le-leb (length ks) 8 h.short))
    (ap₂ ◌&&◌ (all_below_lem w h.inside) h.apart)

pub no_keys : {w : ℕ} → KeysFit w []
no_keys = record { short = omega arith; inside = all_nil; apart = refl }

-- ---- lists that are made without repeats: no column is among those seen
pub data Apart : List ℕ → List Key → Type 0 where
  apart_nil : {seen : List ℕ} → Apart seen []
  apart_cons : {seen : List ℕ} {k : Key} {ks : List Key} → member k.col seen ≡ false → Apart (k.col ∷ seen) ks → Apart seen (k ∷ ks)

apart_seen : {seen : List ℕ} {ks : List Key} (c : ℕ) → member c seen ≡ true → Apart seen ks → member c (map (λ k. k.col) ks) ≡ false
apart_seen c m apart_nil = refl
apart_seen c m (apart_cons {seen = seen} {k = k} e h) = ap₂ ◌||◌ (ne_eqb c k.col (λ q. no_bool (sym e ∙ ap (λ (d : ℕ). member d seen) (sym q) ∙ m)))
    (apart_seen c (or_right (eqb c k.col) (member c seen) m) h)

pub apart_distinct : {seen : List ℕ} {ks : List Key} → Apart seen ks → distinct (map (λ k. k.col) ks) ≡ true
apart_distinct apart_nil = refl
apart_distinct (apart_cons {seen = seen} {k = k} {ks = ks} e h) =
    ap₂ (λ (x y : Bool). not x && y) (apart_seen k.col (ap (λ (b : Bool). b || member k.col seen) (eq-eqb k.col k.col refl)) h)
    (apart_distinct h)

normal_apart : {cs : ℕ → Bool} {low : ℕ → ℕ} {seen : List ℕ} {ks : List Key} → Normal cs low seen ks → Apart seen ks
normal_apart n_nil = apart_nil
normal_apart (n_cons a b c h) = apart_cons c (normal_apart h)

pub normal_distinct : {cs : ℕ → Bool} {low : ℕ → ℕ} {ks : List Key} → Normal cs low [] ks → distinct (map (λ k. k.col) ks) ≡ true
normal_distinct h = apart_distinct (normal_apart h)

-- ---- normal forms
pub nf-length : (cs : ℕ → Bool) (low : ℕ → ℕ) (seen : List ℕ) (ks : List Key) → length (nf_by cs low seen ks) ≤ length ks
nf-length cs low seen [] = omega arith
nf-length cs low seen (k ∷ ks) = go (cs (low k.col) || member (low k.col) seen) (nf-length cs low seen ks) (nf-length cs low (low k.col ∷ seen) ks)
  where
    c : ℕ
    c = low k.col

    go : (b : Bool) → length (nf_by cs low seen ks) ≤ length ks → length (nf_by cs low (c ∷ seen) ks) ≤ length ks
        → length (cond b (nf_by cs low seen ks) (with_column c k ∷ nf_by cs low (c ∷ seen) ks)) ≤ suc (length ks)
    go true h _ = omega arith
    go false _ h = omega arith

pub nf_keys : (F : Facts) → Classes F → (w : ℕ) (ks : List Key) → KeysFit w ks → KeysFit w (nf F [] ks)
nf_keys F h w ks f =
    record {
      short = omega (arith, nf-length (is_c F) (cl F) [] ks, f.short);
      inside = nf_all (is_c F) (cl F) (λ k l. omega (arith, h.low k.col)) [] f.inside;
      apart = normal_distinct (nf_normal (is_c F) (cl F) h.idem [] ks);
    }

-- ---- a new sort's keys: constants and later repeats dropped
module _ (F : Facts) where
  fresh_length : (seen : List ℕ) (ks : List Key) → length (fresh_keys F seen ks) ≤ length ks
  fresh_length seen [] = omega arith
  fresh_length seen (k ∷ ks) = go (is_c F k.col || member k.col seen) (fresh_length seen ks) (fresh_length (k.col ∷ seen) ks)
    where
      go : (b : Bool) → length (fresh_keys F seen ks) ≤ length ks → length (fresh_keys F (k.col ∷ seen) ks) ≤ length ks
          → length (cond b (fresh_keys F seen ks) (k ∷ fresh_keys F (k.col ∷ seen) ks)) ≤ suc (length ks)
      go true h _ = omega arith
      go false _ h = omega arith

  fresh_all : {P : Key → Type 0} (seen : List ℕ) {ks : List Key} → All P ks → All P (fresh_keys F seen ks)
  fresh_all seen all_nil = all_nil
  fresh_all {P} seen (all_cons {x = k} {l = ks} p ps) = go (is_c F k.col || member k.col seen) (fresh_all seen ps) (fresh_all (k.col ∷ seen) ps)
    where
      go : (b : Bool) → All P (fresh_keys F seen ks) → All P (fresh_keys F (k.col ∷ seen) ks)
          → All P (cond b (fresh_keys F seen ks) (k ∷ fresh_keys F (k.col ∷ seen) ks))
      go true h _ = h
      go false _ h = all_cons p h

  fresh_apart : (seen : List ℕ) (ks : List Key) → Apart seen (fresh_keys F seen ks)
  fresh_apart seen [] = apart_nil
  fresh_apart seen (k ∷ ks) = go (is_c F k.col || member k.col seen) refl (fresh_apart seen ks) (fresh_apart (k.col ∷ seen) ks)
    where
      go : (b : Bool) → (is_c F k.col || member k.col seen) ≡ b → Apart seen (fresh_keys F seen ks)
          → Apart (k.col ∷ seen) (fresh_keys F (k.col ∷ seen) ks) → Apart seen (cond b (fresh_keys F seen ks) (k ∷ fresh_keys F (k.col ∷ seen) ks))
      go true e h _ = h
      go false e _ h = apart_cons (or_false (is_c F k.col) (member k.col seen) e).1 h

  pub fresh_fits : (w : ℕ) (ks : List Key) → length ks ≤ 8 → All (λ k. k.col < w) ks → KeysFit w (fresh_keys F [] ks)
  fresh_fits w ks s h = record { short = omega (arith, fresh_length [] ks); inside = fresh_all [] h; apart = apart_distinct (fresh_apart [] ks) }

  pub fresh_keys_lem : (w : ℕ) (ks : List Key) → KeysFit w ks → KeysFit w (fresh_keys F [] ks)
  fresh_keys_lem w ks f = fresh_fits w ks f.short f.inside

-- ---- later repeats dropped, and nothing is constant
pub repeats_fresh : (seen : List ℕ) (ks : List Key) → fresh_keys nothing seen ks ≡ drop_repeats seen ks
repeats_fresh seen [] = refl
repeats_fresh seen (k ∷ ks) = ap₂ (λ (l m : List Key). cond (member k.col seen) l (k ∷ m)) (repeats_fresh seen ks) (repeats_fresh (k.col ∷ seen) ks)

pub repeats_keys : (w : ℕ) (ks : List Key) → length ks ≤ 8 → All (λ k. k.col < w) ks → KeysFit w (drop_repeats [] ks)
repeats_keys w ks s h = subst (KeysFit w) (repeats_fresh [] ks) (fresh_fits nothing w ks s h)
