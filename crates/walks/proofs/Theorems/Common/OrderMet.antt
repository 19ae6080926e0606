-- When an order is met: a known order meets itself, a list is met where its normal form is, and constants and later repeats don't count.
use Rattle.std.specs.Prelude.{◌≡◌, refl, Bool, true, false, cond, ◌&&◌, ◌||◌, ◌⊎◌, List, [], ◌∷◌, map, ℕ, zero, suc, ◌<◌, eqb, length, get_or, take}
use Rattle.std.proofs.Common.{sym, ap, ap₂, ◌∙◌, inl, inr, arith, eqb-true, eq-eqb}
use Rattle.std.specs.Bool.{beq}
use Rattle.row_order.specs.Iso.{Key}
use Rattle.row_order.proofs.Order.{no_bool}
use Rattle.plan.specs.Op.{coalesce, filter, global_limit, hash_join, local_limit, merge_op, On, Op, output_requirement, partial_sort, aggregate, projection, repartition, sort_merge_join, sort_op, source, union}
use Rattle.plan.specs.WellFormed.{member}
use Rattle.semantics.specs.Facts.{cl, drop_repeats, Facts, is_c, is_nil, met, nf, nothing, prefixb, with_column}
use Rattle.semantics.specs.Properties.{fresh_keys, join_keys, remark, right_key, wanted, wanted_orders}
use Rattle.semantics.specs.Check.{orders_met, wants_met}
use Rattle.semantics.specs.Canonical.{Canon}
use Rattle.semantics.proofs.Theorems.Common.Bools.{or_cases, or_right}
use Rattle.semantics.proofs.Theorems.Orders.NormalForms.{nf_idem, normal_nf}
use Rattle.walks.specs.Trees.{arity, FitsA}
use Rattle.walks.proofs.Theorems.Common.Keeps.{remark-same}
use Rattle.walks.proofs.Theorems.Common.Keys.{repeats_fresh}

-- ---- lists of keys
pub prefix_refl : (p : List Key) → prefixb p p ≡ true
prefix_refl [] = refl
prefix_refl (k ∷ p) = ap₂ ◌&&◌ (ap₂ ◌&&◌ (eq-eqb k.col k.col refl) (ap₂ ◌&&◌ (self k.desc) (self k.first))) (prefix_refl p)
  where
    self : (b : Bool) → beq b b ≡ true
    self true = refl
    self false = refl

-- a node meets its own known order
pub met_own : (F : Facts) → Canon F → met F F.order ≡ true
met_own F h = ap (λ (l : List Key). prefixb l F.order) (normal_nf (is_c F) (cl F) h.normal) ∙ prefix_refl F.order

-- to meet a list is to meet its normal form
pub nf_twice : (F : Facts) → Canon F → (ks : List Key) → nf F [] (nf F [] ks) ≡ nf F [] ks
nf_twice F h ks = nf_idem (is_c F) (cl F) h.classes.idem [] ks

pub met-nf : (F : Facts) (ks : List Key) → Canon F → met F (nf F [] ks) ≡ met F ks
met-nf F ks h = ap (λ (l : List Key). prefixb l F.order) (nf_twice F h ks)

-- what is no prefix is not empty
pub prefix_some : (l q : List Key) → prefixb l q ≡ false → is_nil l ≡ false
prefix_some [] q e = e
prefix_some (k ∷ l) q e = refl

-- constants and later repeats drop out of a normal form; E: facts that know no constants but those of F
module _ (F : Facts) (hF : Canon F) (E : Facts) (fewer : (c : ℕ) → is_c E c ≡ true → is_c F c ≡ true) where
  -- a normal form drops what stands in raw, behind the columns low
  abbrev Dropped : List ℕ → List ℕ → Type 0
  Dropped raw low = (c : ℕ) → member c raw ≡ true → (is_c F (cl F c) || member (cl F c) low) ≡ true

  dropped_more : (d : ℕ) (raw low : List ℕ) → Dropped raw low → (is_c F (cl F d) || member (cl F d) low) ≡ true → Dropped (d ∷ raw) low
  dropped_more d raw low h e c m = go (or_cases (eqb c d) (member c raw) m)
    where
      go : (eqb c d ≡ true) ⊎ (member c raw ≡ true) → (is_c F (cl F c) || member (cl F c) low) ≡ true
      go (inl q) = ap (λ (x : ℕ). is_c F (cl F x) || member (cl F x) low) (eqb-true c d q) ∙ e
      go (inr q) = h c q

  dropped_wider : (a : ℕ) (raw low : List ℕ) → Dropped raw low → Dropped raw (a ∷ low)
  dropped_wider a raw low h c m = wider (is_c F (cl F c)) (eqb (cl F c) a) (member (cl F c) low) (h c m)
    where
      wider : (x y z : Bool) → x || z ≡ true → x || (y || z) ≡ true
      wider true y z e = refl
      wider false y z e = or_right y z e

  fresh_nf : (raw low : List ℕ) (ks : List Key) → Dropped raw low → nf F low (fresh_keys E raw ks) ≡ nf F low ks
  fresh_nf raw low [] h = refl
  fresh_nf raw low (k ∷ ks) h =
      go (is_c E k.col || member k.col raw) refl (is_c F a || member a low) refl (fresh_nf raw low ks h) (λ g. fresh_nf (k.col ∷ raw) low ks g)
      (λ g. fresh_nf (k.col ∷ raw) (a ∷ low) ks g)
    where
      a : ℕ
      a = cl F k.col

      k' : Key
      k' = with_column a k

      later : List Key
      later = fresh_keys E (k.col ∷ raw) ks

      drops : (is_c E k.col || member k.col raw) ≡ true → (is_c F a || member a low) ≡ true
      drops e = cases (or_cases (is_c E k.col) (member k.col raw) e)
        where
          cases : (is_c E k.col ≡ true) ⊎ (member k.col raw ≡ true) → (is_c F a || member a low) ≡ true
          cases (inl q) = ap (λ (x : Bool). x || member a low) (hF.classes.const k.col ∙ fewer k.col q)
          cases (inr q) = h k.col q

      go : (x : Bool) → (is_c E k.col || member k.col raw) ≡ x → (y : Bool) → (is_c F a || member a low) ≡ y →
          nf F low (fresh_keys E raw ks) ≡ nf F low ks →
          (Dropped (k.col ∷ raw) low → nf F low later ≡ nf F low ks) →
          (Dropped (k.col ∷ raw) (a ∷ low) → nf F (a ∷ low) later ≡ nf F (a ∷ low) ks) →
          nf F low (cond x (fresh_keys E raw ks) (k ∷ later)) ≡ cond y (nf F low ks) (k' ∷ nf F (a ∷ low) ks)
      go true e true q ih _ _ = ih
      go true e false q ih _ _ = no_bool (sym q ∙ drops e)
      go false e true q _ ih _ = ap (λ (x : Bool). cond x (nf F low later) (k' ∷ nf F (a ∷ low) later)) q ∙ ih (dropped_more k.col raw low h q)
      go false e false q _ _ ih =
          ap (λ (x : Bool). cond x (nf F low later) (k' ∷ nf F (a ∷ low) later)) q
          ∙ ap (λ (l : List Key). k' ∷ l)
          (ih (dropped_more k.col raw (a ∷ low) (dropped_wider a raw low h)
          (or_right (is_c F a) (eqb a a || member a low) (ap (λ (x : Bool). x || member a low) (eq-eqb a a refl)))))

pub fresh_same : (F : Facts) → Canon F → (ks : List Key) → nf F [] (fresh_keys F [] ks) ≡ nf F [] ks
fresh_same F h ks = fresh_nf F h F (λ c e. e) [] [] ks (λ c e. no_bool e)

pub repeats_same : (F : Facts) → Canon F → (ks : List Key) → nf F [] (drop_repeats [] ks) ≡ nf F [] ks
repeats_same F h ks = ap (nf F []) (sym (repeats_fresh [] ks)) ∙ fresh_nf F h nothing (λ c e. no_bool e) [] [] ks (λ c e. no_bool e)

pub fresh_some : (F : Facts) → Canon F → (ks : List Key) → is_nil (nf F [] ks) ≡ false → is_nil (fresh_keys F [] ks) ≡ false
fresh_some F h ks e = go (fresh_keys F [] ks) (fresh_same F h ks)
  where
    go : (l : List Key) → nf F [] l ≡ nf F [] ks → is_nil l ≡ false
    go [] q = ap is_nil q ∙ e
    go (k ∷ l) q = refl

-- ---- wanted orders
nil_met : (F : Facts) (ks : List Key) → is_nil ks ≡ true → met F ks && true ≡ true
nil_met F [] e = refl
nil_met F (k ∷ ks) e = no_bool e

no_pairs_met : (on : List On) (F : ℕ → Facts) → is_nil (map (λ k. k.key) on) ≡ true → orders_met (join_keys on) F ≡ true
no_pairs_met [] F e = refl
no_pairs_met (k ∷ on) F e = no_bool e

pub no_orders_met : (o : Op) (fs : List Facts) → is_nil (wanted o 0) ≡ true → wants_met o fs ≡ true
no_orders_met (source s) fs e = refl
no_orders_met filter fs e = refl
no_orders_met (projection cols) fs e = refl
no_orders_met union fs e = refl
no_orders_met (repartition p n h ks) fs e = refl
no_orders_met (coalesce f) fs e = refl
no_orders_met (sort_op p ks f) fs e = refl
no_orders_met (merge_op ks f) fs e = nil_met (get_or fs 0 nothing) ks e
no_orders_met (global_limit s f note) fs e = refl
no_orders_met (local_limit f note) fs e = refl
no_orders_met (sort_merge_join t on) fs e = no_pairs_met on (λ i. get_or fs i nothing) e
no_orders_met (hash_join t on) fs e = refl
no_orders_met (output_requirement ks d f) fs e = nil_met (get_or fs 0 nothing) ks e
no_orders_met (partial_sort p ks n f) fs e = nil_met (get_or fs 0 nothing) (take n ks) e
no_orders_met (aggregate ks n) fs e = refl

-- of the number of its children that a node can have, what is wanted of some child is nothing only if nothing is wanted of the first
keys_nil : (on : List On) → is_nil (map right_key on) ≡ true → is_nil (map (λ k. k.key) on) ≡ true
keys_nil [] e = refl
keys_nil (k ∷ on) e = no_bool e

pub nil_zero : (o : Op) (n i : ℕ) → FitsA (arity o) n → i < n → is_nil (wanted o i) ≡ true → is_nil (wanted o 0) ≡ true
nil_zero (source s) n i f l e = refl
nil_zero filter n i f l e = refl
nil_zero (projection cols) n i f l e = refl
nil_zero union n i f l e = refl
nil_zero (repartition p m h ks) n i f l e = refl
nil_zero (coalesce g) n i f l e = refl
nil_zero (sort_op p ks g) n i f l e = refl
nil_zero (merge_op ks g) n zero f l e = e
nil_zero (merge_op ks g) n (suc i) f l e = absurd (omega arith)
nil_zero (global_limit s g note) n i f l e = refl
nil_zero (local_limit g note) n i f l e = refl
nil_zero (sort_merge_join t on) n zero f l e = e
nil_zero (sort_merge_join t on) n (suc zero) f l e = keys_nil on e
nil_zero (sort_merge_join t on) n (suc (suc i)) f l e = absurd (omega arith)
nil_zero (hash_join t on) n i f l e = refl
nil_zero (output_requirement ks d g) n zero f l e = e
nil_zero (output_requirement ks d g) n (suc i) f l e = absurd (omega arith)
nil_zero (partial_sort p ks m g) n zero f l e = e
nil_zero (partial_sort p ks m g) n (suc i) f l e = absurd (omega arith)
nil_zero (aggregate ks m) n i f l e = refl

abbrev pub Granted : Op → List Facts → Type 0
Granted o fs = (i : ℕ) → i < length fs → met (get_or fs i nothing) (wanted o i) ≡ true

pub wants_in : (o : Op) (fs : List Facts) → FitsA (arity o) (length fs) → Granted o fs → wants_met o fs ≡ true
wants_in (source s) fs f h = refl
wants_in filter fs f h = refl
wants_in (projection cols) fs f h = refl
wants_in union fs f h = refl
wants_in (repartition p n hash part) fs f h = refl
wants_in (coalesce g) fs f h = refl
wants_in (sort_op p ks g) fs f h = refl
wants_in (merge_op ks g) fs f h = ap₂ ◌&&◌ (h 0 (omega arith)) refl
wants_in (global_limit s g note) fs f h = refl
wants_in (local_limit g note) fs f h = refl
wants_in (sort_merge_join t on) fs f h = ap₂ ◌&&◌ (h 0 (omega arith)) (ap₂ ◌&&◌ (h 1 (omega arith)) refl)
wants_in (hash_join t on) fs f h = refl
wants_in (output_requirement ks dist most) fs f h = ap₂ ◌&&◌ (h 0 (omega arith)) refl
wants_in (partial_sort p ks n g) fs f h = ap₂ ◌&&◌ (h 0 (omega arith)) refl
wants_in (aggregate ks n) fs f h = refl

pub wants_remark : (g : Bool → Bool) (o : Op) (fs : List Facts) → wants_met (remark g o) fs ≡ wants_met o fs
wants_remark g o fs = ap (λ (l : List (List Key)). orders_met l (λ i. get_or fs i nothing)) (remark-same wanted_orders g (λ p q n h ks. refl) o)
