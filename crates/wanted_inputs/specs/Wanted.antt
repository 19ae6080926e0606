-- What a record says that its node wants of its children, as the code reads it. Assumes nothing.
use Rattle.std.specs.Prelude.{◌≡◌, refl, List, [], ◌∷◌, map, ℕ, zero, suc, ◌+◌, ◌*◌, ◌≤◌, length, get_or, take, Option, None}
use Rattle.std.proofs.Common.{sym, ap, ◌∙◌, subst, arith, length-drop, get_or-drop, length-take-le}
use Rattle.std.proofs.lemmas.List.{length-map}
use Rattle.row_order.specs.Iso.{Key}
use Rattle.row_order.specs.Packed.{key_of}
use Rattle.scan.specs.Bytes.{le32, part}
use Rattle.plan.specs.Op.{On}
use Rattle.plan.specs.Numbers.{kind_of}
use Rattle.plan.specs.declared.Kind.{Kind}
use Rattle.plan.specs.declared.Kind.TheVariants.{SortMergeJoin, PartialSort}
use Rattle.plan.specs.declared.Distribution.TheVariants.{Keyed, Unspecified}
use Rattle.semantics.specs.Properties.{right_key, join_keys, wanted, by_side, column_set, left_single}
use Rattle.plan_codec.specs.Decode.{decode, distribution_of, from_bytes, operator_of}
use Rattle.plan_codec.proofs.Keys.{on_keys, on_columns}
use Rattle.key_lists.specs.declared.Keys.{Keys}
use Rattle.key_lists.specs.Keys as held
use Rattle.key_lists.specs.Lists.{length_keys}
use Rattle.record_fields.specs.Fields.{packed_keys, packed_right_keys}
use Rattle.record_fields.specs.Decoded.{packed_right_keys_lem, length-packed, length_keys_le}
use Rattle.record_fields.specs.Proper.{Proper, pairs_of}
use Rattle.record_fields.specs.Kinds.{op_of, keys_are}

-- ---- distributions

pub others_free : (j : ℕ) → (j ≡ 0 → ⊥) → Unspecified ≡ left_single j
others_free zero e = absurd (e refl)
others_free (suc j) e = refl

pub keyed_by : (k s : ℕ) → (k ≡ 0 → ⊥) → (k ≡ 1 → ⊥) → Keyed s ≡ distribution_of k s
keyed_by zero s a b = absurd (a refl)
keyed_by (suc zero) s a b = absurd (b refl)
keyed_by (suc (suc k)) s a b = refl

-- four bytes from 32 on
pub tail_set : (r : List ℕ) → le32 r 32 ≡ le32 (from_bytes r).tail 0
tail_set r = sym (λ i. get_or-drop 32 r 0 0 i + 256 * get_or-drop 32 r 1 0 i + 65536 * get_or-drop 32 r 2 0 i + 16777216 * get_or-drop 32 r 3 0 i)

-- ---- keys

module _ (r : List ℕ) (p : Proper r) (e : kind_of (get_or r 0 0) ≡ SortMergeJoin) where
  pub left_keys : map key_of (take (get_or r 12 0) (packed_keys r)) ≡ map (λ k. k.key) (pairs_of r)
  left_keys =
      let n = length_keys_le (get_or r 12 0) (part 16 16 r) in let f = p.few in let l = p.long in
      keys_are r p ∙ sym (on_keys (from_bytes r).keys (from_bytes r).tail (omega (arith, length-drop 32 r)))

  pub right_keys : map key_of (take (get_or r 12 0) (packed_right_keys r)) ≡ map right_key (pairs_of r)
  right_keys = packed_right_keys_lem (get_or r 12 0) r p.few (p.others e)

  columns_right : (on : List On) → map (λ k. k.col) (map right_key on) ≡ map (λ k. k.other) on
  columns_right [] = refl
  columns_right (k ∷ on) = ap (λ (l : List ℕ). k.other ∷ l) (columns_right on)

  pub left_set : (ks : List Key) (s : ℕ) → ks ≡ map key_of (take (get_or r 12 0) (packed_keys r)) → s ≡ column_set (map (λ k. k.col) ks)
      → s ≡ column_set (map (λ k. k.key.col) (pairs_of r))
  left_set ks s d x = x ∙ ap column_set (ap (map (λ k. k.col)) (d ∙ left_keys) ∙ on_columns (pairs_of r))

  pub right_set : (ks : List Key) (s : ℕ) → ks ≡ map key_of (take (get_or r 12 0) (packed_right_keys r)) → s ≡ column_set (map (λ k. k.col) ks)
      → s ≡ column_set (map (λ k. k.other) (pairs_of r))
  right_set ks s d x = x ∙ ap column_set (ap (map (λ k. k.col)) (d ∙ right_keys) ∙ columns_right (pairs_of r))

pub side_left : (on : List On) (j s : ℕ) → j ≡ 0 → s ≡ column_set (map (λ k. k.key.col) on) → Keyed s ≡ by_side on j
side_left on zero s e h = ap Keyed h
side_left on (suc j) s e h = absurd (omega arith)

pub side_right : (on : List On) (j s : ℕ) → (j ≡ 0 → ⊥) → s ≡ column_set (map (λ k. k.other) on) → Keyed s ≡ by_side on j
side_right on zero s e h = absurd (e refl)
side_right on (suc j) s e h = ap Keyed h

-- how many keys are read
pub keys_count : (r : List ℕ) → Proper r → (k : Keys) → held.Keyed (map key_of (take (get_or r 12 0) (packed_keys r))) k → k.len ≡ get_or r 12 0
keys_count r p k h =
    let l = length-packed r p.long in let f = p.few in
    sym (length_keys k.len k.word) ∙ ap length h.is ∙ length-map (take (get_or r 12 0) (packed_keys r)) key_of ∙ length-take-le (get_or r 12 0)
    (packed_keys r) (omega arith)

-- a partial sort's prefix is among its keys
pub prefix_inside : (r : List ℕ) → Proper r → kind_of (get_or r 0 0) ≡ PartialSort → get_or r 14 0 ≤ get_or r 12 0
prefix_inside r p e = p.prefix e

-- ---- orders of the first child, and of the others

pub first_order : (ks : List Key) (j : ℕ) (o : Option Keys) → j ≡ 0 → held.Ordered ks o → held.Ordered (get_or (ks ∷ []) j []) o
first_order ks zero o e h = h
first_order ks (suc j) o e h = absurd (omega arith)

pub no_first : (ks : List Key) (j : ℕ) → (j ≡ 0 → ⊥) → held.Ordered (get_or (ks ∷ []) j []) None
no_first ks zero e = absurd (e refl)
no_first ks (suc j) e = record { is = refl; real = tt }

pub left_order_lem : (on : List On) (ks : List Key) (j : ℕ) (o : Option Keys) → j ≡ 0 → ks ≡ map (λ k. k.key) on → held.Ordered ks o
    → held.Ordered (get_or (join_keys on) j []) o
left_order_lem on ks zero o e d h = subst (λ l. held.Ordered l o) d h
left_order_lem on ks (suc j) o e d h = absurd (omega arith)

pub right_order_lem : (on : List On) (ks : List Key) (j : ℕ) (o : Option Keys) → j ≡ 1 → ks ≡ map right_key on → held.Ordered ks o
    → held.Ordered (get_or (join_keys on) j []) o
right_order_lem on ks zero o e d h = absurd (omega arith)
right_order_lem on ks (suc zero) o e d h = subst (λ l. held.Ordered l o) d h
right_order_lem on ks (suc (suc j)) o e d h = absurd (omega arith)

pub no_side_lem : (on : List On) (j : ℕ) → (j ≡ 0 → ⊥) → (j ≡ 1 → ⊥) → held.Ordered (get_or (join_keys on) j []) None
no_side_lem on zero a b = absurd (a refl)
no_side_lem on (suc zero) a b = absurd (b refl)
no_side_lem on (suc (suc j)) a b = record { is = refl; real = tt }

-- ---- the wanted order, by the kind

module _ (r : List ℕ) (k : Kind) (e : kind_of (get_or r 0 0) ≡ k) (j : ℕ) where
  pub wants_this : (o : Option Keys) → held.Ordered (wanted (operator_of k (from_bytes r)) j) o → held.Ordered (wanted (decode r) j) o
  wants_this o h = subst (λ p. held.Ordered (wanted p j) o) (sym (op_of r k e)) h

  pub wants_none : [] ≡ wanted (operator_of k (from_bytes r)) j → held.Ordered (wanted (decode r) j) None
  wants_none d = wants_this None (record { is = d; real = tt })

  -- the keys ks, of the first child
  pub wants_first : (ks ls : List Key) (o : Option Keys) → ks ≡ ls → get_or (ls ∷ []) j [] ≡ wanted (operator_of k (from_bytes r)) j
      → held.Ordered (get_or (ks ∷ []) j []) o → held.Ordered (wanted (decode r) j) o
  wants_first ks ls o d x h = wants_this o (subst (λ l. held.Ordered l o) (ap (λ l. get_or (l ∷ []) j []) d ∙ x) h)
