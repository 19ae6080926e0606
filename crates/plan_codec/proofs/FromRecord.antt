-- A record that obeys the rules of its kind is the record of its operator, and that operator's fields are fine.
use Rattle.std.specs.Prelude.{◌≡◌, Bool, cond, not, ◌&&◌, ◌||◌, ltb, eqb, get_or, take, Option, Some, None, is_some}
use Rattle.std.proofs.Math.Path.{refl}
use Rattle.std.proofs.Common.{sym, ap, ap₂, ◌∙◌, length-take-le}
use Rattle.std.proofs.Math.Bool.{true, false}
use mathlib.Core.List.{List, [], ◌∷◌, map}
use Prim.Native.Nat.{ℕ, zero, suc, ◌+◌, ◌-◌, ◌^◌, ◌≤◌, ◌<◌}
use native.Mathlib.Omega.{arith}
use Rattle.std.specs.Int.Count.{ones}
use Rattle.std.proofs.Math.Dec.{leb, leb-zero}
use Rattle.std.proofs.Math.ListN.{length}
use borrow.Author.Tests.{eqb-true, leb-true, lt-ltb}
use Rattle.row_order.specs.Iso.{Key}
use Rattle.scan.specs.Below.{and_left, and_right, or_false}
use Rattle.scan.specs.Bytes.{le32}
use Rattle.plan.specs.Op.{kind}
use Rattle.plan.specs.Numbers.{kind_number, join_number, join_type_of, distribution_number, no_fetch}
use Rattle.plan.specs.WellFormed.{between, every, plain, few, some, distribution_ok, fetch_ok, fields_ok}
use Rattle.plan.specs.declared.Kind.{Kind}
use Rattle.plan.specs.declared.Kind.TheVariants.{Source, Filter, Projection, Union, Repartition, Coalesce, Sort, Merge, GlobalLimit, LocalLimit, SortMergeJoin, HashJoin, OutputRequirement, PartialSort, Aggregate}
use Rattle.plan_format.specs.declared.Fields.{Fields}
use Rattle.plan_format.specs.Blocks.{span}
use Rattle.plan_format.specs.Fields.{fields_of}
use Rattle.plan_format.specs.Record.{either, tail_used}
use Rattle.plan_format.specs.Writing.{four_bytes}
use Rattle.plan_roundtrip.specs.Same.{fourth}
use Rattle.plan_codec.specs.NodeRecord.{NodeRecord}
use Rattle.plan_codec.specs.Decode.{on_of, distribution_of, operator_of}
use Rattle.plan_codec.specs.Encode.{fill, fetch_number, keyed_set, record_of}
use Rattle.plan_codec.proofs.Bits.{no_false, both, join_back}
use Rattle.plan_codec.proofs.Fill.{fill_back, part_bytes}
use Rattle.plan_codec.proofs.Keys.{on_keys, on_others, length_on, on_plain}
use Rattle.plan_codec.proofs.Rules.{Rules, few_keys}

-- ---- "Unused fields and bits are zero"

-- the record with its unused fields put to zero
clean : Fields → Kind → NodeRecord → NodeRecord
clean f k x =
    record {
      kind = k;
      children = x.children;
      streams = cond f.streams x.streams 0;
      preserve = f.preserve && x.preserve;
      hash = f.hash && x.hash;
      unbounded = f.unbounded && x.unbounded;
      fetch = cond f.fetch x.fetch (Some 0);
      skip = cond f.skip x.skip 0;
      keys = cond (f.needs_key || (f.hash || f.noted)) x.keys [];
      width = cond f.width x.width 0;
      role = cond (f.join || (f.distribution || f.prefix)) x.role 0;
      tail = fill 32 (take (tail_used f x.role x.width (length x.keys)) x.tail);
    }

number_used : (b t : Bool) (v : ℕ) → either b t (eqb v 0) ≡ true → cond b v 0 ≡ v
number_used true t v e = refl
number_used false t v e = sym (eqb-true v 0 e)

number_free : (b : Bool) (v : ℕ) → (b || eqb v 0) ≡ true → cond b v 0 ≡ v
number_free true v e = refl
number_free false v e = sym (eqb-true v 0 e)

bit_used : (b m : Bool) → (b || not m) ≡ true → b && m ≡ m
bit_used true m e = refl
bit_used false true e = no_false e
bit_used false false e = refl

fetch_used : (b t : Bool) (φ : Option ℕ) → either b t (eqb (fetch_number φ) 0) ≡ true → cond b φ (Some 0) ≡ φ
fetch_used true t φ e = refl
fetch_used false t None e = no_false e
fetch_used false t (Some n) e = ap Some (sym (eqb-true n 0 e))

no_keys : (ks : List Key) → eqb (length ks) 0 ≡ true → [] ≡ ks
no_keys [] e = refl
no_keys (k ∷ ks) e = absurd (let z = eqb-true (length (k ∷ ks)) 0 e in omega arith)

keys_used : (k h m t : Bool) (ks : List Key) → either (k || (h && m)) (leb 1 (length ks)) (t || eqb (length ks) 0) ≡ true → cond (k || (h || t)) ks [] ≡ ks
keys_used true h m t ks e = refl
keys_used false true m t ks e = refl
keys_used false false m true ks e = refl
keys_used false false m false ks e = no_keys ks e

role_used : (j d p a b c : Bool) (v : ℕ) → either j a (either d b (either p c (eqb v 0))) ≡ true → cond (j || (d || p)) v 0 ≡ v
role_used true d p a b c v e = refl
role_used false true p a b c v e = refl
role_used false false true a b c v e = refl
role_used false false false a b c v e = sym (eqb-true v 0 e)

clean_same : (f : Fields) (k : Kind) (x : NodeRecord) → x.kind ≡ k → Rules f x → length x.tail ≡ 32 → clean f k x ≡ x
unfolding clean
clean_same f k x e g long =
    let n : ℕ = length x.keys in
    let u : ℕ = tail_used f x.role x.width n in
    let st = number_used f.streams (between 1 64 x.streams) x.streams g.streams in
    let pr = bit_used f.preserve x.preserve g.preserve in
    let ha = bit_used f.hash x.hash g.hash in
    let un = bit_used f.unbounded x.unbounded g.unbounded in
    let fe = fetch_used f.fetch (not (f.limit && eqb (fetch_number x.fetch) no_fetch)) x.fetch g.fetch in
    let sk = number_free f.skip x.skip g.skip in
    let ks = keys_used f.needs_key f.hash x.hash f.noted x.keys
    (and_right (leb n 8) (either (f.needs_key || (f.hash && x.hash)) (leb 1 n) (f.noted || eqb n 0)) g.count) in
    let wi = number_used f.width (between (cond f.groups n 1) 32 x.width) x.width g.width in
    let ro = role_used f.join f.distribution f.prefix (leb x.role 7) (leb x.role 2) (leb 1 x.role && ltb x.role n) x.role
    g.role in
    let ta : fill 32 (take u x.tail) ≡ x.tail = ap (λ (m : ℕ). fill m (take u x.tail)) (sym long) ∙ fill_back u x.tail g.rest in
    λ i. record {
      kind = sym e i;
      children = x.children;
      streams = st i;
      preserve = pr i;
      hash = ha i;
      unbounded = un i;
      fetch = fe i;
      skip = sk i;
      keys = ks i;
      width = wi i;
      role = ro i;
      tail = ta i;
    }

-- ---- bytes from 32 on

four_bytes_lem : (l : List ℕ) → 4 ≤ length l → ((i : ℕ) → get_or l i 0 < 256) → four_bytes (le32 l 0) ≡ take 4 l
unfolding span
four_bytes_lem l h by = fourth (get_or l 0 0) (get_or l 1 0) (get_or l 2 0) (get_or l 3 0) (by 0) (by 1) (by 2) (by 3) (le32 l 0) refl
    ∙ sym (part_bytes l 4 0 (omega arith))

set_fits_lem : (l : List ℕ) → ((i : ℕ) → get_or l i 0 < 256) → ltb (le32 l 0) (2 ^ 32) ≡ true
set_fits_lem l by = lt-ltb (le32 l 0) 4294967296 (let a = by 0 in let b = by 1 in let c = by 2 in let d = by 3 in omega arith)

-- kind 13: byte 14 and the set
role_back : (v s : ℕ) → leb v 2 ≡ true → distribution_number (distribution_of v s) ≡ v
role_back zero s e = refl
role_back (suc zero) s e = refl
role_back (suc (suc zero)) s e = refl
role_back (suc (suc (suc v))) s e = absurd (let z = leb-true (suc (suc (suc v))) 2 e in omega arith)

set_back : (v : ℕ) (l : List ℕ) → leb v 2 ≡ true → 4 ≤ length l → ((i : ℕ) → get_or l i 0 < 256)
    → fill 32 (four_bytes (keyed_set (distribution_of v (le32 l 0)))) ≡ fill 32 (take (cond (eqb v 2) 4 0) l)
set_back zero l e h by = refl
set_back (suc zero) l e h by = refl
set_back (suc (suc zero)) l e h by = ap (fill 32) (four_bytes_lem l h by)
set_back (suc (suc (suc v))) l e h by = absurd (let z = leb-true (suc (suc (suc v))) 2 e in omega arith)

keyed_ok : (v : ℕ) (s : ℕ) → ltb s (2 ^ 32) ≡ true → (not (eqb v 2) || between 1 8 (ones s)) ≡ true → leb v 2 ≡ true
    → distribution_ok (distribution_of v s) ≡ true
keyed_ok zero s h e q = refl
keyed_ok (suc zero) s h e q = refl
keyed_ok (suc (suc zero)) s h e q = both (ltb s (2 ^ 32)) (between 1 8 (ones s)) h e
keyed_ok (suc (suc (suc v))) s h e q = absurd (let z = leb-true (suc (suc (suc v))) 2 q in omega arith)

-- ---- what a used field's rule says

used : (a : Bool) → (a || false) ≡ true → a ≡ true
used a e = sym (or_false a) ∙ e

few_are : (ks : List Key) (b : Bool) → leb (length ks) 8 && b ≡ true → few ks ≡ true
few_are ks b e = both (leb 0 (length ks)) (leb (length ks) 8) (leb-zero (length ks)) (and_left (leb (length ks) 8) b e)

some_are : (n : ℕ) → leb n 8 && (leb 1 n || false) ≡ true → between 1 8 n ≡ true
some_are n e = both (leb 1 n) (leb n 8) (used (leb 1 n) (and_right (leb n 8) (leb 1 n || false) e)) (and_left (leb n 8) (leb 1 n || false) e)

limited : (φ : Option ℕ) → (not (eqb (fetch_number φ) no_fetch) || false) ≡ true → is_some φ ≡ true
limited None e = no_false e
limited (Some n) e = refl

-- a repartition's keys: those of a hash, none of a round robin
hash_keys : (h : Bool) (ks : List Key) → leb (length ks) 8 && either h (leb 1 (length ks)) (eqb (length ks) 0) ≡ true → (h ≡ true → every plain ks ≡ true)
    → cond h (some ks && every plain ks) (eqb (length ks) 0) ≡ true
hash_keys true ks e p = both (some ks) (every plain ks) (some_are (length ks) e) (p refl)
hash_keys false ks e p = and_right (leb (length ks) 8) (eqb (length ks) 0) e

-- ---- kind by kind

-- a record with other keys, width, byte 14 and tail
edit : NodeRecord → List Key → ℕ → ℕ → List ℕ → NodeRecord
edit x ks w v t = record {
  kind = x.kind;
  children = x.children;
  streams = x.streams;
  preserve = x.preserve;
  hash = x.hash;
  unbounded = x.unbounded;
  fetch = x.fetch;
  skip = x.skip;
  keys = ks;
  width = w;
  role = v;
  tail = t;
}

module _ (x : NodeRecord) (long : length x.tail ≡ 32) (by : (i : ℕ) → get_or x.tail i 0 < 256) where
  F : Kind → Fields
  F k = fields_of (kind_number k)

  joined : (k : Kind) → length x.keys ≤ 8 → leb x.role 7 ≡ true
      → edit (clean (F k) k x) (map (λ k. k.key) (on_of x.keys x.tail)) 0 (join_number (join_type_of x.role))
      (fill 32 (map (λ k. k.other) (on_of x.keys x.tail)))
      ≡ edit (clean (F k) k x) x.keys 0 x.role (fill 32 (take (length x.keys) x.tail))
  joined k h e = λ i. edit (clean (F k) k x) (on_keys x.keys x.tail (omega arith) i) 0 (join_back x.role e i)
      (fill 32 (on_others x.keys x.tail (omega arith) i))

  record_clean : (k : Kind) → Rules (F k) x → record_of x.children (operator_of k x) ≡ clean (F k) k x
  unfolding clean edit F
  record_clean Source g = λ i. edit (clean (F Source) Source x) x.keys x.width 0 (fill 32 (four_bytes_lem x.tail (omega arith) by i))
  record_clean Filter g = refl
  record_clean Projection g =
      let w : x.width ≤ 32 = leb-true x.width 32 (and_right (leb 1 x.width) (leb x.width 32) (used (between 1 32 x.width) g.width)) in
      λ i. edit (clean (F Projection) Projection x) [] (length-take-le x.width x.tail (omega arith) i) 0 (fill 32 (take x.width x.tail))
  record_clean Union g = refl
  record_clean Repartition g = refl
  record_clean Coalesce g = refl
  record_clean Sort g = refl
  record_clean Merge g = refl
  record_clean GlobalLimit g = refl
  record_clean LocalLimit g = refl
  record_clean SortMergeJoin g = joined SortMergeJoin (few_keys (F SortMergeJoin) false (length x.keys) g.count) (used (leb x.role 7) g.role)
  record_clean HashJoin g = joined HashJoin (few_keys (F HashJoin) false (length x.keys) g.count) (used (leb x.role 7) g.role)
  record_clean OutputRequirement g =
      let v : leb x.role 2 ≡ true = used (leb x.role 2) g.role in
      λ i. edit (clean (F OutputRequirement) OutputRequirement x) x.keys 0 (role_back x.role (le32 x.tail 0) v i)
      (set_back x.role x.tail v (omega arith) by i)
  record_clean PartialSort g = refl
  record_clean Aggregate g =
      let n : ℕ = length x.keys in
      let w : n ≤ x.width = leb-true n x.width (and_left (leb n x.width) (leb x.width 32) (used (between n 32 x.width) g.width)) in
      let e : n + (x.width - n) ≡ x.width = omega arith in
      λ i. edit (clean (F Aggregate) Aggregate x) x.keys (e i) 0 (fill 32 [])

  -- the record of the operator that a record holds
  pub record_back : (k : Kind) → x.kind ≡ k → Rules (fields_of (kind_number k)) x → record_of x.children (operator_of k x) ≡ x
  unfolding F
  record_back k e g = record_clean k g ∙ clean_same (F k) k x e g long

  -- and the rules on operators hold of it
  module _ (fetch : fetch_ok x.fetch ≡ true) (skip : x.skip < 4294967296) where
    joined_fields : leb (length x.keys) 8 && (leb 1 (length x.keys) || false) ≡ true → some (on_of x.keys x.tail) ≡ true
    joined_fields e =
        let n : ℕ = length x.keys in
        let l : n ≤ 8 = leb-true n 8 (and_left (leb n 8) (leb 1 n || false) e) in
        ap (between 1 8) (length_on x.keys x.tail (omega arith)) ∙ some_are n e

    pub record_fields : (k : Kind) → Rules (fields_of (kind_number k)) x → fields_ok (operator_of k x) ≡ true
    record_fields Source g =
        ap₂ ◌&&◌ (both (between 1 32 x.width) (between 1 64 x.streams) (used (between 1 32 x.width) g.width)
        (used (between 1 64 x.streams) g.streams))
        (both (ltb (le32 x.tail 0) (2 ^ 32)) (few x.keys) (set_fits_lem x.tail by) (few_are x.keys _ g.count))
    record_fields Filter g = refl
    record_fields Projection g =
        let w : between 1 32 x.width ≡ true = used (between 1 32 x.width) g.width in
        let l : x.width ≤ 32 = leb-true x.width 32 (and_right (leb 1 x.width) (leb x.width 32) w) in
        ap (between 1 32) (length-take-le x.width x.tail (omega arith)) ∙ w
    record_fields Union g = refl
    record_fields Repartition g =
        both (between 1 64 x.streams) (cond x.hash (some x.keys && every plain x.keys) (eqb (length x.keys) 0))
        (used (between 1 64 x.streams) g.streams) (hash_keys x.hash x.keys g.count g.options)
    record_fields Coalesce g = fetch
    record_fields Sort g = both (some x.keys) (fetch_ok x.fetch) (some_are (length x.keys) g.count) fetch
    record_fields Merge g = both (some x.keys) (fetch_ok x.fetch) (some_are (length x.keys) g.count) fetch
    record_fields GlobalLimit g = ap₂ ◌&&◌ (lt-ltb x.skip (2 ^ 32) skip)
        (both (few x.keys) (fetch_ok x.fetch) (few_are x.keys _ g.count) fetch)
    record_fields LocalLimit g = ap₂ ◌&&◌ (limited x.fetch g.fetch) (both (few x.keys) (fetch_ok x.fetch) (few_are x.keys _ g.count) fetch)
    record_fields SortMergeJoin g = joined_fields g.count
    record_fields HashJoin g = both (some (on_of x.keys x.tail)) (every (λ k. plain k.key) (on_of x.keys x.tail)) (joined_fields g.count)
        (on_plain x.keys x.tail (g.options refl))
    record_fields OutputRequirement g =
        ap₂ ◌&&◌ (few_are x.keys _ g.count)
        (both (distribution_ok (distribution_of x.role (le32 x.tail 0))) (fetch_ok x.fetch)
        (keyed_ok x.role (le32 x.tail 0) (set_fits_lem x.tail by) g.set (used (leb x.role 2) g.role)) fetch)
    record_fields PartialSort g = both (some x.keys && fetch_ok x.fetch) (leb 1 x.role && ltb x.role (length x.keys))
        (both (some x.keys) (fetch_ok x.fetch) (some_are (length x.keys) g.count) fetch)
        (used (leb 1 x.role && ltb x.role (length x.keys)) g.role)
    record_fields Aggregate g =
        let n : ℕ = length x.keys in
        let w : between n 32 x.width ≡ true = used (between n 32 x.width) g.width in
        let l : n ≤ x.width = leb-true n x.width (and_left (leb n x.width) (leb x.width 32) w) in
        let e : n + (x.width - n) ≡ x.width = omega arith in
        both (some x.keys && every plain x.keys) (leb (n + (x.width - n)) 32)
        (both (some x.keys) (every plain x.keys) (some_are n g.count) (g.options refl))
        (ap (λ (v : ℕ). leb v 32) e ∙ and_right (leb n x.width) (leb x.width 32) w)

pub operator_kind : (k : Kind) (x : NodeRecord) → kind (operator_of k x) ≡ k
operator_kind Source x = refl
operator_kind Filter x = refl
operator_kind Projection x = refl
operator_kind Union x = refl
operator_kind Repartition x = refl
operator_kind Coalesce x = refl
operator_kind Sort x = refl
operator_kind Merge x = refl
operator_kind GlobalLimit x = refl
operator_kind LocalLimit x = refl
operator_kind SortMergeJoin x = refl
operator_kind HashJoin x = refl
operator_kind OutputRequirement x = refl
operator_kind PartialSort x = refl
operator_kind Aggregate x = refl
