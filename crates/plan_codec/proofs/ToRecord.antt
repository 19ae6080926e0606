-- The record of an operator obeys the rules of its kind, and holds that operator.
use Rattle.std.specs.Prelude.{◌≡◌, refl, Bool, true, false, cond, not, ◌&&◌, ◌||◌, List, [], ◌∷◌, map, ℕ, ◌+◌, ◌^◌, ◌≤◌, ◌<◌, leb, ltb, eqb, length, drop, Option, Some, None, is_some}
use Rattle.std.proofs.Common.{ap, ap₂, ◌∙◌, arith, eqb-true, leb-true, ltb-true, le-leb, ne_eqb}
use Rattle.std.specs.Int.Count.{ones}
use Rattle.std.proofs.lemmas.List.{length-map}
use Rattle.row_order.specs.Iso.{Key}
use Rattle.scan.specs.Below.{and_left, and_right, or_false}
use Rattle.scan.specs.Bytes.{zeros, le32}
use Rattle.plan.specs.Op.{On, Op, source, filter, projection, union, repartition, coalesce, sort_op, merge_op, global_limit, local_limit, sort_merge_join, hash_join, output_requirement, partial_sort, aggregate, kind}
use Rattle.plan.specs.Numbers.{kind_number, join_number, distribution_number, no_fetch}
use Rattle.plan.specs.WellFormed.{between, every, plain, few, some, distribution_ok, fetch_ok, fields_ok}
use Rattle.plan.specs.declared.Distribution.{Distribution}
use Rattle.plan.specs.declared.Distribution.TheVariants.{Unspecified, Single, Keyed}
use Rattle.plan_format.specs.declared.Fields.{Fields}
use Rattle.plan_format.specs.Fields.{fields_of}
use Rattle.plan_format.specs.Record.{either}
use Rattle.plan_format.specs.Writing.{four_bytes}
use Rattle.scan.specs.Words.{four_again}
use Rattle.plan_codec.specs.NodeRecord.{NodeRecord}
use Rattle.plan_codec.specs.Decode.{distribution_of, operator_of}
use Rattle.plan_codec.specs.Encode.{fill, fetch_number, keyed_set, record_of}
use Rattle.plan_codec.proofs.Bits.{no_false, both, join_number_lem}
use Rattle.plan_codec.proofs.Fill.{length-fill, fill-take, fill_rest}
use Rattle.plan_codec.proofs.Keys.{on_back, plain_on}
use Rattle.plan_codec.proofs.Rules.{Rules, few_keys}

-- ---- what the rules on operators say

keep : (a : Bool) → a ≡ true → (a || false) ≡ true
keep a e = or_false a ∙ e

-- keys that may be there
free : {A : Type 0} (ks : List A) → few ks ≡ true → leb (length ks) 8 && true ≡ true
free ks e = both (leb (length ks) 8) true (and_right (leb 0 (length ks)) (leb (length ks) 8) e) refl

-- keys that must be there
needed : (n : ℕ) → between 1 8 n ≡ true → leb n 8 && (leb 1 n || false) ≡ true
needed n e = both (leb n 8) (leb 1 n || false) (and_right (leb 1 n) (leb n 8) e) (keep (leb 1 n) (and_left (leb 1 n) (leb n 8) e))

hashed_count : (h : Bool) (ks : List Key) → cond h (some ks && every plain ks) (eqb (length ks) 0) ≡ true → leb (length ks) 8
    && either h (leb 1 (length ks)) (eqb (length ks) 0) ≡ true
hashed_count true ks e = needed (length ks) (and_left (some ks) (every plain ks) e)
hashed_count false [] e = refl
hashed_count false (k ∷ ks) e = absurd (let z = eqb-true (length (k ∷ ks)) 0 e in omega arith)

hashed_plain : (h : Bool) (ks : List Key) → cond h (some ks && every plain ks) (eqb (length ks) 0) ≡ true → h ≡ true → every plain ks ≡ true
hashed_plain true ks e q = and_right (some ks) (every plain ks) e
hashed_plain false ks e q = no_false q

limited : (φ : Option ℕ) → is_some φ ≡ true → fetch_ok φ ≡ true → (not (eqb (fetch_number φ) no_fetch) || false) ≡ true
limited None e h = no_false e
limited (Some n) e h = let z : eqb n no_fetch ≡ false = ne_eqb n no_fetch (λ q. absurd (let l = ltb-true n no_fetch h in omega arith)) in rw z

-- ---- kind 13: byte 14 and the set

role_rule : (d : Distribution) → (leb (distribution_number d) 2 || false) ≡ true
role_rule Unspecified = refl
role_rule Single = refl
role_rule (Keyed s) = refl

pub set_is : (s : ℕ) → ltb s (2 ^ 32) ≡ true → le32 (fill 32 (four_bytes s)) 0 ≡ s
set_is s e = four_again s (ltb-true s (2 ^ 32) e)

set_rule : (d : Distribution) → distribution_ok d ≡ true
    → (not (eqb (distribution_number d) 2) || between 1 8 (ones (le32 (fill 32 (four_bytes (keyed_set d))) 0))) ≡ true
set_rule Unspecified e = refl
set_rule Single e = refl
set_rule (Keyed s) e = ap (λ (x : ℕ). between 1 8 (ones x)) (set_is s (and_left (ltb s (2 ^ 32)) (between 1 8 (ones s)) e)) ∙ and_right (ltb s (2 ^ 32))
    (between 1 8 (ones s)) e

rest_rule : (d : Distribution) → zeros (drop (cond (eqb (distribution_number d) 2) 4 0) (fill 32 (four_bytes (keyed_set d)))) ≡ true
rest_rule Unspecified = refl
rest_rule Single = refl
rest_rule (Keyed s) = refl

distribution_back : (d : Distribution) → distribution_ok d ≡ true → distribution_of (distribution_number d) (le32 (fill 32 (four_bytes (keyed_set d))) 0) ≡ d
distribution_back Unspecified e = refl
distribution_back Single e = refl
distribution_back (Keyed s) e = ap Keyed (set_is s (and_left (ltb s (2 ^ 32)) (between 1 8 (ones s)) e))

-- ---- the rules of its kind

-- a join's, whose keys are n of each side
on_count : {A B : Type 0} (f : A → B) (l : List A) → some l ≡ true → leb (length (map f l)) 8 && (leb 1 (length (map f l)) || false) ≡ true
on_count f l e = ap (λ (n : ℕ). leb n 8 && (leb 1 n || false)) (length-map l f) ∙ needed (length l) e

on_rest : (on : List On) → zeros (drop (length (map (λ k. k.key) on)) (fill 32 (map (λ k. k.other) on))) ≡ true
on_rest on = fill_rest 32 (length (map (λ k. k.key) on)) (map (λ k. k.other) on) (let a = length-map on (λ k. k.key) in
    let b = length-map on (λ k. k.other) in omega arith)

pub rules_of : (k : ℕ) (o : Op) → fields_ok o ≡ true → Rules (fields_of (kind_number (kind o))) (record_of k o)
rules_of k (source s) e =
    let a = and_left (between 1 32 s.width && between 1 64 s.streams) (ltb s.constants (2 ^ 32) && few s.keys) e in
    let b = and_right (between 1 32 s.width && between 1 64 s.streams) (ltb s.constants (2 ^ 32) && few s.keys) e in
    record {
      streams = keep (between 1 64 s.streams) (and_right (between 1 32 s.width) (between 1 64 s.streams) a);
      preserve = refl;
      hash = refl;
      unbounded = refl;
      fetch = refl;
      skip = refl;
      count = free s.keys (and_right (ltb s.constants (2 ^ 32)) (few s.keys) b);
      width = keep (between 1 32 s.width) (and_left (between 1 32 s.width) (between 1 64 s.streams) a);
      role = refl;
      options = λ q. no_false q;
      set = refl;
      rest = refl;
    }
rules_of k filter e = record {
  streams = refl;
  preserve = refl;
  hash = refl;
  unbounded = refl;
  fetch = refl;
  skip = refl;
  count = refl;
  width = refl;
  role = refl;
  options = λ q. no_false q;
  set = refl;
  rest = refl;
}
rules_of k (projection cols) e = record {
  streams = refl;
  preserve = refl;
  hash = refl;
  unbounded = refl;
  fetch = refl;
  skip = refl;
  count = refl;
  width = keep (between 1 32 (length cols)) e;
  role = refl;
  options = λ q. no_false q;
  set = refl;
  rest = fill_rest 32 (length cols) cols (omega arith);
}
rules_of k union e = record {
  streams = refl;
  preserve = refl;
  hash = refl;
  unbounded = refl;
  fetch = refl;
  skip = refl;
  count = refl;
  width = refl;
  role = refl;
  options = λ q. no_false q;
  set = refl;
  rest = refl;
}
rules_of k (repartition p n h ks) e =
    let c = and_right (between 1 64 n) (cond h (some ks && every plain ks) (eqb (length ks) 0)) e in
    record {
      streams = keep (between 1 64 n) (and_left (between 1 64 n) (cond h (some ks && every plain ks) (eqb (length ks) 0)) e);
      preserve = refl;
      hash = refl;
      unbounded = refl;
      fetch = refl;
      skip = refl;
      count = hashed_count h ks c;
      width = refl;
      role = refl;
      options = hashed_plain h ks c;
      set = refl;
      rest = refl;
    }
rules_of k (coalesce f) e = record {
  streams = refl;
  preserve = refl;
  hash = refl;
  unbounded = refl;
  fetch = refl;
  skip = refl;
  count = refl;
  width = refl;
  role = refl;
  options = λ q. no_false q;
  set = refl;
  rest = refl;
}
rules_of k (sort_op p ks f) e = record {
  streams = refl;
  preserve = refl;
  hash = refl;
  unbounded = refl;
  fetch = refl;
  skip = refl;
  count = needed (length ks) (and_left (some ks) (fetch_ok f) e);
  width = refl;
  role = refl;
  options = λ q. no_false q;
  set = refl;
  rest = refl;
}
rules_of k (merge_op ks f) e = record {
  streams = refl;
  preserve = refl;
  hash = refl;
  unbounded = refl;
  fetch = refl;
  skip = refl;
  count = needed (length ks) (and_left (some ks) (fetch_ok f) e);
  width = refl;
  role = refl;
  options = λ q. no_false q;
  set = refl;
  rest = refl;
}
rules_of k (global_limit s f note) e = record {
  streams = refl;
  preserve = refl;
  hash = refl;
  unbounded = refl;
  fetch = refl;
  skip = refl;
  count = free note (and_left (few note) (fetch_ok f) (and_right (ltb s (2 ^ 32)) (few note && fetch_ok f) e));
  width = refl;
  role = refl;
  options = λ q. no_false q;
  set = refl;
  rest = refl;
}
rules_of k (local_limit f note) e =
    let b = and_right (is_some f) (few note && fetch_ok f) e in
    record {
      streams = refl;
      preserve = refl;
      hash = refl;
      unbounded = refl;
      fetch = limited f (and_left (is_some f) (few note && fetch_ok f) e)
          (and_right (few note) (fetch_ok f) b);
      skip = refl;
      count = free note (and_left (few note) (fetch_ok f) b);
      width = refl;
      role = refl;
      options = λ q. no_false q;
      set = refl;
      rest = refl;
    }
rules_of k (sort_merge_join t on) e = record {
  streams = refl;
  preserve = refl;
  hash = refl;
  unbounded = refl;
  fetch = refl;
  skip = refl;
  count = on_count (λ k. k.key) on e;
  width = refl;
  role = keep (leb (join_number t) 7) (join_number_lem t).1;
  options = λ q. no_false q;
  set = refl;
  rest = on_rest on;
}
rules_of k (hash_join t on) e = record {
  streams = refl;
  preserve = refl;
  hash = refl;
  unbounded = refl;
  fetch = refl;
  skip = refl;
  count = on_count (λ k. k.key) on (and_left (some on) (every (λ k. plain k.key) on) e);
  width = refl;
  role = keep (leb (join_number t) 7) (join_number_lem t).1;
  options = λ q. plain_on on (and_right (some on) (every (λ k. plain k.key) on) e);
  set = refl;
  rest = on_rest on;
}
rules_of k (output_requirement ks d f) e =
    let b = and_left (distribution_ok d) (fetch_ok f) (and_right (few ks) (distribution_ok d && fetch_ok f) e) in
    record {
      streams = refl;
      preserve = refl;
      hash = refl;
      unbounded = refl;
      fetch = refl;
      skip = refl;
      count = free ks (and_left (few ks) (distribution_ok d && fetch_ok f) e);
      width = refl;
      role = role_rule d;
      options = λ q. no_false q;
      set = set_rule d b;
      rest = rest_rule d;
    }
rules_of k (partial_sort p ks n f) e =
    let a = and_left (some ks && fetch_ok f) (leb 1 n && ltb n (length ks)) e in
    record {
      streams = refl;
      preserve = refl;
      hash = refl;
      unbounded = refl;
      fetch = refl;
      skip = refl;
      count = needed (length ks) (and_left (some ks) (fetch_ok f) a);
      width = refl;
      role = keep (leb 1 n && ltb n (length ks)) (and_right (some ks && fetch_ok f) (leb 1 n && ltb n (length ks)) e);
      options = λ q. no_false q;
      set = refl;
      rest = refl;
    }
rules_of k (aggregate ks n) e =
    let a = and_left (some ks && every plain ks) (leb (length ks + n) 32) e in
    record {
      streams = refl;
      preserve = refl;
      hash = refl;
      unbounded = refl;
      fetch = refl;
      skip = refl;
      count = needed (length ks) (and_left (some ks) (every plain ks) a);
      width = keep (between (length ks) 32 (length ks + n)) (both (leb (length ks) (length ks + n)) (leb (length ks + n) 32)
          (le-leb (length ks) (length ks + n) (omega arith)) (and_right (some ks && every plain ks) (leb (length ks + n) 32) e));
      role = refl;
      options = λ q. and_right (some ks) (every plain ks) a;
      set = refl;
      rest = refl;
    }

pub few_of : (k : ℕ) (o : Op) → fields_ok o ≡ true → length (record_of k o).keys ≤ 8
few_of k o e = let f : Fields = fields_of (kind_number (kind o)) in
    few_keys f (f.hash && (record_of k o).hash) (length (record_of k o).keys) (rules_of k o e).count

-- ---- the operator that its record holds

few_on : (on : List On) → length (map (λ k. k.key) on) ≤ 8 → length on ≤ 32
few_on on e = let a = length-map on (λ k. k.key) in omega arith

pub operator_back : (k : ℕ) (o : Op) → fields_ok o ≡ true → operator_of (kind o) (record_of k o) ≡ o
operator_back k (source s) e =
    ap (λ (x : ℕ). source (record { width = s.width; streams = s.streams; constants = x; keys = s.keys; unbounded = s.unbounded }))
    (set_is s.constants (and_left (ltb s.constants (2 ^ 32)) (few s.keys)
    (and_right (between 1 32 s.width && between 1 64 s.streams) (ltb s.constants (2 ^ 32) && few s.keys) e)))
operator_back k filter e = refl
operator_back k (projection cols) e =
    ap projection (fill-take 32 cols (leb-true (length cols) 32 (and_right (leb 1 (length cols)) (leb (length cols) 32) e)))
operator_back k union e = refl
operator_back k (repartition p n h ks) e = refl
operator_back k (coalesce f) e = refl
operator_back k (sort_op p ks f) e = refl
operator_back k (merge_op ks f) e = refl
operator_back k (global_limit s f note) e = refl
operator_back k (local_limit f note) e = refl
operator_back k (sort_merge_join t on) e = ap₂ sort_merge_join (join_number_lem t).0 (on_back 32 on (few_on on (few_of k (sort_merge_join t on) e)))
operator_back k (hash_join t on) e = ap₂ hash_join (join_number_lem t).0 (on_back 32 on (few_on on (few_of k (hash_join t on) e)))
operator_back k (output_requirement ks d f) e =
    ap (λ (x : Distribution). output_requirement ks x f)
    (distribution_back d (and_left (distribution_ok d) (fetch_ok f) (and_right (few ks) (distribution_ok d && fetch_ok f) e)))
operator_back k (partial_sort p ks n f) e = refl
operator_back k (aggregate ks n) e = ap (aggregate ks) (omega arith)

pub kind_of_lem : (k : ℕ) (o : Op) → (record_of k o).kind ≡ kind o
kind_of_lem k (source s) = refl
kind_of_lem k filter = refl
kind_of_lem k (projection cols) = refl
kind_of_lem k union = refl
kind_of_lem k (repartition p n h ks) = refl
kind_of_lem k (coalesce f) = refl
kind_of_lem k (sort_op p ks f) = refl
kind_of_lem k (merge_op ks f) = refl
kind_of_lem k (global_limit s f note) = refl
kind_of_lem k (local_limit f note) = refl
kind_of_lem k (sort_merge_join t on) = refl
kind_of_lem k (hash_join t on) = refl
kind_of_lem k (output_requirement ks d f) = refl
kind_of_lem k (partial_sort p ks n f) = refl
kind_of_lem k (aggregate ks n) = refl

pub children_of : (k : ℕ) (o : Op) → (record_of k o).children ≡ k
children_of k (source s) = refl
children_of k filter = refl
children_of k (projection cols) = refl
children_of k union = refl
children_of k (repartition p n h ks) = refl
children_of k (coalesce f) = refl
children_of k (sort_op p ks f) = refl
children_of k (merge_op ks f) = refl
children_of k (global_limit s f note) = refl
children_of k (local_limit f note) = refl
children_of k (sort_merge_join t on) = refl
children_of k (hash_join t on) = refl
children_of k (output_requirement ks d f) = refl
children_of k (partial_sort p ks n f) = refl
children_of k (aggregate ks n) = refl

-- ---- its numbers fit their bytes

pub record Fits (x : NodeRecord) : Type 0 where
  pub fetch : fetch_ok x.fetch ≡ true
  pub skip : x.skip < 4294967296
  pub tail : length x.tail ≡ 32

pub fits_of : (k : ℕ) (o : Op) → fields_ok o ≡ true → Fits (record_of k o)
fits_of k (source s) e = record { fetch = refl; skip = omega arith; tail = refl }
fits_of k filter e = record { fetch = refl; skip = omega arith; tail = refl }
fits_of k (projection cols) e = record { fetch = refl; skip = omega arith; tail = length-fill 32 cols }
fits_of k union e = record { fetch = refl; skip = omega arith; tail = refl }
fits_of k (repartition p n h ks) e = record { fetch = refl; skip = omega arith; tail = refl }
fits_of k (coalesce f) e = record { fetch = e; skip = omega arith; tail = refl }
fits_of k (sort_op p ks f) e = record { fetch = and_right (some ks) (fetch_ok f) e; skip = omega arith; tail = refl }
fits_of k (merge_op ks f) e = record { fetch = and_right (some ks) (fetch_ok f) e; skip = omega arith; tail = refl }
fits_of k (global_limit s f note) e = record {
  fetch = and_right (few note) (fetch_ok f) (and_right (ltb s (2 ^ 32)) (few note && fetch_ok f) e);
  skip = ltb-true s (2 ^ 32) (and_left (ltb s (2 ^ 32)) (few note && fetch_ok f) e);
  tail = refl;
}
fits_of k (local_limit f note) e = record {
  fetch = and_right (few note) (fetch_ok f) (and_right (is_some f) (few note && fetch_ok f) e);
  skip = omega arith;
  tail = refl;
}
fits_of k (sort_merge_join t on) e = record { fetch = refl; skip = omega arith; tail = length-fill 32 (map (λ k. k.other) on) }
fits_of k (hash_join t on) e = record { fetch = refl; skip = omega arith; tail = length-fill 32 (map (λ k. k.other) on) }
fits_of k (output_requirement ks d f) e = record {
  fetch = and_right (distribution_ok d) (fetch_ok f) (and_right (few ks) (distribution_ok d && fetch_ok f) e);
  skip = omega arith;
  tail = refl;
}
fits_of k (partial_sort p ks n f) e = record {
  fetch = and_right (some ks) (fetch_ok f) (and_left (some ks && fetch_ok f) (leb 1 n && ltb n (length ks)) e);
  skip = omega arith;
  tail = refl;
}
fits_of k (aggregate ks n) e = record { fetch = refl; skip = omega arith; tail = refl }
