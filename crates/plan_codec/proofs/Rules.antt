-- The rules of one record, field by field: those of its bytes are those of its fields.
use Rattle.std.specs.Prelude.{◌≡◌, refl, Bool, true, not, ◌||◌, leb, ltb, eqb, take, drop}
use Rattle.std.proofs.Math.Path.{sym, ap, ap₂}
use Rattle.std.proofs.Common.{◌∙◌, arith, take-append-drop, take_at, drop_at, drop-drop, get_or-take, get_or-drop, eqb-true, leb-true, ltb-true}
use Rattle.std.proofs.Math.Bool.{◌&&◌}
use mathlib.Core.List.{List, [], ◌∷◌, ◌++◌}
use Prim.Native.Nat.{ℕ, ◌+◌, ◌*◌, ◌≤◌, ◌<◌}
use Rattle.std.proofs.Math.ListN.{length, get_or}
use Rattle.scan.specs.Below.{all_at, all_intro, and_left, and_right}
use Rattle.scan.specs.Bytes.{part, zeros, le32}
use Rattle.scan.specs.ByteLaws.{length_part}
use Rattle.plan.specs.WellFormed.{between, every, plain, fetch_ok as fits}
use Rattle.plan_format.specs.declared.Fields.{Fields}
use Rattle.plan_format.specs.Blocks.{span}
use Rattle.plan_format.specs.Record.{either, mark, streams_ok, marks_ok, fetch_ok, skip_ok, key_count_ok, width_ok, byte14_ok, key_ok, keyed_set_ok, tail_used, head_ok, body_ok, key_slot_ok, key_slots_ok, tail_ok, rules_ok}
use Rattle.plan_format.specs.Writing.{four_bytes}
use Rattle.scan.specs.Words.{four_again}
use Rattle.plan_roundtrip.specs.Same.{fourth}
use Rattle.plan_codec.specs.NodeRecord.{NodeRecord}
use Rattle.plan_codec.specs.Decode.{keys_of, fetch_of, from_bytes}
use Rattle.plan_codec.specs.Encode.{fill, key_bytes, marks_byte, fetch_number, head_bytes, to_bytes}
use Rattle.plan_codec.proofs.Bits.{kind_back, number_back, Marks, marks_bits, bits_marks, fetch_back, fetch_fits, fetch_number_lem}
use Rattle.plan_codec.proofs.Fill.{length-fill, fill_at, part_bytes}
use Rattle.plan_codec.proofs.Keys.{Slot, length_bytes, length_keys, keys_back, bytes_back, bytes_plain, slots}

-- the keys of a record with the hash mark, where its kind has one, or of a hash join
abbrev pub plain_keys : Fields → NodeRecord → Bool
plain_keys f x = f.plain || (f.hash && x.hash)

-- what the rules ask of the fields that a kind has, and of those that it has not
pub record Rules (f : Fields) (x : NodeRecord) : Type 0 where
  pub streams : streams_ok f x.streams ≡ true
  pub preserve : (f.preserve || not x.preserve) ≡ true
  pub hash : (f.hash || not x.hash) ≡ true
  pub unbounded : (f.unbounded || not x.unbounded) ≡ true
  pub fetch : fetch_ok f (fetch_number x.fetch) ≡ true
  pub skip : skip_ok f x.skip ≡ true
  pub count : key_count_ok f (f.hash && x.hash) (length x.keys) ≡ true
  pub width : width_ok f (length x.keys) x.width ≡ true
  pub role : byte14_ok f (length x.keys) x.role ≡ true
  pub options : plain_keys f x ≡ true → every plain x.keys ≡ true
  pub set : keyed_set_ok f x.role (le32 x.tail 0) ≡ true
  pub rest : zeros (drop (tail_used f x.role x.width (length x.keys)) x.tail) ≡ true

pub few_keys : (f : Fields) (h : Bool) (n : ℕ) → key_count_ok f h n ≡ true → n ≤ 8
few_keys f h n e = leb-true n 8 (and_left (leb n 8) (either (f.needs_key || h) (leb 1 n) (f.noted || eqb n 0)) e)

-- ---- places in a record

le32-drop : (r : List ℕ) → le32 (drop 32 r) 0 ≡ le32 r 32
le32-drop r = λ i. get_or-drop 32 r 0 0 i + 256 * get_or-drop 32 r 1 0 i + 65536 * get_or-drop 32 r 2 0 i + 16777216 * get_or-drop 32 r 3 0 i

-- a byte of the keys
pub key_byte : (r : List ℕ) (j : ℕ) → j < 16 → get_or (part 16 16 r) j 0 ≡ get_or r (16 + j) 0
key_byte r j h = get_or-take 16 (drop 16 r) j 0 h ∙ get_or-drop 16 r j 0

slot_bytes : (p : Bool) (r : List ℕ) (i : ℕ) → i < 8 → key_ok p (get_or r 12 0) i (get_or (part 16 16 r) (2 * i) 0) (get_or (part 16 16 r) (2 * i + 1) 0)
    ≡ key_slot_ok p r i
slot_bytes p r i h =
    let e : 16 + (2 * i + 1) ≡ 17 + 2 * i = omega arith in
    ap₂ (key_ok p (get_or r 12 0) i) (key_byte r (2 * i) (omega arith)) (key_byte r (2 * i + 1) (omega arith) ∙ ap (λ (j : ℕ). get_or r j 0) e)

-- ---- from the fields to the bytes

module _ (x : NodeRecord) where
  pub keys_are : part 16 16 (to_bytes x) ≡ fill 16 (key_bytes x.keys)
  keys_are = take_at (fill 16 (key_bytes x.keys)) x.tail 16 (length-fill 16 (key_bytes x.keys))

  pub tail_is : drop 32 (to_bytes x) ≡ x.tail
  tail_is = drop_at (fill 16 (key_bytes x.keys)) x.tail 16 (length-fill 16 (key_bytes x.keys))

  pub set_is : le32 (to_bytes x) 32 ≡ le32 x.tail 0
  set_is = sym (le32-drop (to_bytes x)) ∙ ap (λ (l : List ℕ). le32 l 0) tail_is

  -- the same fields again
  pub fields_same : fits x.fetch ≡ true → x.skip < 4294967296 → length x.keys ≤ 8 → from_bytes (to_bytes x) ≡ x
  fields_same hf hs few =
      let k = number_back x.kind in
      let b = marks_bits x.preserve x.hash x.unbounded in
      let fe : fetch_of (le32 (to_bytes x) 4) ≡ x.fetch = ap fetch_of (four_again (fetch_number x.fetch) (fetch_fits x.fetch hf))
      ∙ fetch_number_lem x.fetch hf in
      let sk = four_again x.skip hs in
      let ks : keys_of (length x.keys) (part 16 16 (to_bytes x)) ≡ x.keys = ap (keys_of (length x.keys)) keys_are
      ∙ keys_back 16 x.keys (omega arith) in
      λ i. record {
        kind = k i;
        children = x.children;
        streams = x.streams;
        preserve = b.preserve i;
        hash = b.hash i;
        unbounded = b.unbounded i;
        fetch = fe i;
        skip = sk i;
        keys = ks i;
        width = x.width;
        role = x.role;
        tail = tail_is i;
      }

  module _ (f : Fields) (g : Rules f x) (hf : fetch_number x.fetch < 4294967296) (hs : x.skip < 4294967296) where
    head_ok_lem : head_ok f (to_bytes x) ≡ true
    head_ok_lem =
        let b : Marks x.preserve x.hash x.unbounded (marks_byte x.preserve x.hash x.unbounded) =
        marks_bits x.preserve x.hash x.unbounded in
        let marks : marks_ok f (marks_byte x.preserve x.hash x.unbounded) ≡ true =
        ap₂ ◌&&◌ b.small
        (ap₂ ◌&&◌ (ap (λ (t : Bool). f.preserve || not t) b.preserve ∙ g.preserve)
        (ap₂ ◌&&◌ (ap (λ (t : Bool). f.hash || not t) b.hash ∙ g.hash) (ap (λ (t : Bool). f.unbounded || not t) b.unbounded ∙ g.unbounded))) in
        ap₂ ◌&&◌ (ap₂ ◌&&◌ g.streams marks) (ap₂ ◌&&◌ (ap (fetch_ok f) (four_again (fetch_number x.fetch) hf) ∙ g.fetch)
        (ap (skip_ok f) (four_again x.skip hs) ∙ g.skip))

    body_ok_lem : body_ok f (to_bytes x) ≡ true
    body_ok_lem =
        let b = marks_bits x.preserve x.hash x.unbounded in
        ap₂ ◌&&◌ (ap₂ ◌&&◌ (ap (λ (t : Bool). key_count_ok f (f.hash && t) (length x.keys)) b.hash ∙ g.count) g.width) (ap₂ ◌&&◌ g.role refl)

    slots_ok : key_slots_ok (plain_keys f x) (to_bytes x) ≡ true
    unfolding key_slots_ok
    slots_ok =
        let n : ℕ = length x.keys in
        let l : List ℕ = key_bytes x.keys in
        let few = few_keys f (f.hash && x.hash) n g.count in
        let long = length_bytes x.keys in
        let byte : (j : ℕ) → get_or (part 16 16 (to_bytes x)) j 0 ≡ get_or l j 0 = λ j. ap (λ (l : List ℕ). get_or l j 0) keys_are
        ∙ fill_at 16 l j (omega arith) in
        all_intro (key_slot_ok (plain_keys f x) (to_bytes x)) 8
        (λ i h. sym (slot_bytes (plain_keys f x) (to_bytes x) i h) ∙ ap₂ (key_ok (plain_keys f x) n i) (byte (2 * i)) (byte (2 * i + 1))
        ∙ slots (plain_keys f x) x.keys g.options i)

    tail_ok_lem : tail_ok f (to_bytes x) ≡ true
    tail_ok_lem =
        let u : ℕ = tail_used f x.role x.width (length x.keys) in
        ap₂ ◌&&◌ (ap (keyed_set_ok f x.role) set_is ∙ g.set)
        (ap zeros (sym (drop-drop u 32 (to_bytes x)) ∙ ap (drop u) tail_is) ∙ g.rest)

    pub rules_bytes : rules_ok f (to_bytes x) ≡ true
    unfolding rules_ok
    rules_bytes =
        let b = marks_bits x.preserve x.hash x.unbounded in
        ap₂ ◌&&◌ head_ok_lem (ap₂ ◌&&◌ body_ok_lem (ap₂ ◌&&◌ (ap (λ (t : Bool). key_slots_ok (f.plain || (f.hash && t)) (to_bytes x)) b.hash ∙ slots_ok) tail_ok_lem))

-- ---- from the bytes to the fields

module _ (f : Fields) (r : List ℕ) (long : length r ≡ 64) (e : rules_ok f r ≡ true) where
  abbrev n : ℕ
  n = get_or r 12 0

  abbrev h : Bool
  h = f.hash && mark (get_or r 3 0) 1

  head : head_ok f r ≡ true
  unfolding rules_ok
  head = and_left (head_ok f r) (body_ok f r && (key_slots_ok (f.plain || h) r && tail_ok f r)) e

  body : body_ok f r ≡ true
  unfolding rules_ok
  body = and_left (body_ok f r) (key_slots_ok (f.plain || h) r && tail_ok f r)
      (and_right (head_ok f r) (body_ok f r && (key_slots_ok (f.plain || h) r && tail_ok f r)) e)

  keys_tail : (key_slots_ok (f.plain || h) r && tail_ok f r) ≡ true
  unfolding rules_ok
  keys_tail = and_right (body_ok f r) (key_slots_ok (f.plain || h) r && tail_ok f r)
      (and_right (head_ok f r) (body_ok f r && (key_slots_ok (f.plain || h) r && tail_ok f r)) e)

  marks : marks_ok f (get_or r 3 0) ≡ true
  marks =
      and_right (streams_ok f (get_or r 2 0)) (marks_ok f (get_or r 3 0))
      (and_left (streams_ok f (get_or r 2 0) && marks_ok f (get_or r 3 0)) (fetch_ok f (le32 r 4) && skip_ok f (le32 r 8)) head)

  small_marks : get_or r 3 0 < 8
  small_marks = ltb-true (get_or r 3 0) 8
      (and_left (ltb (get_or r 3 0) 8)
      ((f.preserve || not (mark (get_or r 3 0) 0)) && ((f.hash || not (mark (get_or r 3 0) 1)) && (f.unbounded || not (mark (get_or r 3 0) 2)))) marks)

  counts : (key_count_ok f h n && width_ok f n (get_or r 13 0)) ≡ true
  counts = and_left (key_count_ok f h n && width_ok f n (get_or r 13 0)) (byte14_ok f n (get_or r 14 0) && eqb (get_or r 15 0) 0) body

  last : (byte14_ok f n (get_or r 14 0) && eqb (get_or r 15 0) 0) ≡ true
  last = and_right (key_count_ok f h n && width_ok f n (get_or r 13 0)) (byte14_ok f n (get_or r 14 0) && eqb (get_or r 15 0) 0) body

  few : n ≤ 8
  few = few_keys f h n (and_left (key_count_ok f h n) (width_ok f n (get_or r 13 0)) counts)

  long_keys : length (part 16 16 r) ≡ 16
  long_keys = length_part r 16 16 (omega arith)

  key_count : length (keys_of n (part 16 16 r)) ≡ n
  key_count = length_keys n (part 16 16 r) (omega (arith, few, long_keys))

  slot_at : (i : ℕ) → i < 8 → Slot (f.plain || h) n (part 16 16 r) i
  unfolding key_slots_ok
  slot_at i q = slot_bytes (f.plain || h) r i q ∙ all_at (key_slot_ok (f.plain || h) r) 8 (and_left (key_slots_ok (f.plain || h) r) (tail_ok f r) keys_tail) i
      q

  keys_same : fill 16 (key_bytes (keys_of n (part 16 16 r))) ≡ part 16 16 r
  keys_same = ap (λ (k : ℕ). fill k (key_bytes (keys_of n (part 16 16 r)))) (sym long_keys) ∙ bytes_back (f.plain || h) n 8 (part 16 16 r) long_keys slot_at

  pub bytes_rules : Rules f (from_bytes r)
  bytes_rules =
      let m : ℕ = get_or r 3 0 in
      let u : ℕ = tail_used f (get_or r 14 0) (get_or r 13 0) n in
      let three = and_right (ltb m 8) ((f.preserve || not (mark m 0)) && ((f.hash || not (mark m 1)) && (f.unbounded || not (mark m 2)))) marks in
      let two = and_right (f.preserve || not (mark m 0)) ((f.hash || not (mark m 1)) && (f.unbounded || not (mark m 2))) three in
      let tops = and_right (streams_ok f (get_or r 2 0) && marks_ok f m) (fetch_ok f (le32 r 4) && skip_ok f (le32 r 8)) head in
      let tail = and_right (key_slots_ok (f.plain || h) r) (tail_ok f r) keys_tail in
      record {
        streams = and_left (streams_ok f (get_or r 2 0)) (marks_ok f m)
            (and_left (streams_ok f (get_or r 2 0) && marks_ok f m) (fetch_ok f (le32 r 4) && skip_ok f (le32 r 8)) head);
        preserve = and_left (f.preserve || not (mark m 0)) ((f.hash || not (mark m 1)) && (f.unbounded || not (mark m 2))) three;
        hash = and_left (f.hash || not (mark m 1)) (f.unbounded || not (mark m 2)) two;
        unbounded = and_right (f.hash || not (mark m 1)) (f.unbounded || not (mark m 2)) two;
        fetch = ap (fetch_ok f) (fetch_back (le32 r 4)) ∙ and_left (fetch_ok f (le32 r 4)) (skip_ok f (le32 r 8)) tops;
        skip = and_right (fetch_ok f (le32 r 4)) (skip_ok f (le32 r 8)) tops;
        count = ap (key_count_ok f h) key_count ∙ and_left (key_count_ok f h n) (width_ok f n (get_or r 13 0)) counts;
        width = ap (λ (k : ℕ). width_ok f k (get_or r 13 0)) key_count ∙ and_right (key_count_ok f h n) (width_ok f n (get_or r 13 0)) counts;
        role = ap (λ (k : ℕ). byte14_ok f k (get_or r 14 0)) key_count ∙ and_left (byte14_ok f n (get_or r 14 0)) (eqb (get_or r 15 0) 0) last;
        options = λ q. bytes_plain n 8 (part 16 16 r) long_keys (λ i t. rw q at (slot_at i t));
        set = ap (keyed_set_ok f (get_or r 14 0)) (le32-drop r) ∙ and_left (keyed_set_ok f (get_or r 14 0) (le32 r 32)) (zeros (drop (32 + u) r)) tail;
        rest = ap (λ (k : ℕ). zeros (drop (tail_used f (get_or r 14 0) (get_or r 13 0) k) (drop 32 r))) key_count ∙ ap zeros (drop-drop u 32 r)
            ∙ and_right (keyed_set_ok f (get_or r 14 0) (le32 r 32)) (zeros (drop (32 + u) r)) tail;
      }

  -- the same bytes again
  module _ (by : (i : ℕ) → get_or r i 0 < 256) (known : between 1 15 (get_or r 0 0) ≡ true) where
    four_same : (a : ℕ) → four_bytes (le32 r a) ≡ get_or r a 0 ∷ get_or r (a + 1) 0 ∷ get_or r (a + 2) 0 ∷ get_or r (a + 3) 0 ∷ []
    four_same a = fourth (get_or r a 0) (get_or r (a + 1) 0) (get_or r (a + 2) 0) (get_or r (a + 3) 0) (by a) (by (a + 1)) (by (a + 2)) (by (a + 3)) (le32 r a) refl

    head_same : head_bytes (from_bytes r) ≡ take 16 r
    unfolding span
    head_same =
        let k = kind_back (get_or r 0 0) known in
        let m = bits_marks (get_or r 3 0) small_marks in
        let fetch = ap four_bytes (fetch_back (le32 r 4)) ∙ four_same 4 in
        let skip = four_same 8 in
        let z : 0 ≡ get_or r 15 0 = sym (eqb-true (get_or r 15 0) 0 (and_right (byte14_ok f n (get_or r 14 0)) (eqb (get_or r 15 0) 0) last)) in
        (λ i. (k i ∷ get_or r 1 0 ∷ get_or r 2 0 ∷ m i ∷ []) ++ (fetch i ++ (skip i ++ (key_count i ∷ get_or r 13 0 ∷ get_or r 14 0 ∷ z i ∷ []))))
        ∙ sym (part_bytes r 16 0 (omega arith))

    pub bytes_same : to_bytes (from_bytes r) ≡ r
    bytes_same =
        ap₂ ◌++◌ head_same (ap₂ ◌++◌ keys_same (sym (drop-drop 16 16 r)) ∙ take-append-drop 16 (drop 16 r))
        ∙ take-append-drop 16 r
