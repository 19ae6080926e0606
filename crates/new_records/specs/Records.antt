-- The bytes of new nodes are their operators' records. Assumes nothing.
use Rattle.std.specs.Prelude.{◌≡◌, refl, Bool, true, false, List, [], ◌∷◌, ◌++◌, ℕ, zero, suc, ◌+◌, ◌-◌, ◌*◌, ◌/◌, ◌%◌, ◌≤◌, ◌<◌, eqb, length, get_or, drop, set, replicate, Option}
use Rattle.std.proofs.Common.{sym, ap, ap₂, ◌∙◌, append_assoc, arith, length-append, take_at, drop_at}
use Rattle.row_order.specs.Iso.{Key}
use Rattle.row_order.specs.Packed.{key_of}
use Rattle.scan.specs.Parts.{splice, splice-length}
use Rattle.plan.specs.Op.{Op, source, filter, projection, union, repartition, coalesce, sort_op, merge_op, global_limit, local_limit, sort_merge_join, hash_join, output_requirement, partial_sort, aggregate}
use Rattle.plan.specs.Numbers.{code}
use Rattle.semantics.specs.Properties.{remark}
use Rattle.scan.specs.Bytes.{one_if}
use Rattle.plan_codec.specs.Encode.{fill, marks_byte, key_bytes, options_byte, fetch_number, encode}
use Rattle.plan_codec.specs.Decode.{decode}
use Rattle.plan_codec.proofs.Fill.{length-fill}
use Rattle.plan_codec.proofs.Keys.{length_bytes}
use Rattle.key_lists.specs.declared.Keys.{Keys}
use Rattle.key_lists.specs.Keys.{keys_of}
use Rattle.key_lists.specs.Lists.{length_keys}
use Rattle.new_records.specs.Bytes.{head_of, new_bytes}
use Rattle.record_fields.specs.Encoded.{code_byte}

-- ---- the records are these

pub merge_is : (ks : List Key) (f : Option ℕ) → new_bytes 8 0 f 0 ks 0 ≡ encode 1 (merge_op ks f)
unfolding encode
merge_is ks f = refl

pub sort_is : (p : Bool) (ks : List Key) (f : Option ℕ) → new_bytes 7 (one_if p) f 0 ks 0 ≡ encode 1 (sort_op p ks f)
unfolding encode
sort_is true ks f = refl
sort_is false ks f = refl

pub coalesce-is : (f : Option ℕ) → new_bytes 6 0 f 0 [] 0 ≡ encode 1 (coalesce f)
unfolding encode
coalesce-is f = refl

pub local_is : (f : Option ℕ) (note : List Key) → new_bytes 10 0 f 0 note 0 ≡ encode 1 (local_limit f note)
unfolding encode
local_is f note = refl

pub global_is : (s : ℕ) (f : Option ℕ) (note : List Key) → new_bytes 9 0 f s note 0 ≡ encode 1 (global_limit s f note)
unfolding encode
global_is s f note = refl

pub partial_is : (p : Bool) (ks : List Key) (n : ℕ) (f : Option ℕ) → new_bytes 14 (one_if p) f 0 ks n ≡ encode 1 (partial_sort p ks n f)
unfolding encode
partial_is true ks n f = refl
partial_is false ks n f = refl

-- ---- the row of keys

num_bit : (x : ℕ) → x < 2 → one_if (eqb x 1) ≡ x
num_bit zero h = refl
num_bit (suc zero) h = refl
num_bit (suc (suc x)) h = absurd (omega arith)

options : (k : ℕ) → options_byte (key_of k) ≡ k / 32 % 4
options k =
    let a = num_bit (k / 32 % 2) (omega arith) in
    let b = num_bit (k / 64 % 2) (omega arith) in
    let c : k / 64 ≡ k / 32 / 2 = omega arith in
    ap₂ (λ x y. x + 2 * y) a b ∙ omega arith

bytes_more : (ks : List Key) (k : Key) → key_bytes (ks ++ (k ∷ [])) ≡ key_bytes ks ++ (k.col ∷ options_byte k ∷ [])
bytes_more [] k = refl
bytes_more (l ∷ ks) k = ap (λ r. l.col ∷ options_byte l ∷ r) (bytes_more ks k)

fill-set : (N : ℕ) (l : List ℕ) (x : ℕ) → length l < N → set (fill N l) (length l) x ≡ fill N (l ++ (x ∷ []))
fill-set zero l x h = absurd (omega arith)
fill-set (suc N) [] x h = refl
fill-set (suc N) (y ∷ l) x h = ap (λ r. y ∷ r) (fill-set N l x (omega arith))

-- i keys are in the row, the keys l are left
pub record Row (ks : List Key) (row : List ℕ) (i : ℕ) (l : List Key) : Type 0 where
  pub done : List Key
  pub whole : done ++ l ≡ ks
  pub place : i ≡ length done
  pub is : row ≡ fill 16 (key_bytes done)

pub row_none : (ks l : List Key) → l ≡ ks → Row ks (replicate 16 0) 0 l
row_none ks l e = record { done = []; whole = e; place = refl; is = refl }

-- there is room for the keys that are left
pub row_room : {ks : List Key} {row : List ℕ} {i : ℕ} {l : List Key} → Row ks row i l → i + length l ≡ length ks
row_room {l = l} p = omega (arith, p.place, ap length p.whole, length-append p.done l)

pub row_more : (ks : List Key) (row : List ℕ) (i : ℕ) (l : List Key) (w : ℕ) (m : List Key) → length ks ≤ 8 → l ≡ key_of w ∷ m → Row ks row i l
    → Row ks (set (set row (2 * i) (w % 32)) (2 * i + 1) (w / 32 % 4)) (i + 1) m
row_more ks row i l w m h e p =
    let B : List ℕ = key_bytes p.done in
    let r = row_room p in let z = ap length e in
    let a : length B ≡ 2 * i = length_bytes p.done ∙ ap (λ x. 2 * x) (sym p.place) in
    let n : length (B ++ (w % 32 ∷ [])) ≡ 2 * i + 1 = length-append B (w % 32 ∷ []) ∙ omega arith in
    record {
      done = p.done ++ (key_of w ∷ []);
      whole = append_assoc p.done (key_of w ∷ []) m ∙ ap (λ x. p.done ++ x) (sym e) ∙ p.whole;
      place = (let d = p.place in omega (arith, length-append p.done (key_of w ∷ [])));
      is = ap (λ x. set (set x (2 * i) (w % 32)) (2 * i + 1) (w / 32 % 4)) p.is
          ∙ ap (λ j. set (set (fill 16 B) j (w % 32)) (2 * i + 1) (w / 32 % 4)) (sym a) ∙ ap (λ x. set x (2 * i + 1) (w / 32 % 4))
          (fill-set 16 B (w % 32) (omega arith))
          ∙ ap (λ j. set (fill 16 (B ++ (w % 32 ∷ []))) j (w / 32 % 4)) (sym n) ∙ fill-set 16 (B ++ (w % 32 ∷ [])) (w / 32 % 4) (omega arith)
          ∙ ap (fill 16) (append_assoc B (w % 32 ∷ []) (w / 32 % 4 ∷ []) ∙ ap (λ o. B ++ (w % 32 ∷ o ∷ [])) (sym (options w))
          ∙ sym (bytes_more p.done (key_of w)));
    }

pub row_all : (ks : List Key) (row : List ℕ) (i : ℕ) (l : List Key) → Row ks row i l → l ≡ [] → row ≡ fill 16 (key_bytes ks)
row_all ks row i l p e = p.is ∙ ap (λ x. fill 16 (key_bytes x)) (sym (append_none p.done) ∙ ap (λ x. p.done ++ x) (sym e) ∙ p.whole)
  where
    append_none : (l : List Key) → l ++ [] ≡ l
    append_none [] = refl
    append_none (x ∷ l) = ap (λ r. x ∷ r) (append_none l)

-- ---- the two parts

two_parts : (H R : List ℕ) → length H ≡ 16 → length R ≡ 16 → splice (splice (replicate 64 0) 0 16 H) 16 16 R ≡ H ++ (R ++ fill 32 [])
two_parts H R h r = ap₂ (λ x y. x ++ (R ++ drop 16 y)) (take_at H (replicate 48 0) 16 h) (drop_at H (replicate 48 0) 16 h)

pub new_is : (k m n s b c : ℕ) (f : Option ℕ) (keys : Keys) (H R : List ℕ) → keys.len ≤ 8 → n ≡ fetch_number f → c ≡ keys.len → H ≡ head_of k m n s c b
    → R ≡ fill 16 (key_bytes (keys_of keys))
    → splice (splice (replicate 64 0) 0 16 H) 16 16 R ≡ new_bytes k m f s (keys_of keys) b
new_is k m n s b c f keys H R l e d h r =
    two_parts H R (ap length h) (ap length r ∙ length-fill 16 (key_bytes (keys_of keys)))
    ∙ ap₂ (λ x y. x ++ (y ++ fill 32 [])) (h ∙ ap₂ (λ x y. head_of k m x s y b) e (d ∙ sym (length_keys keys.len keys.word))) r

-- the first part leaves the array's length
pub long_enough : (H : List ℕ) → length H ≡ 16 → 32 ≤ length (splice (replicate 64 0) 0 16 H)
long_enough H h = let e = splice-length (replicate 64 0) H 0 16 (omega arith) h in omega arith

-- ---- another mark

marks_of : (p q h : Bool) → marks_byte p h false / 2 * 2 + one_if q ≡ marks_byte q h false
marks_of true true true = refl
marks_of true true false = refl
marks_of true false true = refl
marks_of true false false = refl
marks_of false true true = refl
marks_of false true false = refl
marks_of false false true = refl
marks_of false false false = refl

set_marks : (n : ℕ) (o : Op) (q : Bool) → code o ≡ 5 → set (encode n o) 3 (get_or (encode n o) 3 0 / 2 * 2 + one_if q) ≡ encode n (remark (λ p. q) o)
unfolding encode
set_marks n (source s) q e = absurd (omega arith)
set_marks n filter q e = absurd (omega arith)
set_marks n (projection cols) q e = absurd (omega arith)
set_marks n union q e = absurd (omega arith)
set_marks n (repartition p k h ks) q e = ap (λ x. set (encode n (repartition p k h ks)) 3 x) (marks_of p q h)
set_marks n (coalesce f) q e = absurd (omega arith)
set_marks n (sort_op p ks f) q e = absurd (omega arith)
set_marks n (merge_op ks f) q e = absurd (omega arith)
set_marks n (global_limit s f note) q e = absurd (omega arith)
set_marks n (local_limit f note) q e = absurd (omega arith)
set_marks n (sort_merge_join t on) q e = absurd (omega arith)
set_marks n (hash_join t on) q e = absurd (omega arith)
set_marks n (output_requirement ks d f) q e = absurd (omega arith)
set_marks n (partial_sort p ks k f) q e = absurd (omega arith)
set_marks n (aggregate ks k) q e = absurd (omega arith)

not_marked : (o : Op) (g : Bool → Bool) → (code o ≡ 5 → ⊥) → o ≡ remark g o
not_marked (source s) g e = refl
not_marked filter g e = refl
not_marked (projection cols) g e = refl
not_marked union g e = refl
not_marked (repartition p k h ks) g e = absurd (e refl)
not_marked (coalesce f) g e = refl
not_marked (sort_op p ks f) g e = refl
not_marked (merge_op ks f) g e = refl
not_marked (global_limit s f note) g e = refl
not_marked (local_limit f note) g e = refl
not_marked (sort_merge_join t on) g e = refl
not_marked (hash_join t on) g e = refl
not_marked (output_requirement ks d f) g e = refl
not_marked (partial_sort p ks k f) g e = refl
not_marked (aggregate ks k) g e = refl

module _ (r x : List ℕ) (q : Bool) (c : x ≡ r) (n : ℕ) (e : r ≡ encode n (decode r)) where
  pub marked : (b : ℕ) → b ≡ one_if q → get_or r 0 0 ≡ 5 → set x 3 (get_or r 3 0 / 2 * 2 + b) ≡ encode n (remark (λ p. q) (decode r))
  marked b d h =
      ap₂ (λ y z. set y 3 (get_or z 3 0 / 2 * 2 + b)) (c ∙ e) e
      ∙ ap (λ z. set (encode n (decode r)) 3 (get_or (encode n (decode r)) 3 0 / 2 * 2 + z)) d
      ∙ set_marks n (decode r) q (sym (code_byte r n e) ∙ h)

  pub unmarked : (get_or r 0 0 ≡ 5 → ⊥) → x ≡ encode n (remark (λ p. q) (decode r))
  unmarked h = c ∙ e ∙ ap (encode n) (not_marked (decode r) (λ p. q) (λ d. h (code_byte r n e ∙ d)))
