-- What the packed keys and the columns of a record say of its operator. Assumes nothing.
use Rattle.std.specs.Prelude.{◌≡◌, refl, true, List, [], ◌∷◌, map, ℕ, zero, suc, ◌+◌, ◌*◌, ◌/◌, ◌%◌, ◌≤◌, ◌<◌, eqb, ltb, length, take, drop, get_or}
use Rattle.std.proofs.Common.{sym, ap, ap₂, ◌∙◌, arith, ltb-true}
use Rattle.row_order.specs.Iso.{Key}
use Rattle.row_order.specs.Packed as row_order
use Rattle.scan.specs.Below.{and_left, and_right}
use Rattle.scan.specs.Bytes.{part}
use Rattle.scan.specs.ByteLaws.{length_part}
use Rattle.plan.specs.WellFormed.{below, columns_of}
use Rattle.plan_format.specs.Blocks.{span}
use Rattle.plan_format.specs.LastPass.{key_columns}
use Rattle.semantics.specs.Properties.{right_key}
use Rattle.plan_codec.specs.Decode.{key_of_bytes, keys_of, on_of}
use Rattle.plan_codec.proofs.Fill.{part_bytes}
use Rattle.plan_codec.proofs.Keys.{length_keys}
use Rattle.record_fields.specs.Fields.{packed, packed_keys, right_packed, packed_right_keys, tail_columns}

-- ---- keys

-- one key, where its column is one
pub packed_key : (c o : ℕ) → c < 32 → row_order.key_of (32 * o + c % 32) ≡ key_of_bytes c o
packed_key c o h =
    let a : (32 * o + c % 32) % 32 ≡ c = omega arith in
    let b : (32 * o + c % 32) / 32 ≡ o / 1 = omega arith in
    let d : (32 * o + c % 32) / 64 ≡ o / 2 = omega arith in
    λ i. record { col = a i; desc = eqb (b i % 2) 1; first = eqb (d i % 2) 1 }

packed_list : (n : ℕ) (l : List ℕ) → below 32 (columns_of (keys_of n l)) ≡ true → map row_order.key_of (take n (packed l)) ≡ keys_of n l
packed_list zero l h = refl
packed_list (suc n) [] h = refl
packed_list (suc n) (c ∷ []) h = refl
packed_list (suc n) (c ∷ o ∷ l) h =
    ap₂ ◌∷◌ (packed_key c o (ltb-true c 32 (and_left (ltb c 32) (below 32 (columns_of (keys_of n l))) h)))
    (packed_list n l (and_right (ltb c 32) (below 32 (columns_of (keys_of n l))) h))

-- the first n packed keys are the record's keys, where each column is one
pub packed_keys_lem : (n : ℕ) (r : List ℕ) → below 32 (columns_of (keys_of n (part 16 16 r))) ≡ true
    → map row_order.key_of (take n (packed_keys r)) ≡ keys_of n (part 16 16 r)
packed_keys_lem n r h = packed_list n (part 16 16 r) h

-- the bytes that the code reads
pub packed_bytes : (r : List ℕ) → length r ≡ 64
    → packed_keys r
    ≡ (32 * get_or r 17 0 + get_or r 16 0 % 32) ∷ (32 * get_or r 19 0 + get_or r 18 0 % 32) ∷ (32 * get_or r 21 0 + get_or r 20 0 % 32)
    ∷ (32 * get_or r 23 0 + get_or r 22 0 % 32) ∷ (32 * get_or r 25 0 + get_or r 24 0 % 32) ∷ (32 * get_or r 27 0 + get_or r 26 0 % 32)
    ∷ (32 * get_or r 29 0 + get_or r 28 0 % 32) ∷ (32 * get_or r 31 0 + get_or r 30 0 % 32) ∷ []
unfolding span
packed_bytes r h = ap packed (part_bytes r 16 16 (omega arith))

pub length-packed : (r : List ℕ) → length r ≡ 64 → length (packed_keys r) ≡ 8
length-packed r h = ap length (packed_bytes r h)

-- ---- the keys' columns

-- the first of each two bytes
abbrev columns_in : List ℕ → List ℕ
columns_in [] = []
columns_in (c ∷ []) = []
columns_in (c ∷ o ∷ l) = c ∷ columns_in l

columns_in_lem : (n : ℕ) (l : List ℕ) → take n (columns_in l) ≡ columns_of (keys_of n l)
columns_in_lem zero l = refl
columns_in_lem (suc n) [] = refl
columns_in_lem (suc n) (c ∷ []) = refl
columns_in_lem (suc n) (c ∷ o ∷ l) = ap (λ (m : List ℕ). c ∷ m) (columns_in_lem n l)

-- n of a record's eight key columns are the columns of its first n keys
pub key_columns_lem : (n : ℕ) (r : List ℕ) → length r ≡ 64 → take n (key_columns r) ≡ columns_of (keys_of n (part 16 16 r))
unfolding span
key_columns_lem n r h = sym (ap (λ (l : List ℕ). take n (columns_in l)) (part_bytes r 16 16 (omega arith))) ∙ columns_in_lem n (part 16 16 r)

-- its key count, where it is one
pub key_count : (r : List ℕ) → length r ≡ 64 → get_or r 12 0 ≤ 8 → length (keys_of (get_or r 12 0) (part 16 16 r)) ≡ get_or r 12 0
key_count r h m = let l = length_part r 16 16 (omega arith) in length_keys (get_or r 12 0) (part 16 16 r) (omega arith)

-- ---- a join's key pairs

on_take : (ks : List Key) (l : List ℕ) (n : ℕ) → length ks ≤ n → on_of ks (take n l) ≡ on_of ks l
on_take [] l n h = refl
on_take (k ∷ ks) l zero h = absurd (omega arith)
on_take (k ∷ ks) [] (suc n) h = refl
on_take (k ∷ ks) (c ∷ l) (suc n) h = ap (λ on. record { key = k; other = c } ∷ on) (on_take ks l n (omega arith))

pub length_keys_le : (n : ℕ) (l : List ℕ) → length (keys_of n l) ≤ n
length_keys_le zero l = omega arith
length_keys_le (suc n) [] = omega arith
length_keys_le (suc n) (c ∷ []) = omega arith
length_keys_le (suc n) (c ∷ o ∷ l) = omega (arith, length_keys_le n l)

-- n packed keys and n right columns are the record's key pairs
pub packed_on : (n : ℕ) (r : List ℕ) → below 32 (columns_of (keys_of n (part 16 16 r))) ≡ true
    → on_of (map row_order.key_of (take n (packed_keys r))) (take n (tail_columns r)) ≡ on_of (keys_of n (part 16 16 r)) (drop 32 r)
packed_on n r h =
    ap (λ ks. on_of ks (take n (tail_columns r))) (packed_keys_lem n r h)
    ∙ on_take (keys_of n (part 16 16 r)) (drop 32 r) n (length_keys_le n (part 16 16 r))

-- ---- a join's right keys

right_list : (n m : ℕ) (l cols : List ℕ) → n ≤ m → below 32 (map (λ k. k.other) (on_of (keys_of n l) cols)) ≡ true
    → map row_order.key_of (take n (right_packed l (take m cols))) ≡ map right_key (on_of (keys_of n l) cols)
right_list zero m l cols g h = refl
right_list (suc n) m [] cols g h = refl
right_list (suc n) m (c ∷ []) cols g h = refl
right_list (suc n) zero (c ∷ o ∷ l) cols g h = absurd (omega arith)
right_list (suc n) (suc m) (c ∷ o ∷ l) [] g h = refl
right_list (suc n) (suc m) (c ∷ o ∷ l) (d ∷ cols) g h =
    ap₂ ◌∷◌ (packed_key d o (ltb-true d 32 (and_left (ltb d 32) (below 32 (map (λ k. k.other) (on_of (keys_of n l) cols))) h)))
    (right_list n m l cols (omega arith) (and_right (ltb d 32) (below 32 (map (λ k. k.other) (on_of (keys_of n l) cols))) h))

-- the first n are the record's right keys, where each column is one
pub packed_right_keys_lem : (n : ℕ) (r : List ℕ) → n ≤ 8 → below 32 (map (λ k. k.other) (on_of (keys_of n (part 16 16 r)) (drop 32 r))) ≡ true
    → map row_order.key_of (take n (packed_right_keys r)) ≡ map right_key (on_of (keys_of n (part 16 16 r)) (drop 32 r))
packed_right_keys_lem n r g h = right_list n 8 (part 16 16 r) (drop 32 r) g h

pub packed_right_bytes : (r : List ℕ) → length r ≡ 64
    → packed_right_keys r
    ≡ (32 * get_or r 17 0 + get_or r 32 0 % 32) ∷ (32 * get_or r 19 0 + get_or r 33 0 % 32) ∷ (32 * get_or r 21 0 + get_or r 34 0 % 32)
    ∷ (32 * get_or r 23 0 + get_or r 35 0 % 32) ∷ (32 * get_or r 25 0 + get_or r 36 0 % 32) ∷ (32 * get_or r 27 0 + get_or r 37 0 % 32)
    ∷ (32 * get_or r 29 0 + get_or r 38 0 % 32) ∷ (32 * get_or r 31 0 + get_or r 39 0 % 32) ∷ []
unfolding span
packed_right_bytes r h = ap₂ right_packed (part_bytes r 16 16 (omega arith)) (part_bytes r 8 32 (omega arith))
