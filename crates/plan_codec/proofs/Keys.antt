-- Key lists and their bytes, there and back, for any number of keys.
use Rattle.std.specs.Prelude.{◌≡◌, refl, Bool, true, false, not, ◌&&◌, List, [], ◌∷◌, map, ℕ, zero, suc, ◌+◌, ◌*◌, ◌/◌, ◌≤◌, ◌<◌, ltb, eqb, length, get_or, take}
use Rattle.std.proofs.Common.{sym, ap, ap₂, ◌∙◌, arith, eqb-true, le-ltb, lt-ltb}
use Rattle.row_order.specs.Iso.{Key}
use Rattle.scan.specs.Below.{and_left, and_right, or_false}
use Rattle.plan.specs.Op.{On}
use Rattle.plan.specs.WellFormed.{every, plain}
use Rattle.plan_format.specs.Blocks.{span}
use Rattle.plan_format.specs.Record.{either, key_ok}
use Rattle.plan_codec.specs.Decode.{key_of_bytes, keys_of, on_of}
use Rattle.scan.specs.Bytes.{one_if}
use Rattle.plan_codec.specs.Encode.{fill, options_byte, key_bytes}
use Rattle.plan_format.specs.KeySlots.{even, slot_next}
use Rattle.plan_codec.proofs.Bits.{no_false, both, options_bits, bits_options}

pub length_bytes : (ks : List Key) → length (key_bytes ks) ≡ 2 * length ks
length_bytes [] = refl
length_bytes (k ∷ ks) = omega (arith, length_bytes ks)

pub length_keys : (n : ℕ) (l : List ℕ) → 2 * n ≤ length l → length (keys_of n l) ≡ n
length_keys zero l h = refl
length_keys (suc n) [] h = absurd (omega arith)
length_keys (suc n) (c ∷ []) h = absurd (omega arith)
length_keys (suc n) (c ∷ o ∷ l) h = ap suc (length_keys n l (omega arith))

-- ---- keys, bytes, keys

key_back : (k : Key) → key_of_bytes k.col (options_byte k) ≡ k
key_back k = let b = options_bits k.desc k.first in λ i. record { col = k.col; desc = b.0 i; first = b.1 i }

pub keys_back : (n : ℕ) (ks : List Key) → 2 * length ks ≤ n → keys_of (length ks) (fill n (key_bytes ks)) ≡ ks
keys_back n [] h = refl
keys_back zero (k ∷ ks) h = absurd (omega arith)
keys_back (suc zero) (k ∷ ks) h = absurd (omega arith)
keys_back (suc (suc n)) (k ∷ ks) h = ap₂ ◌∷◌ (key_back k) (keys_back n ks (omega arith))

-- ---- the rule of a key's two bytes, in slot i of n

-- Slot i of the bytes l
abbrev pub Slot : Bool → ℕ → List ℕ → ℕ → Type 0
Slot p n l i = key_ok p n i (get_or l (2 * i) 0) (get_or l (2 * i + 1) 0) ≡ true

-- what the rule says of a slot that is used, and of one that is not
small : (p : Bool) (o : ℕ) → either p (eqb o 0) (eqb (o / 4) 0) ≡ true → o < 4
small true o e = let z = eqb-true o 0 (sym (or_false (eqb o 0)) ∙ e) in omega arith
small false o e = let z = eqb-true (o / 4) 0 e in omega arith

first_used : (p : Bool) (n c o : ℕ) → key_ok p (suc n) 0 c o ≡ true → either p (eqb o 0) (eqb (o / 4) 0) ≡ true
first_used p n c o e = let t : ltb 0 (suc n) ≡ true = lt-ltb 0 (suc n) (omega arith) in sym (or_false (either p (eqb o 0) (eqb (o / 4) 0))) ∙ rw t at e

-- ---- bytes, keys, bytes

pub bytes_back : (p : Bool) (n m : ℕ) (l : List ℕ) → length l ≡ 2 * m → ((i : ℕ) → i < m → Slot p n l i) → fill (length l) (key_bytes (keys_of n l)) ≡ l
bytes_back p n zero [] e h = refl
bytes_back p n zero (x ∷ l) e h = absurd (omega arith)
bytes_back p n (suc m) [] e h = absurd (omega arith)
bytes_back p n (suc m) (c ∷ []) e h = absurd (omega arith)
bytes_back p zero (suc m) (c ∷ o ∷ l) e h =
    let z : (eqb c 0 && eqb o 0) ≡ true = h 0 (omega arith) in
    let r = bytes_back p zero m l (omega arith) (λ i q. sym (slot_next c o l i p 0 0 refl) ∙ h (suc i) (omega arith)) in
    ap₂ (λ (x : ℕ) (y : List ℕ). x ∷ y) (sym (eqb-true c 0 (and_left (eqb c 0) (eqb o 0) z)))
    (ap₂ (λ (x : ℕ) (y : List ℕ). x ∷ y) (sym (eqb-true o 0 (and_right (eqb c 0) (eqb o 0) z))) r)
bytes_back p (suc n) (suc m) (c ∷ o ∷ l) e h =
    let r = bytes_back p n m l (omega arith) (λ i q. sym (slot_next c o l i p (suc n) n (omega arith)) ∙ h (suc i) (omega arith)) in
    ap₂ (λ (x : ℕ) (y : List ℕ). c ∷ x ∷ y) (bits_options c o (small p o (first_used p n c o (h 0 (omega arith))))) r

-- options 0 where the rule asks for them
pub bytes_plain : (n m : ℕ) (l : List ℕ) → length l ≡ 2 * m → ((i : ℕ) → i < m → Slot true n l i) → every plain (keys_of n l) ≡ true
bytes_plain zero m l e h = refl
bytes_plain (suc n) zero [] e h = refl
bytes_plain (suc n) zero (x ∷ l) e h = absurd (omega arith)
bytes_plain (suc n) (suc m) [] e h = absurd (omega arith)
bytes_plain (suc n) (suc m) (c ∷ []) e h = absurd (omega arith)
bytes_plain (suc n) (suc m) (c ∷ o ∷ l) e h =
    let f = first_used true n c o (h 0 (omega arith)) in
    let z : o ≡ 0 = eqb-true o 0 (sym (or_false (eqb o 0)) ∙ f) in
    let k : plain (key_of_bytes c o) ≡ true = rw z in
    both (plain (key_of_bytes c o)) (every plain (keys_of n l)) k
    (bytes_plain n m l (omega arith) (λ i q. sym (slot_next c o l i true (suc n) n (omega arith)) ∙ h (suc i) (omega arith)))

-- ---- the bytes of keys obey the rule

options_ok : (p d f : Bool) → (p ≡ true → (not d && not f) ≡ true) → either p (eqb (one_if d + 2 * one_if f) 0) (eqb ((one_if d + 2 * one_if f) / 4) 0) ≡ true
options_ok true true f h = no_false (h refl)
options_ok true false true h = no_false (h refl)
options_ok true false false h = refl
options_ok false true true h = refl
options_ok false true false h = refl
options_ok false false true h = refl
options_ok false false false h = refl

pub slots : (p : Bool) (ks : List Key) → (p ≡ true → every plain ks ≡ true) → (i : ℕ) → Slot p (length ks) (key_bytes ks) i
slots p [] h i = let e : ltb i 0 ≡ false = le-ltb i 0 (omega arith) in rw e
slots p (k ∷ ks) h zero =
    let e : ltb 0 (suc (length ks)) ≡ true = lt-ltb 0 (suc (length ks)) (omega arith) in
    let o : either p (eqb (options_byte k) 0) (eqb (options_byte k / 4) 0) ≡ true =
    options_ok p k.desc k.first (λ t. and_left (plain k) (every plain ks) (h t)) in
    rw e (or_false (either p (eqb (options_byte k) 0) (eqb (options_byte k / 4) 0)) ∙ o)
slots p (k ∷ ks) h (suc i) =
    slot_next k.col (options_byte k) (key_bytes ks) i p (suc (length ks)) (length ks) (omega arith)
    ∙ slots p ks (λ t. and_right (plain k) (every plain ks) (h t)) i

-- ---- columns of keys, and right key columns

pub columns_of : (ks : List Key) (f : ℕ → ℕ) (a m : ℕ) → length ks ≤ m → ((i : ℕ) → i < length ks → f (a + i) ≡ get_or (key_bytes ks) (2 * i) 0)
    → take (length ks) (span f a m) ≡ map (λ k. k.col) ks
unfolding span
columns_of [] f a m h e = refl
columns_of (k ∷ ks) f a zero h e = absurd (omega arith)
columns_of (k ∷ ks) f a (suc m) h e =
    let z : a + 0 ≡ a = omega arith in
    let c : f a ≡ k.col = rw z at (e 0 (omega arith)) in
    ap₂ ◌∷◌ c
    (columns_of ks f (suc a) m (omega arith)
    (λ i q. (let g : suc a + i ≡ a + suc i = omega arith in ap f g ∙ e (suc i) (omega arith) ∙ even k.col (options_byte k) (key_bytes ks) i)))

pub on_columns : (on : List On) → map (λ k. k.col) (map (λ k. k.key) on) ≡ map (λ k. k.key.col) on
on_columns [] = refl
on_columns (k ∷ on) = ap (λ (l : List ℕ). k.key.col ∷ l) (on_columns on)

pub on_keys : (ks : List Key) (l : List ℕ) → length ks ≤ length l → map (λ k. k.key) (on_of ks l) ≡ ks
on_keys [] l h = refl
on_keys (k ∷ ks) [] h = absurd (omega arith)
on_keys (k ∷ ks) (c ∷ l) h = ap (λ (m : List Key). k ∷ m) (on_keys ks l (omega arith))

pub on_others : (ks : List Key) (l : List ℕ) → length ks ≤ length l → map (λ k. k.other) (on_of ks l) ≡ take (length ks) l
on_others [] l h = refl
on_others (k ∷ ks) [] h = absurd (omega arith)
on_others (k ∷ ks) (c ∷ l) h = ap (λ (m : List ℕ). c ∷ m) (on_others ks l (omega arith))

pub on_back : (n : ℕ) (on : List On) → length on ≤ n → on_of (map (λ k. k.key) on) (fill n (map (λ k. k.other) on)) ≡ on
on_back n [] h = refl
on_back zero (k ∷ on) h = absurd (omega arith)
on_back (suc n) (k ∷ on) h = ap (λ (m : List On). k ∷ m) (on_back n on (omega arith))

pub length_on : (ks : List Key) (l : List ℕ) → length ks ≤ length l → length (on_of ks l) ≡ length ks
length_on [] l h = refl
length_on (k ∷ ks) [] h = absurd (omega arith)
length_on (k ∷ ks) (c ∷ l) h = ap suc (length_on ks l (omega arith))

pub on_plain : (ks : List Key) (l : List ℕ) → every plain ks ≡ true → every (λ k. plain k.key) (on_of ks l) ≡ true
on_plain [] l h = refl
on_plain (k ∷ ks) [] h = refl
on_plain (k ∷ ks) (c ∷ l) h = both (plain k) (every (λ k. plain k.key) (on_of ks l)) (and_left (plain k) (every plain ks) h)
    (on_plain ks l (and_right (plain k) (every plain ks) h))

pub plain_on : (on : List On) → every (λ k. plain k.key) on ≡ true → every plain (map (λ k. k.key) on) ≡ true
plain_on [] h = refl
plain_on (k ∷ on) h =
    both (plain k.key) (every plain (map (λ k. k.key) on)) (and_left (plain k.key) (every (λ k. plain k.key) on) h)
    (plain_on on (and_right (plain k.key) (every (λ k. plain k.key) on) h))
