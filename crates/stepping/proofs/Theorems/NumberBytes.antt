-- Numbers and their bytes, there and back: little-endian numbers, signed numbers in two's complement, sets of null columns. Assumes nothing.
use Rattle.std.specs.Prelude.{◌≡◌, refl, Bool, true, false, cond, List, [], ◌∷◌, ℕ, zero, suc, ◌+◌, ◌*◌, ◌-◌, ◌/◌, ◌%◌, ◌^◌, ◌<◌, eqb, ltb, ℤ, pos, negsuc, length, get_or, take, drop}
use Rattle.std.proofs.Common.{sym, ap, ap₂, ◌∙◌, div-add-mod', add-one, arith, eqb-true, eq-eqb, ne_eqb, ltb-true, ltb-false, lt-ltb, le-ltb, pow-add, shr_lt, shr-shr, get_or-drop}
use Rattle.std.proofs.Math.Path.{fun_ext}
use Rattle.std.proofs.lemmas.Bool.{eqb-false}
use Rattle.std.proofs.Math.Pow.{high, low}
use Rattle.row_order.specs.Iso.{Cell, null, num, Row}
use Rattle.row_order.specs.Lists.{All, all_nil, all_cons, tab}
use Rattle.row_order.specs.Packed.{bit, cell_of}
use Rattle.scan.specs.Bytes.{part, le32}
use Rattle.scan.specs.Words.{value}
use Rattle.stepping.specs.RowBytes.{signed, unsigned, little_endian, null_set}

-- ---- little-endian numbers

-- Of a number that n bytes can hold they are the number again
pub value_bytes : (n x : ℕ) → x < 2 ^ (8 * n) → value (little_endian n x) ≡ x
value_bytes zero x h = omega arith
value_bytes (suc n) x h =
    let e : 8 * suc n ≡ 8 * n + 8 = omega arith in
    ap (λ (v : ℕ). v * 256 + x % 256) (value_bytes n (x / 256) (shr_lt (8 * n) 8 (rw e at h))) ∙ div-add-mod' x 256

abbrev pub Bytes : List ℕ → Type 0
Bytes l = All (λ x. x < 256) l

-- and the bytes of what some bytes hold are these bytes
pub bytes_value : {l : List ℕ} → Bytes l → little_endian (length l) (value l) ≡ l
bytes_value all_nil = refl
bytes_value (all_cons {x = x} {l = l} h hs) =
    ap₂ ◌∷◌ (low (value l) 8 h) (ap (little_endian (length l)) (high (value l) 8 h) ∙ bytes_value hs)

pub value_small : {l : List ℕ} → Bytes l → value l < 2 ^ (8 * length l)
value_small all_nil = omega arith
value_small (all_cons {x = x} {l = l} h hs) =
    let e : 8 * suc (length l) ≡ 8 * length l + 8 = omega arith in
    rw e (omega (arith, value_small hs, pow-add 2 (8 * length l) 8))

-- A number of four bytes at a place
first_four : (t : List ℕ) → get_or t 0 0 + 256 * get_or t 1 0 + 65536 * get_or t 2 0 + 16777216 * get_or t 3 0 ≡ value (take 4 t)
first_four [] = refl
first_four (a ∷ []) = omega arith
first_four (a ∷ b ∷ []) = omega arith
first_four (a ∷ b ∷ c ∷ []) = omega arith
first_four (a ∷ b ∷ c ∷ d ∷ t) = omega arith

pub four_value : (s : List ℕ) (a : ℕ) → le32 s a ≡ value (part a 4 s)
four_value s a =
    let z : get_or (drop a s) 0 0 ≡ get_or s a 0 = get_or-drop a s 0 0 ∙ ap (λ (k : ℕ). get_or s k 0) (let q : a + 0 ≡ a = omega arith in q) in
    omega (arith, first_four (drop a s), get_or-drop a s 1 0, get_or-drop a s 2 0, get_or-drop a s 3 0)

-- ---- signed numbers

-- -2^63 ≤ z < 2^63
abbrev pub Signed64 : ℤ → Type 0
Signed64 (pos n) = n < 2 ^ 63
Signed64 (negsuc n) = n < 2 ^ 63

pub unsigned_small : (z : ℤ) → Signed64 z → unsigned z < 2 ^ 64
unsigned_small (pos n) h = omega arith
unsigned_small (negsuc n) h = omega arith

pub signed-unsigned : (z : ℤ) → Signed64 z → signed (unsigned z) ≡ z
signed-unsigned (pos n) h = ap (λ (b : Bool). cond b (pos n) (negsuc (2 ^ 64 - 1 - n))) (lt-ltb n (2 ^ 63) h)
signed-unsigned (negsuc n) h =
    let m : ℕ = 2 ^ 64 - 1 - n in
    let e : 2 ^ 64 - 1 - m ≡ n = omega arith in
    ap (λ (b : Bool). cond b (pos m) (negsuc (2 ^ 64 - 1 - m))) (le-ltb m (2 ^ 63) (omega arith)) ∙ ap negsuc e

pub unsigned_signed : (x : ℕ) → x < 2 ^ 64 → unsigned (signed x) ≡ x
unsigned_signed x h = go (ltb x (2 ^ 63)) refl
  where
    go : (b : Bool) → ltb x (2 ^ 63) ≡ b → unsigned (cond b (pos x) (negsuc (2 ^ 64 - 1 - x))) ≡ x
    go true e = refl
    go false e = omega arith

pub signed_fits : (x : ℕ) → x < 2 ^ 64 → Signed64 (signed x)
signed_fits x h = go (ltb x (2 ^ 63)) refl
  where
    go : (b : Bool) → ltb x (2 ^ 63) ≡ b → Signed64 (cond b (pos x) (negsuc (2 ^ 64 - 1 - x)))
    go true e = ltb-true x (2 ^ 63) e
    go false e = omega (arith, ltb-false x (2 ^ 63) e)

-- ---- null sets

abbrev pub is_null : Cell → Bool
is_null null = true
is_null (num z) = false

pow_next : (n : ℕ) → 2 ^ suc n ≡ 2 * 2 ^ n
pow_next n = ap (λ (k : ℕ). 2 ^ k) (sym (add-one n)) ∙ omega (arith, pow-add 2 n 1)

pub null_small : (x : Row) → null_set x < 2 ^ length x
null_small [] = omega arith
null_small (null ∷ x) = omega (arith, null_small x, pow_next (length x))
null_small (num z ∷ x) = omega (arith, null_small x, pow_next (length x))

-- bit c + 1 of a set is bit c of its half
bit_next : (n c : ℕ) → bit n (suc c) ≡ bit (n / 2) c
bit_next n c =
    let e : 1 + c ≡ suc c = omega arith in
    ap (λ (k : ℕ). eqb (k % 2) 1) (ap (λ (k : ℕ). n / 2 ^ k) (sym e) ∙ sym (shr-shr n 1 c))

-- A column is in the null set of a row exactly if its cell is null
pub null-bit : (x : Row) (c : ℕ) → c < length x → bit (null_set x) c ≡ is_null (get_or x c null)
null-bit [] c h = absurd (omega arith)
null-bit (null ∷ x) zero h = eq-eqb ((1 + 2 * null_set x) / 1 % 2) 1 (omega arith)
null-bit (num z ∷ x) zero h = ne_eqb (2 * null_set x / 1 % 2) 1 (omega arith)
null-bit (null ∷ x) (suc c) h =
    let e : (1 + 2 * null_set x) / 2 ≡ null_set x = omega arith in
    bit_next (1 + 2 * null_set x) c ∙ ap (λ (n : ℕ). bit n c) e ∙ null-bit x c (omega arith)
null-bit (num z ∷ x) (suc c) h =
    let e : 2 * null_set x / 2 ≡ null_set x = omega arith in
    bit_next (2 * null_set x) c ∙ ap (λ (n : ℕ). bit n c) e ∙ null-bit x c (omega arith)

-- and of a set of w columns the row with these nulls has the set again
pub set_again : (w n : ℕ) (g : ℕ → ℤ) → n < 2 ^ w → null_set (tab w (λ c. cell_of (bit n c) (g c))) ≡ n
set_again zero n g h = omega arith
set_again (suc w) n g h = go (bit n 0) refl (halves ∙ set_again w (n / 2) (λ c. g (suc c)) (shr_lt w 1 (rw (← add-one w) at h)))
  where
    halves : null_set (tab w (λ c. cell_of (bit n (suc c)) (g (suc c)))) ≡ null_set (tab w (λ c. cell_of (bit (n / 2) c) (g (suc c))))
    halves = ap (λ (f : ℕ → Cell). null_set (tab w f)) (fun_ext (λ c. ap (λ (b : Bool). cell_of b (g (suc c))) (bit_next n c)))

    go : (b : Bool) → bit n 0 ≡ b → null_set (tab w (λ c. cell_of (bit n (suc c)) (g (suc c)))) ≡ n / 2 →
        null_set (cell_of b (g 0) ∷ tab w (λ c. cell_of (bit n (suc c)) (g (suc c)))) ≡ n
    go true e ih = omega (arith, eqb-true (n / 1 % 2) 1 e)
    go false e ih = omega (arith, eqb-false (n / 1 % 2) 1 e)
