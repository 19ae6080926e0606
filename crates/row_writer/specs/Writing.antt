-- Numbers and null sets as the code writes them, byte by byte and column by column. Assumes nothing.
use Rattle.std.specs.Prelude.{◌≡◌, refl, Bool, true, false, List, [], ◌∷◌, ◌++◌, ℕ, zero, suc, ◌+◌, ◌*◌, ◌-◌, ◌/◌, ◌%◌, ◌^◌, ◌<◌, ◌≤◌, ℤ, pos, length, get_or, take, drop, set}
use Rattle.std.proofs.Common.{sym, ap, ap₂, ◌∙◌, append_assoc, append-nil, arith, add-one, length-drop, drop-cons, take_all}
use Rattle.std.proofs.Math.Nat.{pow-le-pow_right}
use Rattle.std.specs.Int.{w64}
use mir.Val.{Fits, bool_byte}
use Rattle.std.proofs.Math.Seq.{drop-length}
use Rattle.scan.specs.Bytes.{one_if}
use Rattle.row_order.specs.Iso.{Cell, null, Row}
use Rattle.row_order.specs.ListLaws.{length-tab, get_or-tab}
use Rattle.row_order.specs.Packed.{bit, cell_of, row_of}
use Rattle.stepping.specs.RowBytes.{little_endian, null_set}
use Rattle.stepping.proofs.Theorems.NumberBytes.{null_small}

-- ---- a number: i bytes are written, and y is left of it
abbrev pub Put : ℕ → ℕ → ℕ → List ℕ → ℕ → Type 0
Put n x i d y = take i d ++ little_endian (n - i) y ≡ little_endian n x

take-set : {A : Type 0} (l : List A) (i : ℕ) (a : A) → i < length l → take (suc i) (set l i a) ≡ take i l ++ (a ∷ [])
take-set [] i a h = absurd (omega arith)
take-set (x ∷ l) zero a h = refl
take-set (x ∷ l) (suc i) a h = ap (λ q. x ∷ q) (take-set l i a (omega arith))

pub put_none : (n x : ℕ) (d : List ℕ) → Put n x 0 d x
put_none n x d = let e : n - 0 ≡ n = omega arith in ap (λ (k : ℕ). little_endian k x) e

pub put_more : (n x i : ℕ) (d : List ℕ) (y : ℕ) → i < n → length d ≡ n → Put n x i d y → Put n x (i + 1) (set d i (y % 256)) (y / 256)
put_more n x i d y h l p =
    let e : n - i ≡ suc (n - (i + 1)) = omega arith in
    ap (λ (k : ℕ). take k (set d i (y % 256)) ++ little_endian (n - (i + 1)) (y / 256)) (add-one i)
    ∙ ap (λ q. q ++ little_endian (n - (i + 1)) (y / 256)) (take-set d i (y % 256) (omega (arith, l)))
    ∙ append_assoc (take i d) (y % 256 ∷ []) (little_endian (n - (i + 1)) (y / 256))
    ∙ sym (ap (λ (k : ℕ). take i d ++ little_endian k y) e) ∙ p

pub put_all : (n x i : ℕ) (d : List ℕ) (y : ℕ) → i ≡ n → length d ≡ n → Put n x i d y → d ≡ little_endian n x
put_all n x i d y h l p =
    let e : n - i ≡ 0 = omega arith in
    sym (ap (λ (k : ℕ). take i d ++ little_endian k y) e ∙ append-nil (take i d) ∙ ap (λ (k : ℕ). take k d) (h ∙ sym l)
    ∙ take_all (length d) d (omega arith)) ∙ p

-- ---- a null set, from the last column to the first
abbrev pub Nulls : ℕ → List ℤ → ℕ → ℕ → Type 0
Nulls s cells c x = x ≡ null_set (drop c (row_of s cells))

one_cell : (b : Bool) (z : ℤ) (l : Row) → null_set (cell_of b z ∷ l) ≡ 2 * null_set l + one_if b
one_cell true z l = omega arith
one_cell false z l = omega arith

pub length_row : (s : ℕ) (cells : List ℤ) → length (row_of s cells) ≡ length cells
length_row s cells = length-tab (length cells) (λ c. cell_of (bit s c) (get_or cells c (pos 0)))

pub nulls_none : (s : ℕ) (cells : List ℤ) (c : ℕ) → c ≡ length cells → Nulls s cells c 0
nulls_none s cells c h = sym (ap (λ (k : ℕ). null_set (drop k (row_of s cells))) (h ∙ sym (length_row s cells)) ∙ ap null_set (drop-length (row_of s cells)))

pub nulls_more : (s : ℕ) (cells : List ℤ) (c x : ℕ) (b : Bool) → c < length cells → Nulls s cells (suc c) x → b ≡ bit s c → Nulls s cells c (2 * x + one_if b)
nulls_more s cells c x b h e f =
    let k = length_row s cells in
    ap₂ (λ (u : ℕ) (t : Bool). 2 * u + one_if t) e f
    ∙ sym (ap null_set (drop-cons (row_of s cells) c null (omega (arith, k)))
    ∙ ap (λ (y : Cell). null_set (y ∷ drop (suc c) (row_of s cells))) (get_or-tab (length cells) (λ c. cell_of (bit s c) (get_or cells c (pos 0))) null c h)
    ∙ one_cell (bit s c) (get_or cells c (pos 0)) (drop (suc c) (row_of s cells)))

pub nulls_small : (s : ℕ) (cells : List ℤ) (c x : ℕ) → length cells ≤ 32 → Nulls s cells c x → x < 4294967296
nulls_small s cells c x h e =
    let a = null_small (drop c (row_of s cells)) in
    let b = length-drop c (row_of s cells) in
    let k = length_row s cells in
    let p : 2 ^ length (drop c (row_of s cells)) ≤ 2 ^ 32 =
    pow-le-pow_right {n = 2} (omega arith) {i = length (drop c (row_of s cells))} {j = 32} (omega (arith, b, k)) in
    omega (arith, a, e, p)

byte_small : (b : Bool) → bool_byte b ≤ 1
byte_small true = omega arith
byte_small false = omega arith

-- twice as much and one fit the code's word
pub nulls_room : (s : ℕ) (cells : List ℤ) (c x : ℕ) (b : Bool) → length cells ≤ 32 → Nulls s cells c x → Fits w64 (2 * x + bool_byte b)
nulls_room s cells c x b h e = record { fits = omega (arith, nulls_small s cells c x h e, byte_small b) }
