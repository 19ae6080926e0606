-- A row as the code writes it, cell by cell, and how long it is. Assumes nothing.
use Rattle.std.specs.Prelude.{◌≡◌, refl, Bool, true, false, List, [], ◌∷◌, ◌++◌, map, ℕ, ◌+◌, ◌*◌, ◌-◌, ◌<◌, ℤ, pos, length, get_or, take, drop}
use Rattle.std.proofs.Common.{sym, ap, ap₂, ◌∙◌, append_assoc, append-nil, arith, add-one, length-append, length-drop, take-suc, take_all, take_at, length-take-le}
use Rattle.scan.specs.Parts.{splice, Front, front_more}
use Rattle.row_order.specs.Iso.{Cell, null, num, Row}
use Rattle.row_order.specs.Lists.{concat}
use Rattle.row_order.specs.ListLaws.{get_or-tab}
use Rattle.row_order.specs.Packed.{bit, cell_of, row_of}
use Rattle.stepping.specs.RowBytes.{unsigned, little_endian, row_size, null_set, cell_bytes, row_bytes}
use Rattle.row_writer.specs.Writing.{length_row}

-- ---- lists of parts
pub concat_parts : {A B : Type 0} (f : A → List B) (l m : List A) → concat (map f (l ++ m)) ≡ concat (map f l) ++ concat (map f m)
concat_parts f [] m = refl
concat_parts f (x ∷ l) m = ap (λ q. f x ++ q) (concat_parts f l m) ∙ sym (append_assoc (f x) (concat (map f l)) (concat (map f m)))

pub concat_last : {A B : Type 0} (f : A → List B) (l : List A) (x : A) → concat (map f (l ++ (x ∷ []))) ≡ concat (map f l) ++ f x
concat_last f l x = concat_parts f l (x ∷ []) ∙ ap (λ q. concat (map f l) ++ q) (append-nil (f x))

-- ---- a cell
pub null_is : (d e : List ℕ) (b : Bool) (z : ℤ) → length d ≡ 8 → b ≡ true → e ≡ little_endian (length d) 0 → e ≡ cell_bytes (cell_of b z)
null_is d e b z l t p = p ∙ ap (λ (n : ℕ). little_endian n 0) l ∙ sym (ap (λ (t : Bool). cell_bytes (cell_of t z)) t)

pub number_is : (d e : List ℕ) (b : Bool) (z : ℤ) (x : ℕ) → length d ≡ 8 → b ≡ false → x ≡ unsigned z → e ≡ little_endian (length d) x →
    e ≡ cell_bytes (cell_of b z)
number_is d e b z x l t u p = p ∙ ap₂ little_endian l u ∙ sym (ap (λ (t : Bool). cell_bytes (cell_of t z)) t)

length_cell : (x : Cell) → length (cell_bytes x) ≡ 8
length_cell null = refl
length_cell (num z) = refl

-- ---- a row
length_cells : (l : Row) → length (concat (map cell_bytes l)) ≡ 8 * length l
length_cells [] = refl
length_cells (x ∷ l) = length-append (cell_bytes x) (concat (map cell_bytes l)) ∙ omega (arith, length_cell x, length_cells l)

pub length-row_bytes : (x : Row) → length (row_bytes x) ≡ row_size (length x)
length-row_bytes x = omega (arith, length_cells x)

-- The null set and the first c cells
abbrev cells_to : ℕ → List ℤ → ℕ → List ℕ
cells_to s cells c = little_endian 4 (null_set (row_of s cells)) ++ concat (map cell_bytes (take c (row_of s cells)))

-- c cells are written
abbrev pub Cells : ℕ → List ℤ → ℕ → List ℕ → Type 0
Cells s cells c d = Front (row_size (length cells)) (4 + 8 * c) (cells_to s cells c) d

-- x: the null set, over the first four bytes
pub cells_none : (s : ℕ) (cells : List ℤ) (d p : List ℕ) (x : ℕ) → length d ≡ row_size (length cells) → x ≡ null_set (row_of s cells) →
    p ≡ little_endian (length (take 4 d)) x → Cells s cells 0 (p ++ drop 4 d)
cells_none s cells d p x l e f =
    let t : length (take 4 d) ≡ 4 = length-take-le 4 d (omega arith) in
    let g : p ≡ little_endian 4 (null_set (row_of s cells)) = f ∙ ap₂ little_endian t e in
    let n : length p ≡ 4 = ap length g in
    record { long = length-append p (drop 4 d) ∙ omega (arith, n, length-drop 4 d); is = take_at p (drop 4 d) 4 n ∙ g }

pub cells_more : (s : ℕ) (cells : List ℤ) (c : ℕ) (d p : List ℕ) (b : Bool) (z : ℤ) → c < length cells → b ≡ bit s c → z ≡ get_or cells c (pos 0) →
    p ≡ cell_bytes (cell_of b z) → Cells s cells c d → Cells s cells (c + 1) (splice d (4 + 8 * c) (4 + 8 * c + 8 - (4 + 8 * c)) p)
cells_more s cells c d p b x h e g f k =
    let row : Row = row_of s cells in
    let z : 4 + 8 * c + 8 - (4 + 8 * c) ≡ 8 = omega arith in
    let n : length p ≡ 8 = ap length f ∙ length_cell (cell_of b x) in
    let q : p ≡ cell_bytes (get_or row c null) = f ∙ ap₂ (λ (t : Bool) (y : ℤ). cell_bytes (cell_of t y)) e g
    ∙ sym (ap cell_bytes (get_or-tab (length cells) (λ c. cell_of (bit s c) (get_or cells c (pos 0))) null c h)) in
    let w : cells_to s cells c ++ p ≡ cells_to s cells (c + 1) =
    append_assoc (little_endian 4 (null_set row)) (concat (map cell_bytes (take c row))) p
    ∙ ap (λ r. little_endian 4 (null_set row) ++ r)
    (ap (λ r. concat (map cell_bytes (take c row)) ++ r) q ∙ sym (concat_last cell_bytes (take c row) (get_or row c null))
    ∙ ap (λ l. concat (map cell_bytes l)) (sym (take-suc row c null (omega (arith, length_row s cells))) ∙ ap (λ (i : ℕ). take i row) (sym (add-one c)))) in
    rw z (rw w at (front_more p (4 + 8 * c) 8 (4 + 8 * (c + 1)) (omega arith) (omega arith) n k))

pub cells_all : (s : ℕ) (cells : List ℤ) (c : ℕ) (d : List ℕ) → c ≡ length cells → Cells s cells c d → d ≡ row_bytes (row_of s cells)
cells_all s cells c d h k =
    let l = k.long in
    sym (take_all (4 + 8 * c) d (omega arith)) ∙ k.is
    ∙ ap (λ r. little_endian 4 (null_set (row_of s cells)) ++ concat (map cell_bytes r)) (take_all c (row_of s cells) (omega (arith, length_row s cells)))
