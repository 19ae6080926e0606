-- The tables of the rows, filled row by row: the first rows of the tables are the first of a list. Assumes nothing.
use Rattle.std.specs.Prelude.{◌≡◌, refl, List, [], ◌∷◌, ◌++◌, ℕ, suc, ◌+◌, ◌*◌, ◌≤◌, ◌<◌, ℤ, length, get_or, take, drop, set}
use Rattle.std.proofs.Common.{sym, ap, ap₂, ◌∙◌, subst, append_assoc, append-nil, arith, length-drop, length-take-le, get_or-set_same, get_or-set_other, take-suc-set, get_or-drop, take-take, drop-drop, take-add, take_at, drop_at}
use Rattle.std.proofs.Math.Decide.{dec_lt}
use Rattle.row_order.specs.Packed.{row_of}
use Rattle.scan.specs.Bytes.{part}
use Rattle.scan.specs.Words.{value}
use Rattle.stepping.specs.Outlets.{Placed, place}
use Rattle.stepping.specs.RowBytes.{signed, numbers_at}
use Rattle.row_bytes.specs.Cells.{tab_more}
use Rattle.step_tables.proofs.FirstRows.{nowhere}
use Rattle.step_tables.specs.Rows.{row_in}

-- Of each row 32 numbers, its null set, its width and the place where it waits
pub record RowTables : Type 0 where
  pub cells : List ℤ
  pub nulls : List ℕ
  pub widths : List ℕ
  pub places : List ℕ

abbrev pub tables : List ℤ → List ℕ → List ℕ → List ℕ → RowTables
tables c n w p = record { cells = c; nulls = n; widths = w; places = p }

-- There is room for n rows
pub record Space (n : ℕ) (T : RowTables) : Type 0 where
  pub numbers : n * 32 ≤ length T.cells
  pub sets : n ≤ length T.nulls
  pub widths_there : n ≤ length T.widths
  pub places_there : n ≤ length T.places

-- The tables are as long as others
pub record AsLong (T U : RowTables) : Type 0 where
  pub numbers : length T.cells ≡ length U.cells
  pub sets : length T.nulls ≡ length U.nulls
  pub widths_there : length T.widths ≡ length U.widths
  pub places_there : length T.places ≡ length U.places

pub as_long : (T : RowTables) → AsLong T T
as_long T = record { numbers = refl; sets = refl; widths_there = refl; places_there = refl }

pub as_long_too : {T U S : RowTables} → AsLong S U → AsLong U T → AsLong S T
as_long_too h k =
    record {
      numbers = h.numbers ∙ k.numbers;
      sets = h.sets ∙ k.sets;
      widths_there = h.widths_there ∙ k.widths_there;
      places_there = h.places_there ∙ k.places_there;
    }

pub space_for : {n : ℕ} {T U : RowTables} (m : ℕ) → Space n T → AsLong U T → m ≤ n → Space m U
space_for m s l h =
    record {
      numbers = omega (arith, s.numbers, l.numbers);
      sets = omega (arith, s.sets, l.sets);
      widths_there = omega (arith, s.widths_there, l.widths_there);
      places_there = omega (arith, s.places_there, l.places_there);
    }

-- The first r rows of the tables are those of `all`; there `rest` comes next
pub record Reading (all rest : List Placed) (r : ℕ) (T : RowTables) : Type 0 where
  pub next : drop r all ≡ rest
  pub few : r ≤ length all
  pub placed : (i : ℕ) → i < r → get_or T.places i 0 ≡ (get_or all i nowhere).stream
  pub rows : (i : ℕ) → i < r → row_in T.cells T.nulls T.widths i ≡ (get_or all i nowhere).row
  pub narrow : (i : ℕ) → i < r → get_or T.widths i 0 ≤ 32

-- From row r on to before row q the tables U have these rows, and before them those of T
abbrev pub Adds : List Placed → ℕ → ℕ → RowTables → RowTables → Type 0
Adds l r q T U = (all rest : List Placed) → Reading all (l ++ rest) r T → Reading all rest q U

-- Of the rows l those before k are read
abbrev pub Leads : List Placed → List Placed → ℕ → ℕ → RowTables → RowTables → Type 0
Leads l k r q T U = (all rest : List Placed) → Reading all (l ++ rest) r T → Reading all (k ++ rest) q U

pub leads_none : (l : List Placed) (r : ℕ) (T : RowTables) → Leads l l r r T T
leads_none l r T all rest h = h

pub leads_adds : {T U S : RowTables} (l x k : List Placed) (r q p : ℕ) → Leads l (x ++ k) r q T U → Adds x q p U S → Leads l k r p T S
leads_adds {T} {U} {S} l x k r q p f g all rest h = g all (k ++ rest) (subst (λ (y : List Placed). Reading all y q U) (append_assoc x k rest) (f all rest h))

-- ---- a row

part_is : {A : Type 0} (a n : ℕ) (l : List A) → a ≤ length l → take n (drop a l) ≡ drop a (take (a + n) l)
part_is a n l h = sym (ap (drop a) (take-add a n l) ∙ drop_at (take a l) (take n (drop a l)) a (length-take-le a l h))

-- its numbers, from place b on, one by one
pub cells_more : (s : List ℕ) (at b c : ℕ) (o l : List ℤ) (x : ℕ) (z : ℤ) → b + c < length l → take (b + c) l ≡ o ++ numbers_at s at c →
    x ≡ value (part (at + 4 + 8 * c) 8 s) → z ≡ signed x → take (b + (c + 1)) (set l (b + c) z) ≡ o ++ numbers_at s at (c + 1)
cells_more s at b c o l x z h e f g =
    let u : b + (c + 1) ≡ suc (b + c) = omega arith in
    let v : c + 1 ≡ suc c = omega arith in
    ap (λ (n : ℕ). take n (set l (b + c) z)) u ∙ take-suc-set l (b + c) z h
    ∙ ap₂ (λ (m : List ℤ) (y : ℤ). m ++ (y ∷ [])) e (g ∙ ap signed f)
    ∙ append_assoc o (numbers_at s at c) (signed (value (part (at + 4 + 8 * c) 8 s)) ∷ [])
    ∙ ap (λ (q : List ℤ). o ++ q) (sym (ap (numbers_at s at) v ∙ tab_more c (λ k. signed (value (part (at + 4 + 8 * k) 8 s)))))

pub cells_none : (s : List ℕ) (at b : ℕ) (l : List ℤ) → take (b + 0) l ≡ take b l ++ numbers_at s at 0
cells_none s at b l = let z : b + 0 ≡ b = omega arith in ap (λ (n : ℕ). take n l) z ∙ sym (append-nil (take b l))

pub cells_end : (s : List ℕ) (at b c w : ℕ) (o l : List ℤ) → c ≤ w → w ≤ c → take (b + c) l ≡ o ++ numbers_at s at c → take (b + w) l ≡ o ++ numbers_at s at w
cells_end s at b c w o l h k e = let z : w ≡ c = omega arith in ap (λ (n : ℕ). take (b + n) l) z ∙ e ∙ sym (ap (λ (n : ℕ). o ++ numbers_at s at n) z)

-- all of it: null set s, numbers ns, at place g
module _ (T : RowTables) (r s w g : ℕ) (ns cells : List ℤ) (room : Space (r + 1) T) (long : length cells ≡ length T.cells) (many : length ns ≡ w)
    (wide : w ≤ 32) (is : take (r * 32 + w) cells ≡ take (r * 32) T.cells ++ ns) where
  abbrev after : RowTables
  after = tables cells (set T.nulls r s) (set T.widths r w) (set T.places r g)

  -- the numbers before stay
  before : take (r * 32) cells ≡ take (r * 32) T.cells
  before =
      let l : length (take (r * 32) T.cells) ≡ r * 32 = length-take-le (r * 32) T.cells (omega (arith, room.numbers)) in
      sym (take-take (r * 32) (r * 32 + w) cells (omega arith)) ∙ ap (take (r * 32)) is ∙ take_at (take (r * 32) T.cells) ns (r * 32) l

  old_row : (i : ℕ) → i < r → get_or T.widths i 0 ≤ 32 → row_in cells (set T.nulls r s) (set T.widths r w) i ≡ row_in T.cells T.nulls T.widths i
  old_row i h k =
      let n : i ≡ r → ⊥ = λ e. omega arith in
      let m : ℕ = get_or T.widths i 0 in
      ap₂ (λ (a b : ℕ). row_of a (take b (drop (i * 32) cells))) (get_or-set_other T.nulls r i s 0 n) (get_or-set_other T.widths r i w 0 n)
      ∙ ap (row_of (get_or T.nulls i 0))
      (part_is (i * 32) m cells (omega (arith, room.numbers))
      ∙ ap (drop (i * 32))
      (sym (take-take (i * 32 + m) (r * 32) cells (omega arith)) ∙ ap (take (i * 32 + m)) before ∙ take-take (i * 32 + m) (r * 32) T.cells (omega arith))
      ∙ sym (part_is (i * 32) m T.cells (omega (arith, room.numbers))))

  new_row : row_in cells (set T.nulls r s) (set T.widths r w) r ≡ row_of s ns
  new_row =
      let l : length (take (r * 32) T.cells) ≡ r * 32 = length-take-le (r * 32) T.cells (omega (arith, room.numbers)) in
      ap₂ (λ (a b : ℕ). row_of a (take b (drop (r * 32) cells))) (get_or-set_same T.nulls r s 0 (omega (arith, room.sets)))
      (get_or-set_same T.widths r w 0 (omega (arith, room.widths_there)))
      ∙ ap (row_of s)
      (part_is (r * 32) w cells (omega (arith, room.numbers)) ∙ ap (drop (r * 32)) is ∙ drop_at (take (r * 32) T.cells) ns (r * 32) l)

  adds_row : Adds (place g (row_of s ns) ∷ []) r (r + 1) T after
  adds_row all rest h =
      record {
        next = sym (drop-drop 1 r all) ∙ ap (drop 1) h.next;
        few = omega (arith, some);
        placed = λ i k. placed i k (dec_lt i r);
        rows = λ i k. rows i k (dec_lt i r);
        narrow = λ i k. narrow i k (dec_lt i r);
      }
    where
      some : r < length all
      some = omega (arith, ap length h.next, length-drop r all)

      here : get_or all r nowhere ≡ place g (row_of s ns)
      here =
          let z : r + 0 ≡ r = omega arith in
          sym (get_or-drop r all 0 nowhere ∙ ap (λ (k : ℕ). get_or all k nowhere) z) ∙ ap (λ (l : List Placed). get_or l 0 nowhere) h.next

      placed : (i : ℕ) → i < r + 1 → Dec (i < r) → get_or (set T.places r g) i 0 ≡ (get_or all i nowhere).stream
      placed i k (yes l) = get_or-set_other T.places r i g 0 (λ e. omega arith) ∙ h.placed i l
      placed i k (no l) =
          let e : i ≡ r = omega arith in
          ap (λ (j : ℕ). get_or (set T.places r g) j 0) e ∙ get_or-set_same T.places r g 0 (omega (arith, room.places_there))
          ∙ sym (ap (λ (j : ℕ). (get_or all j nowhere).stream) e ∙ ap (λ (x : Placed). x.stream) here)

      rows : (i : ℕ) → i < r + 1 → Dec (i < r) → row_in cells (set T.nulls r s) (set T.widths r w) i ≡ (get_or all i nowhere).row
      rows i k (yes l) = old_row i l (h.narrow i l) ∙ h.rows i l
      rows i k (no l) =
          let e : i ≡ r = omega arith in
          ap (row_in cells (set T.nulls r s) (set T.widths r w)) e ∙ new_row
          ∙ sym (ap (λ (j : ℕ). (get_or all j nowhere).row) e ∙ ap (λ (x : Placed). x.row) here)

      narrow : (i : ℕ) → i < r + 1 → Dec (i < r) → get_or (set T.widths r w) i 0 ≤ 32
      narrow i k (yes l) = let e = get_or-set_other T.widths r i w 0 (λ e. omega arith) in omega (arith, e, h.narrow i l)
      narrow i k (no l) =
          let e : i ≡ r = omega arith in
          let a = ap (λ (j : ℕ). get_or (set T.widths r w) j 0) e ∙ get_or-set_same T.widths r w 0 (omega (arith, room.widths_there)) in omega (arith, a)

-- as the code fills it
pub adds_read : {T U : RowTables} (r s w g : ℕ) (ns : List ℤ) → Space (r + 1) T → AsLong U T → length ns ≡ w → w ≤ 32 →
    take (r * 32 + w) U.cells ≡ take (r * 32) T.cells ++ ns → U.nulls ≡ set T.nulls r s → U.widths ≡ set T.widths r w →
    U.places ≡ set T.places r g →
    Adds (place g (row_of s ns) ∷ []) r (r + 1) T U
adds_read {T} {U} r s w g ns room long many wide is n v p =
    subst (Adds (place g (row_of s ns) ∷ []) r (r + 1) T)
    (sym (ap (λ (x : List ℕ). tables U.cells x U.widths U.places) n
    ∙ ap₂ (λ (x y : List ℕ). tables U.cells (set T.nulls r s) x y) v p))
    (adds_row T r s w g ns U.cells room long.numbers many wide is)
