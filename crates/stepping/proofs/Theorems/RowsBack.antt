-- Rows as bytes, there and back (02, P3): "per stream, in node and stream order, a row count in four, then by row the null set in four and each
-- cell in eight, 0 for a null". Rows that fit, written, pass the form and are read as they were: `written_read`. Bytes that pass the form are
-- those that writing gives of the rows read, and these fit: `read_written`. So what gets no 26 for its form is just what writing gives.
use Rattle.std.specs.Prelude.{◌≡◌, refl, Bool, true, false, not, ◌&&◌, ◌||◌, ◌↔◌, List, [], ◌∷◌, ◌++◌, map, ℕ, zero, suc, ◌+◌, ◌*◌, ◌/◌, ◌^◌, ◌≤◌, ◌<◌, leb, ℤ, pos, length, get_or, take, drop}
use Rattle.std.proofs.Common.{sym, ap, ap₂, ◌∙◌, subst, append_assoc, append-nil, zero-mul, suc-mul, mul-le-mul_right, mod-lt, arith, eqb-true, eq-eqb, leb-true, le-leb, pow_mono, pow_pos, length-append, length-drop, take-append-drop, drop_of_length-le, take_at, drop_at, take-add, take-take, drop-drop, ext_get_or}
use Rattle.std.proofs.Math.Nat.{div-eq_of_lt}
use Rattle.std.proofs.Math.Pow.{split}
use Rattle.row_order.specs.Iso.{Cell, null, num, Row}
use Rattle.row_order.specs.Lists.{concat, All, all_nil, all_cons, tab}
use Rattle.row_order.specs.ListLaws.{all_map, all_append, length-tab, get_or-tab}
use Rattle.row_order.specs.Packed.{bit, cell_of}
use Rattle.scan.specs.Bytes.{AllBytes, part, zeros, le32}
use Rattle.scan.specs.Below.{all_at, all_intro, and_left, and_right}
use Rattle.scan.specs.ByteLaws.{length_part}
use Rattle.scan.specs.Parts.{part-part, part_right}
use Rattle.scan.specs.Words.{value, value-zero}
use Rattle.plan.specs.Forest.{none, tree}
use Rattle.plan.specs.Op.{SourceInfo, Op, source, filter, projection, union, repartition, coalesce, sort_op, merge_op, global_limit, local_limit, sort_merge_join, hash_join, output_requirement, partial_sort, aggregate, Plan}
use Rattle.plan.specs.WellFormed.{set_fits, widths, node_ok, nodes_ok, well_formed}
use Rattle.semantics.specs.Runs.{Streams, Each, each_nil, each_cons}
use Rattle.semantics.specs.SourceRows.{own as source_of, sources_of}
use Rattle.stepping.specs.RowBytes.{signed, unsigned, little_endian, row_size, cell_bytes_at, row_at, row_ok, row_place, stream_end, stream_at, stream_ok, streams_ok, streams_at, stream_widths, source_streams, form_ok, null_set, cell_bytes, row_bytes, stream_bytes, streams_bytes}
use Rattle.stepping.proofs.Theorems.NumberBytes.{value_bytes, Bytes, bytes_value, value_small, four_value, Signed64, unsigned_small, signed-unsigned, unsigned_signed, signed_fits, is_null, null_small, null-bit, set_again}

-- ---- what fits

-- "rows of signed 64-bit cells with a set of null columns"
abbrev pub FitCell : Cell → Type 0
FitCell null = Unit {0}
FitCell (num z) = Signed64 z

-- A row of w cells
pub record FitRow (w : ℕ) (x : Row) : Type 0 where
  pub cells : All FitCell x
  pub wide : length x ≡ w

-- A stream of rows of w cells: their count fits in four bytes, and so does a set of w columns
pub record FitStream (w : ℕ) (l : List Row) : Type 0 where
  pub few : length l < 2 ^ 32
  pub narrow : w ≤ 32
  pub rows : All (FitRow w) l

-- Streams of these widths, one for each
abbrev pub FitRows : List ℕ → Streams → Type 0
FitRows ws ss = Each FitStream ws ss

-- ---- pieces of one size, one after another

module _ {A : Type 0} (f : A → List ℕ) (z : ℕ) where
  length-pieces : {l : List A} → All (λ x. length (f x) ≡ z) l → length (concat (map f l)) ≡ length l * z
  length-pieces all_nil = sym (zero-mul z)
  length-pieces (all_cons {x = x} {l = l} e es) =
      length-append (f x) (concat (map f l)) ∙ omega (arith, e, length-pieces es, suc-mul (length l) z)

  -- piece i stands at i times the size
  piece : {l : List A} → All (λ x. length (f x) ≡ z) l → (rest : List ℕ) (d : A) (i : ℕ) → i < length l →
      part (i * z) z (concat (map f l) ++ rest) ≡ f (get_or l i d)
  piece all_nil rest d i h = absurd (omega arith)
  piece (all_cons {x = x} {l = l} e es) rest d zero h =
      rw (zero-mul, append_assoc) (take_at (f x) (concat (map f l) ++ rest) z e)
  piece (all_cons {x = x} {l = l} e es) rest d (suc i) h =
      let p : suc i * z ≡ length (f x) + i * z = omega (arith, suc-mul i z, e) in
      rw (p, append_assoc) (part_right (i * z) z (f x) (concat (map f l) ++ rest) ∙ piece es rest d i (omega arith))

-- A table of values whose bytes stand one after another
pieces : {A : Type 0} (f : A → List ℕ) (z : ℕ) (s : List ℕ) (n a : ℕ) (g : ℕ → A) → ((i : ℕ) → i < n → f (g i) ≡ part (a + i * z) z s) →
    concat (map f (tab n g)) ≡ part a (n * z) s
pieces f z s zero a g h = rw zero-mul
pieces f z s (suc n) a g h =
    let p : suc n * z ≡ z + n * z = omega (arith, suc-mul n z) in
    let q : a + 0 * z ≡ a = omega (arith, zero-mul z) in
    ap₂ ◌++◌ (h 0 (omega arith) ∙ ap (λ (b : ℕ). part b z s) q)
    (pieces f z s n (a + z) (λ i. g (suc i)) (λ i l. h (suc i) (omega arith) ∙ ap (λ (b : ℕ). part b z s) (next i))
    ∙ ap (take (n * z)) (sym (drop-drop z a s)))
    ∙ sym (ap (λ (k : ℕ). part a k s) p ∙ take-add z (n * z) (drop a s))
  where
    next : (i : ℕ) → a + suc i * z ≡ a + z + i * z
    next i = omega (arith, suc-mul i z)

-- A table is a list where they agree
tab_is : {A : Type 0} (d : A) (f : ℕ → A) (l : List A) (n : ℕ) → length l ≡ n → ((i : ℕ) → i < n → f i ≡ get_or l i d) → tab n f ≡ l
tab_is d f l n e h =
    ext_get_or d (tab n f) l (length-tab n f ∙ sym e)
    (λ i q. let p : i < n = omega (arith, length-tab n f) in get_or-tab n f d i p ∙ h i p)

-- The cells of a row that is read, each by its place
row_cells : (s : List ℕ) (a w : ℕ) → row_at s a w ≡ tab w (λ c. cell_of (bit (le32 s a) c) (signed (value (cell_bytes_at s a c))))
row_cells s a w =
    let g : ℕ → ℤ = λ c. signed (value (cell_bytes_at s a c)) in
    let e = length-tab w g in
    tab_is null (λ c. cell_of (bit (le32 s a) c) (get_or (tab w g) c (pos 0))) (tab w (λ c. cell_of (bit (le32 s a) c) (g c))) (length (tab w g))
    (length-tab w (λ c. cell_of (bit (le32 s a) c) (g c)) ∙ sym e)
    (λ c h. ap (cell_of (bit (le32 s a) c)) (get_or-tab w g (pos 0) c (omega arith))
    ∙ sym (get_or-tab w (λ k. cell_of (bit (le32 s a) k) (g k)) null c (omega arith)))

-- ---- written, then read

length_cell : (x : Cell) → length (cell_bytes x) ≡ 8
length_cell null = refl
length_cell (num z) = refl

cells-long : (x : Row) → All (λ c. length (cell_bytes c) ≡ 8) x
cells-long [] = all_nil
cells-long (c ∷ x) = all_cons (length_cell c) (cells-long x)

length_row : {w : ℕ} {x : Row} → FitRow w x → length (row_bytes x) ≡ row_size w
length_row {w} {x} h = omega (arith, length-pieces cell_bytes 8 (cells-long x))

-- A null has eight zeros, a number its own bytes
cell_back : (x : Cell) (p : List ℕ) → FitCell x → p ≡ cell_bytes x → cell_of (is_null x) (signed (value p)) ≡ x
cell_back null p h e = refl
cell_back (num z) p h e = ap num (ap (λ (l : List ℕ). signed (value l)) e ∙ ap signed (value_bytes 8 (unsigned z) (unsigned_small z h)) ∙ signed-unsigned z h)

cell_zero : (x : Cell) (p : List ℕ) → p ≡ cell_bytes x → not (is_null x) || zeros p ≡ true
cell_zero null p e = ap zeros e
cell_zero (num z) p e = refl

fit_at : {x : Row} → All FitCell x → (c : ℕ) → FitCell (get_or x c null)
fit_at all_nil c = tt
fit_at (all_cons h hs) zero = h
fit_at (all_cons h hs) (suc c) = fit_at hs c

-- The bytes of x stand at place a
module _ (s : List ℕ) (a w : ℕ) (x : Row) (fit : FitRow w x) (narrow : w ≤ 32) (h : part a (row_size w) s ≡ row_bytes x) where
  set_back : le32 s a ≡ null_set x
  set_back =
      four_value s a
      ∙ ap value (sym (take-take 4 (row_size w) (drop a s) (omega arith)) ∙ ap (take 4) h)
      ∙ value_bytes 4 (null_set x) (let m = pow_mono {i = length x} {j = 32} (omega (arith, fit.wide)) in omega (arith, null_small x))

  bytes_back : (c : ℕ) → c < w → cell_bytes_at s a c ≡ cell_bytes (get_or x c null)
  bytes_back c l =
      let p : a + 4 + 8 * c ≡ a + (4 + 8 * c) = omega arith in
      let q : 8 * c ≡ c * 8 = omega arith in
      ap (λ (k : ℕ). part k 8 s) p
      ∙ sym (part-part (4 + 8 * c) 8 a (row_size w) s (omega arith))
      ∙ ap (part (4 + 8 * c) 8) h
      ∙ part_right (8 * c) 8 (little_endian 4 (null_set x)) (concat (map cell_bytes x))
      ∙ ap₂ (λ (k : ℕ) (t : List ℕ). part k 8 t) q (sym (append-nil (concat (map cell_bytes x))))
      ∙ piece cell_bytes 8 (cells-long x) [] null c (omega (arith, fit.wide))

  bit_back : (c : ℕ) → c < w → bit (le32 s a) c ≡ is_null (get_or x c null)
  bit_back c l = ap (λ (n : ℕ). bit n c) set_back ∙ null-bit x c (omega (arith, fit.wide))

  row_back : row_at s a w ≡ x
  row_back =
      row_cells s a w
      ∙ tab_is null (λ c. cell_of (bit (le32 s a) c) (signed (value (cell_bytes_at s a c)))) x w fit.wide
      (λ c l. ap (λ (b : Bool). cell_of b (signed (value (cell_bytes_at s a c)))) (bit_back c l)
      ∙ cell_back (get_or x c null) (cell_bytes_at s a c) (fit_at fit.cells c) (bytes_back c l))

  row_ok_lem : row_ok s a w ≡ true
  row_ok_lem =
      ap₂ ◌&&◌ (eq-eqb (le32 s a / 2 ^ w) 0 (ap (λ (n : ℕ). n / 2 ^ w) set_back
      ∙ div-eq_of_lt (subst (λ (k : ℕ). null_set x < 2 ^ k) fit.wide (null_small x))))
      (all_intro (λ c. not (bit (le32 s a) c) || zeros (cell_bytes_at s a c)) w
      (λ c l. ap (λ (b : Bool). not b || zeros (cell_bytes_at s a c)) (bit_back c l) ∙ cell_zero (get_or x c null) (cell_bytes_at s a c) (bytes_back c l)))

fit_row : {w : ℕ} {l : List Row} → All (FitRow w) l → (i : ℕ) → i < length l → FitRow w (get_or l i [])
fit_row all_nil i h = absurd (omega arith)
fit_row (all_cons f fs) zero h = f
fit_row (all_cons f fs) (suc i) h = fit_row fs i (omega arith)

-- The bytes of l stand at place a, and then rest
module _ (s : List ℕ) (a w : ℕ) (l : List Row) (rest : List ℕ) (fit : FitStream w l) (h : drop a s ≡ stream_bytes l ++ rest) where
  after_count : drop a s ≡ little_endian 4 (length l) ++ (concat (map row_bytes l) ++ rest)
  after_count = h ∙ append_assoc (little_endian 4 (length l)) (concat (map row_bytes l)) rest

  rows_long : All (λ x. length (row_bytes x) ≡ row_size w) l
  rows_long = all_map (λ x f. length_row f) fit.rows

  count_back : le32 s a ≡ length l
  count_back =
      four_value s a
      ∙ ap (λ (t : List ℕ). value (take 4 t)) after_count
      ∙ value_bytes 4 (length l) fit.few

  place_back : (i : ℕ) → i < length l → part (row_place a w i) (row_size w) s ≡ row_bytes (get_or l i [])
  place_back i q =
      let p : a + 4 + i * row_size w ≡ a + (4 + i * row_size w) = omega arith in
      ap (λ (k : ℕ). part k (row_size w) s) p
      ∙ ap (take (row_size w)) (sym (drop-drop (4 + i * row_size w) a s) ∙ ap (drop (4 + i * row_size w)) after_count)
      ∙ part_right (i * row_size w) (row_size w) (little_endian 4 (length l)) (concat (map row_bytes l) ++ rest)
      ∙ piece row_bytes (row_size w) rows_long rest [] i q

  stream_back : stream_at s a w ≡ l
  stream_back = tab_is [] (λ i. row_at s (row_place a w i) w) l (le32 s a) (sym count_back)
      (λ i q. let p : i < length l = omega (arith, count_back) in
      row_back s (row_place a w i) w (get_or l i []) (fit_row fit.rows i p) fit.narrow (place_back i p))

  end_back : stream_end s a w ≡ a + (4 + length l * row_size w)
  end_back = ap (row_place a w) count_back ∙ omega arith

  long : length (stream_bytes l) ≡ 4 + length l * row_size w
  long = omega (arith, length-pieces row_bytes (row_size w) rows_long)

  room : a + (4 + length l * row_size w) ≤ length s
  room = omega (arith, ap length h, length-drop a s, length-append (stream_bytes l) rest, long)

  stream_ok_lem : stream_ok s a w ≡ true
  stream_ok_lem =
      ap₂ ◌&&◌ (le-leb (a + 4) (length s) (omega (arith, room)))
      (ap₂ ◌&&◌ (le-leb (stream_end s a w) (length s) (omega (arith, room, end_back)))
      (all_intro (λ i. row_ok s (row_place a w i) w) (le32 s a)
      (λ i q. let p : i < length l = omega (arith, count_back) in
      row_ok_lem s (row_place a w i) w (get_or l i []) (fit_row fit.rows i p) fit.narrow (place_back i p))))

  rest_back : drop (stream_end s a w) s ≡ rest
  rest_back =
      ap (λ (k : ℕ). drop k s) end_back
      ∙ sym (drop-drop (4 + length l * row_size w) a s)
      ∙ ap (drop (4 + length l * row_size w)) h
      ∙ drop_at (stream_bytes l) rest (4 + length l * row_size w) long

-- from place a on
streams_back : (s : List ℕ) (a : ℕ) {ws : List ℕ} {ss : Streams} → FitRows ws ss → a ≤ length s → drop a s ≡ streams_bytes ss →
    (streams_ok s a ws ≡ true) × (streams_at s a ws ≡ ss)
streams_back s a each_nil q h = (eq-eqb a (length s) (omega (arith, ap length h, length-drop a s)), refl)
streams_back s a (each_cons {x = w} {y = l} {l = ws} {m = ss} f fs) q h =
    let r = room s a w l (streams_bytes ss) f h in
    let e = end_back s a w l (streams_bytes ss) f h in
    let ih = streams_back s (stream_end s a w) fs (omega arith) (rest_back s a w l (streams_bytes ss) f h) in (
      ap₂ ◌&&◌ (stream_ok_lem s a w l (streams_bytes ss) f h) ih.0,
      ap₂ ◌∷◌ (stream_back s a w l (streams_bytes ss) f h) ih.1,
    )

-- Rows that fit, written, get no 26 for their form, and reading gives them back
pub written_read : (ws : List ℕ) (ss : Streams) → FitRows ws ss → (streams_ok (streams_bytes ss) 0 ws ≡ true) × (streams_at (streams_bytes ss) 0 ws ≡ ss)
written_read ws ss f = streams_back (streams_bytes ss) 0 f (omega arith) refl

-- ---- read, then written

all_bytes : (l : List ℕ) → ((i : ℕ) → i < length l → get_or l i 0 < 256) → Bytes l
all_bytes [] h = all_nil
all_bytes (x ∷ l) h = all_cons (h 0 (omega arith)) (all_bytes l (λ i q. h (suc i) (omega arith)))

drop_all : {P : ℕ → Type 0} (n : ℕ) {l : List ℕ} → All P l → All P (drop n l)
drop_all zero h = h
drop_all (suc n) all_nil = all_nil
drop_all (suc n) (all_cons h hs) = drop_all n hs

take_all : {P : ℕ → Type 0} (n : ℕ) {l : List ℕ} → All P l → All P (take n l)
take_all zero h = all_nil
take_all (suc n) all_nil = all_nil
take_all (suc n) (all_cons h hs) = all_cons h (take_all n hs)

all_tabbed : {A : Type 0} {P : A → Type 0} (n : ℕ) (f : ℕ → A) → ((i : ℕ) → i < n → P (f i)) → All P (tab n f)
all_tabbed zero f h = all_nil
all_tabbed (suc n) f h = all_cons (h 0 (omega arith)) (all_tabbed n (λ i. f (suc i)) (λ i q. h (suc i) (omega arith)))

eight_small : {p : List ℕ} → Bytes p → length p ≡ 8 → value p < 2 ^ 64
eight_small {p} h e = subst (λ (n : ℕ). value p < 2 ^ (8 * n)) e (value_small h)

cell_again : (b : Bool) {p : List ℕ} → Bytes p → length p ≡ 8 → not b || zeros p ≡ true → cell_bytes (cell_of b (signed (value p))) ≡ p
cell_again true {p} h e z = sym (ap₂ little_endian e (eqb-true (value p) 0 (value-zero p ∙ z))) ∙ bytes_value h
cell_again false {p} h e z =
    ap (little_endian 8) (unsigned_signed (value p) (eight_small h e)) ∙ ap (λ (n : ℕ). little_endian n (value p)) (sym e) ∙ bytes_value h

cell_fits : (b : Bool) {p : List ℕ} → Bytes p → length p ≡ 8 → FitCell (cell_of b (signed (value p)))
cell_fits true h e = tt
cell_fits false {p} h e = signed_fits (value p) (eight_small h e)

module _ (s : List ℕ) (by : Bytes s) where
  part_bytes : (a n : ℕ) → Bytes (part a n s)
  part_bytes a n = take_all n (drop_all a by)

  -- four bytes at a place, where there are four
  four_again : (a : ℕ) → a + 4 ≤ length s → little_endian 4 (le32 s a) ≡ part a 4 s
  four_again a h =
      ap (little_endian 4) (four_value s a) ∙ ap (λ (n : ℕ). little_endian n (value (part a 4 s))) (sym (length_part s a 4 h)) ∙ bytes_value (part_bytes a 4)

  four_small : (a : ℕ) → a + 4 ≤ length s → le32 s a < 2 ^ 32
  four_small a h =
      let q : value (part a 4 s) < 2 ^ 32 = subst (λ (n : ℕ). value (part a 4 s) < 2 ^ (8 * n)) (length_part s a 4 h) (value_small (part_bytes a 4)) in
      omega (arith, four_value s a)

  -- a part and the part behind it
  parts : (a m n : ℕ) → part a m s ++ part (a + m) n s ≡ part a (m + n) s
  parts a m n = sym (take-add m n (drop a s) ∙ ap (λ (t : List ℕ). part a m s ++ take n t) (drop-drop m a s))

  module _ (a w : ℕ) (room : a + row_size w ≤ length s) (ok : row_ok s a w ≡ true) where
    abbrev read_cell : ℕ → Cell
    read_cell c = cell_of (bit (le32 s a) c) (signed (value (cell_bytes_at s a c)))

    set_small : le32 s a < 2 ^ w
    set_small =
        let q : le32 s a / 2 ^ w ≡ 0 = eqb-true (le32 s a / 2 ^ w) 0 (and_left (set_fits w (le32 s a)) _ ok) in
        let e : le32 s a / 2 ^ w * 2 ^ w ≡ 0 = ap (λ (k : ℕ). k * 2 ^ w) q ∙ zero-mul (2 ^ w) in
        omega (arith, split (le32 s a) w, mod-lt (le32 s a) (pow_pos w))

    cell_long : (c : ℕ) → c < w → length (cell_bytes_at s a c) ≡ 8
    cell_long c l = length_part s (a + 4 + 8 * c) 8 (omega arith)

    null-zero : (c : ℕ) → c < w → not (bit (le32 s a) c) || zeros (cell_bytes_at s a c) ≡ true
    null-zero c l = all_at (λ c. not (bit (le32 s a) c) || zeros (cell_bytes_at s a c)) w (and_right (set_fits w (le32 s a)) _ ok) c l

    each_cell : (c : ℕ) → c < w → cell_bytes (read_cell c) ≡ part (a + 4 + c * 8) 8 s
    each_cell c l =
        let q : 8 * c ≡ c * 8 = omega arith in
        cell_again (bit (le32 s a) c) (part_bytes (a + 4 + 8 * c) 8) (cell_long c l) (null-zero c l) ∙ ap (λ (k : ℕ). part (a + 4 + k) 8 s) q

    row_again : row_bytes (row_at s a w) ≡ part a (row_size w) s
    row_again =
        let q : w * 8 ≡ 8 * w = omega arith in
        ap row_bytes (row_cells s a w)
        ∙ ap₂ ◌++◌ (ap (little_endian 4) (set_again w (le32 s a) (λ c. signed (value (cell_bytes_at s a c))) set_small) ∙ four_again a (omega arith))
        (pieces cell_bytes 8 s w (a + 4) read_cell each_cell ∙ ap (λ (k : ℕ). part (a + 4) k s) q)
        ∙ parts a 4 (8 * w)

    row_fits : FitRow w (row_at s a w)
    row_fits =
        let e = sym (row_cells s a w) in
        record {
          cells = subst (All FitCell) e
              (all_tabbed w read_cell (λ c l. cell_fits (bit (le32 s a) c) (part_bytes (a + 4 + 8 * c) 8) (cell_long c l)));
          wide = ap length (row_cells s a w) ∙ length-tab w read_cell;
        }

  module _ (a w : ℕ) (narrow : w ≤ 32) (ok : stream_ok s a w ≡ true) where
    front_in : a + 4 ≤ length s
    front_in = leb-true (a + 4) (length s) (and_left (leb (a + 4) (length s)) _ ok)

    end_in : stream_end s a w ≤ length s
    end_in = leb-true (stream_end s a w) (length s) (and_left (leb (stream_end s a w) (length s)) _ (and_right (leb (a + 4) (length s)) _ ok))

    row_in : (i : ℕ) → i < le32 s a → row_place a w i + row_size w ≤ length s
    row_in i l = omega (arith, end_in, suc-mul i (row_size w), mul-le-mul_right {m = suc i} {n = le32 s a} (row_size w) l)

    row_passes : (i : ℕ) → i < le32 s a → row_ok s (row_place a w i) w ≡ true
    row_passes i l = all_at (λ i. row_ok s (row_place a w i) w) (le32 s a)
        (and_right (leb (stream_end s a w) (length s)) _ (and_right (leb (a + 4) (length s)) _ ok)) i l

    stream_bytes_lem : stream_bytes (stream_at s a w) ≡ part a (4 + le32 s a * row_size w) s
    stream_bytes_lem =
        ap₂ ◌++◌ (ap (little_endian 4) (length-tab (le32 s a) (λ i. row_at s (row_place a w i) w)) ∙ four_again a front_in)
        (pieces row_bytes (row_size w) s (le32 s a) (a + 4) (λ i. row_at s (row_place a w i) w)
        (λ i l. row_again (row_place a w i) w (row_in i l) (row_passes i l)))
        ∙ parts a 4 (le32 s a * row_size w)

    stream_again : stream_bytes (stream_at s a w) ++ drop (stream_end s a w) s ≡ drop a s
    stream_again =
        let m : ℕ = 4 + le32 s a * row_size w in
        let q : a + 4 + le32 s a * row_size w ≡ a + (4 + le32 s a * row_size w) = omega arith in
        ap₂ ◌++◌ stream_bytes_lem (ap (λ (k : ℕ). drop k s) q ∙ sym (drop-drop m a s)) ∙ take-append-drop m (drop a s)

    stream_fits : FitStream w (stream_at s a w)
    stream_fits = record {
      few = (let e = length-tab (le32 s a) (λ i. row_at s (row_place a w i) w) in omega (arith, four_small a front_in));
      narrow = narrow;
      rows = all_tabbed (le32 s a) (λ i. row_at s (row_place a w i) w) (λ i l. row_fits (row_place a w i) w (row_in i l) (row_passes i l));
    }

  streams_again : (a : ℕ) {ws : List ℕ} → All (λ w. w ≤ 32) ws → streams_ok s a ws ≡ true →
      (streams_bytes (streams_at s a ws) ≡ drop a s) × FitRows ws (streams_at s a ws)
  streams_again a all_nil e = (sym (drop_of_length-le s {i = a} (omega (arith, eqb-true a (length s) e))), each_nil)
  streams_again a (all_cons {x = w} {l = ws} n ns) e =
      let ok = and_left (stream_ok s a w) (streams_ok s (stream_end s a w) ws) e in
      let ih = streams_again (stream_end s a w) ns (and_right (stream_ok s a w) (streams_ok s (stream_end s a w) ws) e) in (
        ap (λ (t : List ℕ). stream_bytes (stream_at s a w) ++ t) ih.0 ∙ stream_again a w n ok,
        each_cons (stream_fits a w n ok) ih.1,
      )

-- Bytes that get no 26 for their form are those that writing gives of the rows read, and these fit
pub read_written : (s : List ℕ) (ws : List ℕ) → AllBytes s → All (λ w. w ≤ 32) ws → streams_ok s 0 ws ≡ true →
    (streams_bytes (streams_at s 0 ws) ≡ s) × FitRows ws (streams_at s 0 ws)
read_written s ws h n e = streams_again s (all_bytes s h.below) 0 n e

-- So the form is a sentence on rows
pub form_exactly : (s : List ℕ) (ws : List ℕ) → AllBytes s → All (λ w. w ≤ 32) ws →
    (streams_ok s 0 ws ≡ true) ↔ ((ss : Streams) × FitRows ws ss × (s ≡ streams_bytes ss))
form_exactly s ws h n = (
  (λ e. let r = read_written s ws h n e in (streams_at s 0 ws, r.1, sym r.0)),
  (λ q. subst (λ (t : List ℕ). streams_ok t 0 ws ≡ true) (sym q.2) (written_read ws q.0 q.1).0),
)

-- ---- of a plan's sources: their widths are at most 32

abbrev Narrow : List SourceInfo → Type 0
Narrow l = All (λ w. w ≤ 32) (stream_widths l)

source-narrow : (o : Op) (ws : List ℕ) (l : List SourceInfo) → node_ok o ws ≡ true → Narrow l → Narrow (source_of o l)
source-narrow (source s) ws l e h = all_append (all_tabbed s.streams (λ k. s.width) (λ k q. leb-true s.width 32 (search (and_left, and_right)))) h
source-narrow filter ws l e q = q
source-narrow (projection cols) ws l e q = q
source-narrow union ws l e q = q
source-narrow (repartition p n h ks) ws l e q = q
source-narrow (coalesce f) ws l e q = q
source-narrow (sort_op p ks f) ws l e q = q
source-narrow (merge_op ks f) ws l e q = q
source-narrow (global_limit s f note) ws l e q = q
source-narrow (local_limit f note) ws l e q = q
source-narrow (sort_merge_join t on) ws l e q = q
source-narrow (hash_join t on) ws l e q = q
source-narrow (output_requirement ks d f) ws l e q = q
source-narrow (partial_sort p ks n f) ws l e q = q
source-narrow (aggregate ks n) ws l e q = q

sources_narrow : (f : Plan) (l : List SourceInfo) → nodes_ok f ≡ true → Narrow l → Narrow (sources_of f l)
sources_narrow none l e h = h
sources_narrow (tree o c r) l e h =
    source-narrow o (widths c) (sources_of c (sources_of r l)) (search and_left)
    (sources_narrow c (sources_of r l) (search (and_left, and_right)) (sources_narrow r l (search (and_left, and_right)) h))

pub plan_rows_back : (f : Plan) (s : List ℕ) → well_formed f ≡ true → AllBytes s → form_ok f s ≡ true →
    (streams_bytes (source_streams f s) ≡ s) × FitRows (stream_widths (sources_of f [])) (source_streams f s)
plan_rows_back f s w h e = read_written s (stream_widths (sources_of f [])) h (sources_narrow f [] (search (and_left, and_right)) all_nil) e
