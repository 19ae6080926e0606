-- A row that becomes the row of some of its columns: "projection picks columns" (01). Assumes nothing.
use Rattle.std.specs.Prelude.{◌≡◌, refl, Bool, true, false, ◌&&◌, ◌||◌, ◌⊎◌, List, ◌++◌, map, ℕ, zero, suc, ◌+◌, ◌-◌, ◌*◌, ◌<◌, ◌≤◌, ℤ, pos, ltb, leb, length, get_or, set, take, drop}
use Rattle.std.proofs.Common.{sym, ap, ap₂, ◌∙◌, subst, inl, inr, arith, ltb-true, lt-ltb, le-leb, length-take, length-drop, length-set, length-take-le, get_or-take, get_or-drop, get_or-set_same, get_or-set_other, ext_get_or}
use Rattle.std.proofs.Common.{take_all}
use Rattle.std.proofs.Math.Decide.{dec_lt}
use Rattle.std.proofs.Math.Seq.{paste, paste-zero, paste-suc}
use Rattle.std.proofs.lemmas.Slice.{put_mid-paste}
use borrow.Rule.Slice.PartMut.{put_mid}
use Rattle.std.proofs.lemmas.Bool.{lt-leb}
use Rattle.std.proofs.lemmas.List.{length-map}
use Rattle.std.proofs.Math.ListN.{get_or-map}
use Rattle.row_order.specs.Iso.{cell}
use Rattle.row_order.specs.Packed.{bit, cell_of, row_of, null_at}
use Rattle.row_order.proofs.Comparing.{cell-at, null_within, null-past}
use Rattle.row_order.specs.ListLaws.{length-tab, get_or-tab}
use Rattle.semantics.specs.Runs.{proj}
use Rattle.column_sets.specs.Sets.{Holding, below}
use Rattle.step_tables.specs.Rows.{row_in, Inside}

-- Each column is one of w
abbrev pub Columns : List ℕ → ℕ → Type 0
Columns cols w = (j : ℕ) → j < length cols → get_or cols j 0 < w

-- Row r is now the row of its columns cols; every other row is as it was
pub record Projected (cells : List ℤ) (nulls widths : List ℕ) (r : ℕ) (cols : List ℕ) (cells' : List ℤ) (nulls' widths' : List ℕ) : Type 0 where
  pub row : row_in cells' nulls' widths' r ≡ proj cols (row_in cells nulls widths r)
  pub others : (q : ℕ) → (q ≡ r → ⊥) → get_or widths q 0 ≤ 32 → row_in cells' nulls' widths' q ≡ row_in cells nulls widths q
  pub width : widths' ≡ set widths r (length cols)
  pub numbers : length cells' ≡ length cells
  pub sets : length nulls' ≡ length nulls
  pub entries : length widths' ≡ length widths

-- The first n of xs are the numbers in these columns of the row that starts at a
abbrev pub Picks : List ℤ → ℕ → List ℕ → ℕ → List ℤ → Type 0
Picks cells a cols n xs = (k : ℕ) → k < n → get_or xs k (pos 0) ≡ get_or cells (a + get_or cols k 0) (pos 0)

pub picks_more : (cells : List ℤ) (a : ℕ) (cols : List ℕ) (n : ℕ) (xs : List ℤ) (x : ℤ) → Picks cells a cols n xs → n < length xs →
    x ≡ get_or cells (a + get_or cols n 0) (pos 0) → Picks cells a cols (n + 1) (set xs n x)
picks_more cells a cols n xs x p h e k l = go (dec_lt k n)
  where
    go : Dec (k < n) → get_or (set xs n x) k (pos 0) ≡ get_or cells (a + get_or cols k 0) (pos 0)
    go (yes b) = get_or-set_other xs n k x (pos 0) (λ z. omega arith) ∙ p k b
    go (no b) =
        let z : k ≡ n = omega arith in
        ap (λ (j : ℕ). get_or (set xs n x) j (pos 0)) z ∙ get_or-set_same xs n x (pos 0) h ∙ e ∙ ap (λ (j : ℕ). get_or cells (a + get_or cols j 0) (pos 0)) (sym z)

-- The first n of xs stand in the table from a on; elsewhere it is as it was
pub record Stored (cells : List ℤ) (a : ℕ) (xs : List ℤ) (n : ℕ) (cells' : List ℤ) : Type 0 where
  pub here : (k : ℕ) → k < n → get_or cells' (a + k) (pos 0) ≡ get_or xs k (pos 0)
  pub apart : (x : ℕ) → (x < a) ⊎ (a + n ≤ x) → get_or cells' x (pos 0) ≡ get_or cells x (pos 0)
  pub long : length cells' ≡ length cells

pub stored_none : (cells : List ℤ) (a : ℕ) (xs : List ℤ) → Stored cells a xs 0 cells
stored_none cells a xs = record { here = λ k h. absurd (omega arith); apart = λ x h. refl; long = refl }

pub stored_more : {cells : List ℤ} {a : ℕ} {xs : List ℤ} {n : ℕ} {cells' : List ℤ} {x : ℤ} → Stored cells a xs n cells' → a + n < length cells →
    x ≡ get_or xs n (pos 0) → Stored cells a xs (n + 1) (set cells' (a + n) x)
stored_more {cells} {a} {xs} {n} {cells'} {x} s h e =
    record { here = λ k l. inn k (dec_lt k n) l; apart = λ y o. out y o; long = length-set cells' (a + n) x ∙ s.long }
  where
    inn : (k : ℕ) → Dec (k < n) → k < n + 1 → get_or (set cells' (a + n) x) (a + k) (pos 0) ≡ get_or xs k (pos 0)
    inn k (yes b) l = get_or-set_other cells' (a + n) (a + k) x (pos 0) (λ z. omega arith) ∙ s.here k b
    inn k (no b) l =
        let z : k ≡ n = omega arith in
        ap (λ (j : ℕ). get_or (set cells' (a + n) x) (a + j) (pos 0)) z ∙ get_or-set_same cells' (a + n) x (pos 0) (omega (arith, s.long)) ∙ e
        ∙ ap (λ (j : ℕ). get_or xs j (pos 0)) (sym z)

    out : (y : ℕ) → (y < a) ⊎ (a + (n + 1) ≤ y) → get_or (set cells' (a + n) x) y (pos 0) ≡ get_or cells y (pos 0)
    out y (inl o) = get_or-set_other cells' (a + n) y x (pos 0) (λ z. omega arith) ∙ s.apart y (inl o)
    out y (inr o) = get_or-set_other cells' (a + n) y x (pos 0) (λ z. omega arith) ∙ s.apart y (inr (omega arith))

stored_pasted : (cells : List ℤ) (a : ℕ) (xs : List ℤ) (n : ℕ) → n ≤ length xs → a + n ≤ length cells → Stored cells a xs n (paste cells a xs n)
stored_pasted cells a xs zero h f = subst (λ q. Stored cells a xs 0 q) (paste-zero cells a xs) (stored_none cells a xs)
stored_pasted cells a xs (suc n) h f =
    let s : Stored cells a xs (n + 1) (set (paste cells a xs n) (a + n) (get_or xs n (pos 0))) =
    stored_more (stored_pasted cells a xs n (omega arith) (omega arith)) (omega arith) refl in
    subst (λ q. Stored cells a xs (suc n) q) (paste-suc cells a xs n (pos 0) (omega arith) h)
    (subst (λ (k : ℕ). Stored cells a xs k (set (paste cells a xs n) (a + n) (get_or xs n (pos 0)))) (omega arith) s)

-- part: what the k numbers from a on are now
pub stored_copied : (cells : List ℤ) (a : ℕ) (xs : List ℤ) (n k : ℕ) (part : List ℤ) → n ≤ length xs → a + n ≤ length cells → part ≡ take n xs → n ≡ k →
    Stored cells a xs n (put_mid a k cells part)
stored_copied cells a xs n k part h f e l =
    let m : length (take n xs) ≡ n = length-take-le n xs h in
    let z = put_mid-paste a k cells part (take n xs) n e l (omega arith) ∙ ap (λ q. take a cells ++ q ++ drop (a + n) cells) (take_all n (take n xs) (omega arith)) in
    subst (λ q. Stored cells a xs n q) (sym z) (stored_pasted cells a xs n h f)

-- ---- a row's numbers in the table
part_length : (cells : List ℤ) (r v : ℕ) → v ≤ 32 → r * 32 + 32 ≤ length cells → length (take v (drop (r * 32) cells)) ≡ v
part_length cells r v h f = length-take-le v (drop (r * 32) cells) (omega (arith, length-drop (r * 32) cells))

part_at : (cells : List ℤ) (r v k : ℕ) → k < v → get_or (take v (drop (r * 32) cells)) k (pos 0) ≡ get_or cells (r * 32 + k) (pos 0)
part_at cells r v k h = get_or-take v (drop (r * 32) cells) k (pos 0) h ∙ get_or-drop (r * 32) cells k (pos 0)

and_true : (b : Bool) → b && true ≡ b
and_true true = refl
and_true false = refl

or_true : (b : Bool) → b || true ≡ true
or_true true = refl
or_true false = refl

or_false : (b : Bool) → b || false ≡ b
or_false true = refl
or_false false = refl

-- ---- a column past the row's width is null
-- each of 32 bits is one
ones : (c : ℕ) → c < 32 → bit 4294967295 c ≡ true
ones c h = sym (get_or-tab 32 (bit 4294967295) true c h) ∙ get_or-tab 32 (λ k. true) true c h

pub past_added : (n w past old : ℕ) → Holding (λ c. ltb c 32 && (leb w c && bit 4294967295 (c - w))) past → Holding (λ c. bit n c || bit past c) old →
    Holding (λ c. bit n c || (ltb c 32 && leb w c)) old
past_added n w past old p o c = o c ∙ ap (λ (t : Bool). bit n c || t) (p c ∙ go (ltb c 32) refl)
  where
    go : (t : Bool) → ltb c 32 ≡ t → t && (leb w c && bit 4294967295 (c - w)) ≡ t && leb w c
    go true e = ap (λ (t : Bool). leb w c && t) (ones (c - w) (omega (arith, ltb-true c 32 e))) ∙ and_true (leb w c)
    go false e = refl

-- xs: the row's numbers
null_from : (n old : ℕ) (xs : List ℤ) (c : ℕ) → Holding (λ c. bit n c || (ltb c 32 && leb (length xs) c)) old → c < 32 → bit old c ≡ null_at n xs c
null_from n old xs c o h = o c ∙ ap (λ (t : Bool). bit n c || (t && leb (length xs) c)) (lt-ltb c 32 h) ∙ go (dec_lt c (length xs))
  where
    go : Dec (c < length xs) → bit n c || leb (length xs) c ≡ null_at n xs c
    go (yes l) = ap (λ (t : Bool). bit n c || t) (lt-leb (length xs) c l) ∙ or_false (bit n c) ∙ null_within n xs c l
    go (no l) = ap (λ (t : Bool). bit n c || t) (le-leb (length xs) c (omega arith)) ∙ or_true (bit n c) ∙ null-past n xs c (omega arith)

-- old: row r's null set with the columns that it does not have; s: the new set
module _ (cells cells' : List ℤ) (nulls widths : List ℕ) (r old s : ℕ) (cols : List ℕ) (xs : List ℤ) (room : Inside r cells nulls widths)
    (few : length cols ≤ 32) (columns : Columns cols 32) (picks : Picks cells (r * 32) cols (length cols) xs)
    (stored : Stored cells (r * 32) xs (length cols) cells')
    (past : Holding (λ c. bit (get_or nulls r 0) c || (ltb c 32 && leb (get_or widths r 0) c)) old)
    (holds : Holding (below (length cols) (λ j. bit old (get_or cols j 0))) s) where
  row_is : row_in cells' (set nulls r s) (set widths r (length cols)) r ≡ proj cols (row_in cells nulls widths r)
  row_is =
      ap₂ (λ (n v : ℕ). row_of n (take v (drop (r * 32) cells'))) (get_or-set_same nulls r s 0 room.set)
      (get_or-set_same widths r (length cols) 0 room.width) ∙ ext_get_or (cell (row_of N xs₀) 0) (row_of s new) (map (cell (row_of N xs₀)) cols) same at
    where
      N : ℕ
      N = get_or nulls r 0

      W : ℕ
      W = get_or widths r 0

      -- the row's numbers before
      xs₀ : List ℤ
      xs₀ = take W (drop (r * 32) cells)

      new : List ℤ
      new = take (length cols) (drop (r * 32) cells')

      wide : length xs₀ ≡ W
      wide = part_length cells r W room.narrow room.numbers

      long : length new ≡ length cols
      long = part_length cells' r (length cols) few (omega (arith, stored.long, room.numbers))

      size : length (row_of s new) ≡ length cols
      size = length-tab (length new) (λ c. cell_of (bit s c) (get_or new c (pos 0))) ∙ long

      same : length (row_of s new) ≡ length (map (cell (row_of N xs₀)) cols)
      same = size ∙ sym (length-map cols (cell (row_of N xs₀)))

      is_null_lem : (i : ℕ) → i < length cols → bit s i ≡ null_at N xs₀ (get_or cols i 0)
      is_null_lem i h =
          holds i ∙ ap (λ (t : Bool). t && bit old (get_or cols i 0)) (lt-ltb i (length cols) h)
          ∙ null_from N old xs₀ (get_or cols i 0) (subst (λ (v : ℕ). Holding (λ c. bit N c || (ltb c 32 && leb v c)) old) (sym wide) past) (columns i h)

      -- the numbers are the same where the row has the column; elsewhere both are null
      is_cell : (i : ℕ) → i < length cols → (c : ℕ) → get_or cols i 0 ≡ c → Dec (c < W) →
          cell_of (null_at N xs₀ c) (get_or new i (pos 0)) ≡ cell_of (null_at N xs₀ c) (get_or xs₀ c (pos 0))
      is_cell i h c e (yes l) =
          ap (cell_of (null_at N xs₀ c)) (part_at cells' r (length cols) i h ∙ stored.here i h ∙ picks i h
          ∙ ap (λ (k : ℕ). get_or cells (r * 32 + k) (pos 0)) e ∙ sym (part_at cells r W c l))
      is_cell i h c e (no l) =
          let z : true ≡ null_at N xs₀ c = null-past N xs₀ c (omega (arith, wide)) in
          ap (λ (t : Bool). cell_of t (get_or new i (pos 0))) (sym z) ∙ ap (λ (t : Bool). cell_of t (get_or xs₀ c (pos 0))) z

      at : (i : ℕ) → i < length (row_of s new) → get_or (row_of s new) i (cell (row_of N xs₀) 0) ≡ get_or (map (cell (row_of N xs₀)) cols) i (cell (row_of N xs₀) 0)
      at i h =
          let k : i < length cols = omega (arith, size) in
          let c : ℕ = get_or cols i 0 in
          get_or-tab (length new) (λ c. cell_of (bit s c) (get_or new c (pos 0))) (cell (row_of N xs₀) 0) i (omega (arith, long))
          ∙ ap (λ (t : Bool). cell_of t (get_or new i (pos 0))) (is_null_lem i k) ∙ is_cell i k c refl (dec_lt c W)
          ∙ sym (cell-at N xs₀ c) ∙ sym (get_or-map (cell (row_of N xs₀)) cols i 0)

  others_are : (q : ℕ) → (q ≡ r → ⊥) → get_or widths q 0 ≤ 32 →
      row_in cells' (set nulls r s) (set widths r (length cols)) q ≡ row_in cells nulls widths q
  others_are q n h =
      ap₂ (λ (m v : ℕ). row_of m (take v (drop (q * 32) cells'))) (get_or-set_other nulls r q s 0 n) (get_or-set_other widths r q (length cols) 0 n)
      ∙ ap (row_of (get_or nulls q 0))
      (ext_get_or (pos 0) (take v (drop (q * 32) cells')) (take v (drop (q * 32) cells))
      (omega (
        arith,
        length-take v (drop (q * 32) cells'),
        length-take v (drop (q * 32) cells),
        length-drop (q * 32) cells',
        length-drop (q * 32) cells,
        stored.long,
      ))
      (λ i l. let k : i < v = omega (arith, length-take v (drop (q * 32) cells')) in
      part_at cells' q v i k ∙ stored.apart (q * 32 + i) (side (dec_lt q r) i (omega arith)) ∙ sym (part_at cells q v i k)))
    where
      v : ℕ
      v = get_or widths q 0

      side : Dec (q < r) → (i : ℕ) → i < 32 → (q * 32 + i < r * 32) ⊎ (r * 32 + length cols ≤ q * 32 + i)
      side (yes b) i l = inl (omega arith)
      side (no b) i l = inr (omega (arith, n))

  pub projected : Projected cells nulls widths r cols cells' (set nulls r s) (set widths r (length cols))
  projected =
      record {
        row = row_is;
        others = others_are;
        width = refl;
        numbers = stored.long;
        sets = length-set nulls r s;
        entries = length-set widths r (length cols);
      }
