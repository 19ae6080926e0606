-- One cell in a constant column over all rows of a source, cell by cell. Assumes nothing.
use Rattle.std.specs.Prelude.{◌≡◌, refl, Bool, true, false, cond, not, ◌&&◌, ◌||◌, List, [], ◌∷◌, ◌++◌, ℕ, zero, suc, ◌+◌, ◌*◌, ◌-◌, ◌^◌, ◌≤◌, ◌<◌, eqb, pos, negsuc, length, get_or}
use Rattle.std.proofs.Common.{sym, ap, ap₂, ◌∙◌, arith, eq-eqb, ne_eqb, lt-ltb, le-ltb}
use Rattle.std.proofs.Math.Decide.{ℕ_discrete, dec_lt}
use Rattle.row_order.specs.Iso.{Cell, null, num, Row, cell, eqℤ, equal}
use Rattle.row_order.proofs.Order.{no_bool}
use Rattle.row_order.specs.Lists.{tab, concat}
use Rattle.row_order.specs.ListLaws.{length-tab, get_or-tab}
use Rattle.row_order.specs.Packed.{bit, cell_of}
use Rattle.scan.specs.Below.{and_assoc, all_none, all_first, all_more, all_fail, all_end}
use Rattle.scan.specs.Bytes.{le32, all_below}
use Rattle.scan.specs.Words.{value}
use Rattle.plan.specs.WellFormed.{every}
use Rattle.stepping.specs.RowBytes.{signed, cell_bytes_at, numbers_at, row_at, row_place, stream_end, stream_at, streams_at}
use Rattle.stepping.specs.Answers.{one_cell}
use Rattle.row_bytes.specs.Streams.{alike, rows_step, rows_none}

-- The cell of the row at place a in column c
abbrev pub cell_at : List ℕ → ℕ → ℕ → Cell
cell_at s a c = cell_of (bit (le32 s a) c) (signed (value (cell_bytes_at s a c)))

-- Row y has x's cell in column c
abbrev pub agrees : Row → ℕ → Row → Bool
agrees x c y = equal (cell x c) (cell y c)

pub cell-at : (s : List ℕ) (a w c : ℕ) → c < w → cell (row_at s a w) c ≡ cell_at s a c
cell-at s a w c h =
    let l = length-tab w (λ c. signed (value (cell_bytes_at s a c))) in
    get_or-tab (length (numbers_at s a w)) (λ c. cell_of (bit (le32 s a) c) (get_or (numbers_at s a w) c (pos 0))) null c (omega (arith, l))
    ∙ ap (cell_of (bit (le32 s a) c)) (get_or-tab w (λ c. signed (value (cell_bytes_at s a c))) (pos 0) c h)

-- ---- two cells

same_numbers : (x y : ℕ) → x < 2 ^ 64 → y < 2 ^ 64 → eqb x y ≡ eqℤ (signed x) (signed y)
same_numbers x y a b = go (dec_lt x (2 ^ 63)) (dec_lt y (2 ^ 63))
  where
    low : (z : ℕ) → z < 2 ^ 63 → signed z ≡ pos z
    low z h = ap (λ (t : Bool). cond t (pos z) (negsuc (2 ^ 64 - 1 - z))) (lt-ltb z (2 ^ 63) h)

    high : (z : ℕ) → 2 ^ 63 ≤ z → signed z ≡ negsuc (2 ^ 64 - 1 - z)
    high z h = ap (λ (t : Bool). cond t (pos z) (negsuc (2 ^ 64 - 1 - z))) (le-ltb z (2 ^ 63) h)

    mirrored : Dec (x ≡ y) → eqb x y ≡ eqb (2 ^ 64 - 1 - x) (2 ^ 64 - 1 - y)
    mirrored (yes e) = eq-eqb x y e ∙ sym (eq-eqb (2 ^ 64 - 1 - x) (2 ^ 64 - 1 - y) (omega arith))
    mirrored (no e) = ne_eqb x y e ∙ sym (ne_eqb (2 ^ 64 - 1 - x) (2 ^ 64 - 1 - y) (λ z. e (omega arith)))

    go : Dec (x < 2 ^ 63) → Dec (y < 2 ^ 63) → eqb x y ≡ eqℤ (signed x) (signed y)
    go (yes h) (yes k) = sym (ap₂ eqℤ (low x h) (low y k))
    go (yes h) (no k) = ne_eqb x y (λ z. omega arith) ∙ sym (ap₂ eqℤ (low x h) (high y (omega arith)))
    go (no h) (yes k) = ne_eqb x y (λ z. omega arith) ∙ sym (ap₂ eqℤ (high x (omega arith)) (low y k))
    go (no h) (no k) = mirrored (ℕ_discrete x y) ∙ sym (ap₂ eqℤ (high x (omega arith)) (high y (omega arith)))

module _ (s : List ℕ) (a b c : ℕ) where
  pub cells_null : (p q : Bool) → p ≡ bit (le32 s a) c → q ≡ bit (le32 s b) c → p ≡ true → q ≡ equal (cell_at s a c) (cell_at s b c)
  cells_null p q e f t =
      sym (ap₂ (λ (i j : Bool). equal (cell_of i (signed (value (cell_bytes_at s a c)))) (cell_of j (signed (value (cell_bytes_at s b c))))) (sym e ∙ t) (sym f) ∙ go q)
    where
      go : (q : Bool) → equal null (cell_of q (signed (value (cell_bytes_at s b c)))) ≡ q
      go true = refl
      go false = refl

  pub cells_differ : (p q : Bool) → p ≡ bit (le32 s a) c → q ≡ bit (le32 s b) c → p ≡ false → q ≡ true → false ≡ equal (cell_at s a c) (cell_at s b c)
  cells_differ p q e f t u =
      sym (ap₂ (λ (i j : Bool). equal (cell_of i (signed (value (cell_bytes_at s a c)))) (cell_of j (signed (value (cell_bytes_at s b c))))) (sym e ∙ t) (sym f ∙ u))

  pub cells_numbers : (p q : Bool) (x y : ℕ) → p ≡ bit (le32 s a) c → q ≡ bit (le32 s b) c → p ≡ false → q ≡ false → x < 2 ^ 64 → y < 2 ^ 64 →
      x ≡ value (cell_bytes_at s a c) → y ≡ value (cell_bytes_at s b c) → eqb x y ≡ equal (cell_at s a c) (cell_at s b c)
  cells_numbers p q x y e f t u h k g i =
      same_numbers x y h k ∙ ap₂ (λ (m n : ℕ). eqℤ (signed m) (signed n)) g i
      ∙ sym (ap₂ (λ (i j : Bool). equal (cell_of i (signed (value (cell_bytes_at s a c)))) (cell_of j (signed (value (cell_bytes_at s b c))))) (sym e ∙ t) (sym f ∙ u))

-- ---- the rows of one stream

every-tab : (p : Row → Bool) (n : ℕ) (f : ℕ → Row) → every p (tab n f) ≡ all_below (λ i. p (f i)) n
every-tab p zero f = sym (all_none (λ i. p (f i)))
every-tab p (suc n) f = ap (λ (b : Bool). p (f 0) && b) (every-tab p n (λ i. f (suc i))) ∙ sym (all_first (λ i. p (f i)) n)

module _ (s : List ℕ) (first at w c : ℕ) where
  -- Row i of the stream has the cell of the row at `first`
  abbrev pub row_agrees : ℕ → Bool
  row_agrees i = agrees (row_at s first w) c (row_at s (row_place at w i) w)

  rows_are : (n : ℕ) → n ≡ le32 s at → every (agrees (row_at s first w) c) (stream_at s at w) ≡ all_below row_agrees n
  rows_are n e = every-tab (agrees (row_at s first w) c) (le32 s at) (λ i. row_at s (row_place at w i) w) ∙ ap (all_below row_agrees) (sym e)

  flag_is : (i : ℕ) (q : Bool) → c < w → q ≡ equal (cell_at s first c) (cell_at s (row_place at w i) c) → q ≡ row_agrees i
  flag_is i q h g = g ∙ sym (ap₂ equal (cell-at s first w c h) (cell-at s (row_place at w i) w c h))

  pub agree_fails : (n i : ℕ) (q : Bool) → c < w → n ≡ le32 s at → i < n → q ≡ equal (cell_at s first c) (cell_at s (row_place at w i) c) → not q ≡ true →
      false ≡ every (agrees (row_at s first w) c) (stream_at s at w)
  agree_fails n i true h e l g u = no_bool u
  agree_fails n i false h e l g u = all_fail row_agrees i n l (sym (flag_is i false h g)) ∙ sym (rows_are n e)

  pub agree_more : (i : ℕ) (q : Bool) → c < w → all_below row_agrees i ≡ true → q ≡ equal (cell_at s first c) (cell_at s (row_place at w i) c) → not q ≡ false →
      all_below row_agrees (i + 1) ≡ true
  agree_more i true h f g u = all_more row_agrees i f (sym (flag_is i true h g))
  agree_more i false h f g u = no_bool (sym u)

  pub agree_end : (n i : ℕ) → n ≡ le32 s at → i ≤ n → n ≤ i → all_below row_agrees i ≡ true → true ≡ every (agrees (row_at s first w) c) (stream_at s at w)
  agree_end n i e a b f = all_end row_agrees i n a b f ∙ sym (rows_are n e)

-- ---- the rows of all streams

equal_self : (x : Cell) → equal x x ≡ true
equal_self null = refl
equal_self (num (pos n)) = eq-eqb n n refl
equal_self (num (negsuc n)) = eq-eqb n n refl

pub every_join : {A : Type 0} (p : A → Bool) (l m : List A) → every p (l ++ m) ≡ every p l && every p m
every_join p [] m = refl
every_join p (x ∷ l) m = ap (λ (b : Bool). p x && b) (every_join p l m) ∙ sym (and_assoc (p x) (every p l) (every p m))

every-concat : (p : Row → Bool) (ss : List (List Row)) → every p (concat ss) ≡ every (every p) ss
every-concat p [] = refl
every-concat p (l ∷ ss) = every_join p l (concat ss) ∙ ap (λ (b : Bool). every p l && b) (every-concat p ss)

-- the first row agrees with itself
one_first : (c : ℕ) (x : Row) (l : List Row) → one_cell c (x ∷ l) ≡ every (agrees x c) (x ∷ l)
one_first c x l = ap (λ (b : Bool). b && every (agrees x c) l) (sym (equal_self (cell x c)))

module _ (s : List ℕ) (a w k c : ℕ) (h : 0 < k) where
  -- a stream with a row: its first row is the source's
  pub one_here : (n : ℕ) → n ≡ le32 s a → 0 < n →
      one_cell c (concat (streams_at s a (alike k w))) ≡ every (every (agrees (row_at s (a + 4) w) c)) (streams_at s a (alike k w))
  one_here n e l = go (le32 s a) refl (omega arith) ∙ every-concat (agrees (row_at s (a + 4) w) c) (streams_at s a (alike k w))
    where
      rest : List Row
      rest = concat (streams_at s (stream_end s a w) (alike (k - 1) w))

      go : (m : ℕ) → le32 s a ≡ m → 0 < m → one_cell c (concat (streams_at s a (alike k w))) ≡ every (agrees (row_at s (a + 4) w) c) (concat (streams_at s a (alike k w)))
      go zero q l = absurd (omega arith)
      go (suc m) q l =
          let z : a + 4 + 0 * (4 + 8 * w) ≡ a + 4 = omega arith in
          let r : concat (streams_at s a (alike k w)) ≡ row_at s (a + 4) w ∷ (tab m (λ i. row_at s (row_place a w (suc i)) w) ++ rest) =
          rows_step s a w k h ∙ ap (λ (n : ℕ). tab n (λ i. row_at s (row_place a w i) w) ++ rest) q
          ∙ ap (λ (b : ℕ). row_at s b w ∷ (tab m (λ i. row_at s (row_place a w (suc i)) w) ++ rest)) z in
          ap (one_cell c) r ∙ one_first c (row_at s (a + 4) w) (tab m (λ i. row_at s (row_place a w (suc i)) w) ++ rest)
          ∙ sym (ap (every (agrees (row_at s (a + 4) w) c)) r)

  -- a stream without rows
  pub one_next : (n e : ℕ) (x : Bool) → n ≡ le32 s a → n ≤ 0 → e ≡ stream_end s a w → one_cell c (concat (streams_at s a (alike k w))) ≡ x →
      one_cell c (concat (streams_at s e (alike (k - 1) w))) ≡ x
  one_next n e x g l v f =
      let z : le32 s a ≡ 0 = omega arith in
      ap (λ (b : ℕ). one_cell c (concat (streams_at s b (alike (k - 1) w)))) v
      ∙ sym (ap (one_cell c) (rows_step s a w k h ∙ ap (λ (n : ℕ). tab n (λ i. row_at s (row_place a w i) w) ++ concat (streams_at s (stream_end s a w) (alike (k - 1) w))) z))
      ∙ f

pub one_end : (s : List ℕ) (a w k c : ℕ) (x : Bool) → k ≤ 0 → one_cell c (concat (streams_at s a (alike k w))) ≡ x → true ≡ x
one_end s a w k c x h f = sym (ap (one_cell c) (rows_none s a w k h)) ∙ f

-- ---- a column that the set has, or not

-- The test of column c
abbrev pub constant_ok : ℕ → List ℕ → ℕ → ℕ → ℕ → ℕ → Bool
constant_ok set s at w k c = not (bit set c) || one_cell c (concat (streams_at s at (alike k w)))

module _ (set : ℕ) (s : List ℕ) (at w k c : ℕ) (p : Bool) (e : p ≡ bit set c) where
  pub constant_in : (r : Bool) → p ≡ true → r ≡ one_cell c (concat (streams_at s at (alike k w))) → r ≡ constant_ok set s at w k c
  constant_in r t f = f ∙ ap (λ (x : Bool). not x || one_cell c (concat (streams_at s at (alike k w)))) (sym t ∙ e)

  pub constant_out : p ≡ false → true ≡ constant_ok set s at w k c
  constant_out t = ap (λ (x : Bool). not x || one_cell c (concat (streams_at s at (alike k w)))) (sym t ∙ e)

pub flag_false : (q b : Bool) → q ≡ b → not q ≡ true → b ≡ false
flag_false true b e f = no_bool f
flag_false false b e f = sym e
