-- What the functions over rows' bytes need: the null set's tests, a row's columns one by one, a stream's rows one by one, signed numbers. Assumes nothing.
use Rattle.std.specs.Prelude.{◌≡◌, refl, Bool, true, false, not, ◌&&◌, ◌||◌, List, ℕ, suc, ◌+◌, ◌*◌, ◌-◌, ◌/◌, ◌^◌, ◌≤◌, ◌<◌, eqb, leb, length, get_or, take, drop}
use Rattle.std.proofs.Common.{sym, ap, ap₂, ◌∙◌, subst, mul-le-mul, mul-le-mul_left, mul-le-mul_right, mul-one, suc-mul, arith, eq-eqb, ne_eqb, leb-true, le-leb, add-one, drop-cons, drop_of_length-le, length-append}
use Rattle.std.proofs.Math.Nat.{div-eq_of_lt}
use Rattle.std.proofs.lemmas.Bool.{lt-leb}
use Rattle.std.specs.Int.Bits.{bit_and}
use Rattle.row_order.proofs.Order.{no_bool}
use Rattle.row_order.specs.Lists.{concat}
use Rattle.row_order.specs.ListLaws.{length-tab}
use Rattle.row_order.specs.Packed.{bit}
use Rattle.row_order.proofs.Comparing.{masked}
use Rattle.plan.specs.WellFormed.{set_fits}
use Rattle.scan.specs.Below.{and_left, and_right, all_more, all_fail, all_end}
use Rattle.scan.specs.Bytes.{zeros, le32, all_below}
use Rattle.scan.specs.ByteLaws.{cut}
use Rattle.stepping.specs.RowBytes.{cell_bytes_at, row_ok, row_place, stream_end, stream_at, row_at, stream_ok, streams_at, streams_ok, rows_together}

pub set_whole : (s w : ℕ) → s < 2 ^ 32 → 32 ≤ w → w ≤ 32 → true ≡ set_fits w s
set_whole s w h a b = let e : w ≡ 32 = omega arith in
    sym (eq-eqb (s / 2 ^ w) 0 (ap (λ (n : ℕ). s / 2 ^ n) e ∙ div-eq_of_lt h))

-- the test of column c
abbrev pub column_ok : List ℕ → ℕ → ℕ → ℕ → Bool
column_ok s at nulls c = not (bit nulls c) || zeros (cell_bytes_at s at c)

pub cell_null : (s : List ℕ) (at nulls c : ℕ) (r : Bool) → bit_and (nulls / 2 ^ c) 1 ≡ 1 →
    r ≡ zeros (take (at + 4 + 8 * c + 8 - (at + 4 + 8 * c)) (drop (at + 4 + 8 * c) s)) → r ≡ column_ok s at nulls c
cell_null s at nulls c r t e = e ∙ ap zeros (cut s (at + 4 + 8 * c) 8) ∙
    ap (λ (b : Bool). not b || zeros (cell_bytes_at s at c)) (sym (sym (masked nulls c) ∙ eq-eqb (bit_and (nulls / 2 ^ c) 1) 1 t))

pub cell_plain : (s : List ℕ) (at nulls c : ℕ) → (bit_and (nulls / 2 ^ c) 1 ≡ 1 → ⊥) → true ≡ column_ok s at nulls c
cell_plain s at nulls c t = ap (λ (b : Bool). not b || zeros (cell_bytes_at s at c)) (sym (sym (masked nulls c) ∙ ne_eqb (bit_and (nulls / 2 ^ c) 1) 1 t))

-- ---- a row: its columns from 0 on
row_parts : (s : List ℕ) (at w : ℕ) → row_ok s at w ≡ set_fits w (le32 s at) && all_below (column_ok s at (le32 s at)) w
row_parts s at w = refl

pub row_set : (s : List ℕ) (at w nulls : ℕ) (r : Bool) → nulls ≡ le32 s at → r ≡ set_fits w nulls → not r ≡ true → false ≡ row_ok s at w
row_set s at w nulls true e f t = no_bool t
row_set s at w nulls false e f t = ap (λ (b : Bool). b && all_below (column_ok s at (le32 s at)) w) (f ∙ ap (set_fits w) e)

pub row_cell : (s : List ℕ) (at w nulls c : ℕ) (r q : Bool) → nulls ≡ le32 s at → r ≡ set_fits w nulls → not r ≡ false → c < w → q ≡ column_ok s at nulls c →
    not q ≡ true → false ≡ row_ok s at w
row_cell s at w nulls c false q e f t l g u = no_bool (sym t)
row_cell s at w nulls c true true e f t l g u = no_bool u
row_cell s at w nulls c true false e f t l g u =
    all_fail (column_ok s at (le32 s at)) c w l (sym (g ∙ ap (λ (n : ℕ). column_ok s at n c) e)) ∙
    ap (λ (b : Bool). b && all_below (column_ok s at (le32 s at)) w) (f ∙ ap (set_fits w) e)

pub row_end : (s : List ℕ) (at w nulls c : ℕ) (r : Bool) → nulls ≡ le32 s at → r ≡ set_fits w nulls → not r ≡ false → c ≤ w → w ≤ c →
    all_below (column_ok s at nulls) c ≡ true → true ≡ row_ok s at w
row_end s at w nulls c false e f t a b h = no_bool (sym t)
row_end s at w nulls c true e f t a b h =
    all_end (column_ok s at (le32 s at)) c w a b (subst (λ (n : ℕ). all_below (column_ok s at n) c ≡ true) e h) ∙
    ap (λ (b : Bool). b && all_below (column_ok s at (le32 s at)) w) (f ∙ ap (set_fits w) e)

pub column_more : (s : List ℕ) (at nulls c : ℕ) (q : Bool) → all_below (column_ok s at nulls) c ≡ true → q ≡ column_ok s at nulls c → not q ≡ false →
    all_below (column_ok s at nulls) (c + 1) ≡ true
column_more s at nulls c true h g u = all_more (column_ok s at nulls) c h (sym g)
column_more s at nulls c false h g u = no_bool (sym u)

-- ---- a stream: its rows from 0 on

-- 4294967295 rows of 32 columns
pub few_bytes : (n w : ℕ) → n < 4294967296 → w ≤ 32 → n * (4 + 8 * w) ≤ 1116691496700
few_bytes n w h l = mul-le-mul {n₁ = n} {m₁ = 4 + 8 * w} {n₂ = 4294967295} {m₂ = 260} (omega arith) (omega arith)

pub row_inside : (i n z : ℕ) → i < n → i * z + z ≤ n * z
row_inside i n z h = omega (arith, mul-le-mul_right {m = suc i} {n = n} z h, suc-mul i z)

abbrev pub rows_ok : List ℕ → ℕ → ℕ → ℕ → Bool
rows_ok s at w i = row_ok s (row_place at w i) w

module _ (s : List ℕ) (at w : ℕ) where
  pub stream_short : length s - at < 4 → at ≤ length s → false ≡ stream_ok s at w
  stream_short h l = ap (λ (b : Bool). b && (leb (stream_end s at w) (length s) && all_below (rows_ok s at w) (le32 s at))) (sym (lt-leb (at + 4) (length s) (omega arith)))

  whole : at + 4 ≤ length s → (b : Bool) → b ≡ leb (stream_end s at w) (length s) && all_below (rows_ok s at w) (le32 s at) → b ≡ stream_ok s at w
  whole h b e = e ∙ ap (λ (t : Bool). t && (leb (stream_end s at w) (length s) && all_below (rows_ok s at w) (le32 s at))) (sym (le-leb (at + 4) (length s) h))

  pub stream_cut : (n : ℕ) → at + 4 ≤ length s → n ≡ le32 s at → length s < at + 4 + n * (4 + 8 * w) → false ≡ stream_ok s at w
  stream_cut n h e l = whole h false (ap (λ (b : Bool). b && all_below (rows_ok s at w) (le32 s at))
      (sym (lt-leb (stream_end s at w) (length s) (subst (λ (m : ℕ). length s < at + 4 + m * (4 + 8 * w)) e l))))

  rows : (n : ℕ) → at + 4 ≤ length s → n ≡ le32 s at → at + 4 + n * (4 + 8 * w) ≤ length s → (b : Bool) → b ≡ all_below (rows_ok s at w) n → b ≡ stream_ok s at w
  rows n h e l b f = whole h b (f ∙ ap (all_below (rows_ok s at w)) e ∙ ap (λ (t : Bool). t && all_below (rows_ok s at w) (le32 s at))
      (sym (le-leb (stream_end s at w) (length s) (subst (λ (m : ℕ). at + 4 + m * (4 + 8 * w) ≤ length s) e l))))

  pub stream_row : (n i : ℕ) (q : Bool) → at + 4 ≤ length s → n ≡ le32 s at → at + 4 + n * (4 + 8 * w) ≤ length s → i < n → q ≡ rows_ok s at w i → not q ≡ true →
      false ≡ stream_ok s at w
  stream_row n i true h e l k g u = no_bool u
  stream_row n i false h e l k g u = rows n h e l false (all_fail (rows_ok s at w) i n k (sym g))

  pub stream_end_lem : (n i : ℕ) → at + 4 ≤ length s → n ≡ le32 s at → at + 4 + n * (4 + 8 * w) ≤ length s → i ≤ n → n ≤ i → all_below (rows_ok s at w) i ≡ true →
      true ≡ stream_ok s at w
  stream_end_lem n i h e l a b g = rows n h e l true (all_end (rows_ok s at w) i n a b g)

  pub row_more : (i : ℕ) (q : Bool) → all_below (rows_ok s at w) i ≡ true → q ≡ rows_ok s at w i → not q ≡ false → all_below (rows_ok s at w) (i + 1) ≡ true
  row_more i true h g u = all_more (rows_ok s at w) i h (sym g)
  row_more i false h g u = no_bool (sym u)

-- ---- streams one after another; b: what is left from place a and width number j on
module _ (s ws : List ℕ) where
  pub streams_fail : (a j : ℕ) (q : Bool) → j < length ws → streams_ok s a (drop j ws) ≡ streams_ok s 0 ws → q ≡ stream_ok s a (get_or ws j 0) → not q ≡ true →
      false ≡ streams_ok s 0 ws
  streams_fail a j true h e g u = no_bool u
  streams_fail a j false h e g u =
      ap (λ (b : Bool). b && streams_ok s (stream_end s a (get_or ws j 0)) (drop (suc j) ws)) g ∙ ap (streams_ok s a) (sym (drop-cons ws j 0 h)) ∙ e

  pub streams_more : (a j n : ℕ) (q : Bool) → j < length ws → streams_ok s a (drop j ws) ≡ streams_ok s 0 ws → q ≡ stream_ok s a (get_or ws j 0) → not q ≡ false →
      n ≡ le32 s a → streams_ok s (a + 4 + n * (4 + 8 * get_or ws j 0)) (drop (j + 1) ws) ≡ streams_ok s 0 ws
  streams_more a j n false h e g u m = no_bool (sym u)
  streams_more a j n true h e g u m =
      ap₂ (λ (k i : ℕ). streams_ok s (a + 4 + k * (4 + 8 * get_or ws j 0)) (drop i ws)) m (add-one j)
      ∙ ap (λ (b : Bool). b && streams_ok s (stream_end s a (get_or ws j 0)) (drop (suc j) ws)) g ∙ ap (streams_ok s a) (sym (drop-cons ws j 0 h)) ∙ e

  pub streams_end_lem : (a j : ℕ) → length ws ≤ j → streams_ok s a (drop j ws) ≡ streams_ok s 0 ws → eqb a (length s) ≡ streams_ok s 0 ws
  streams_end_lem a j h e = ap (streams_ok s a) (sym (drop_of_length-le ws h)) ∙ e

-- a stream that fits is inside
pub stream_inside : (s : List ℕ) (a w n : ℕ) (q : Bool) → q ≡ stream_ok s a w → not q ≡ false → n ≡ le32 s a → (a + 4 ≤ length s) × (a + 4 + n * (4 + 8 * w) ≤ length s)
stream_inside s a w n false g u m = no_bool (sym u)
stream_inside s a w n true g u m =
    let h : leb (stream_end s a w) (length s) ≡ true = and_left (leb (stream_end s a w) (length s)) (all_below (rows_ok s a w) (le32 s a))
    (and_right (leb (a + 4) (length s)) (leb (stream_end s a w) (length s) && all_below (rows_ok s a w) (le32 s a)) (sym g)) in (
      leb-true (a + 4) (length s) (and_left (leb (a + 4) (length s)) (leb (stream_end s a w) (length s) && all_below (rows_ok s a w) (le32 s a)) (sym g)),
      subst (λ (k : ℕ). a + 4 + k * (4 + 8 * w) ≤ length s) (sym m) (leb-true (stream_end s a w) (length s) h),
    )

-- ---- rows counted
pub record Counted (s ws : List ℕ) (a j n : ℕ) : Type 0 where
  pub ok : streams_ok s a (drop j ws) ≡ true
  pub few : n ≤ a
  pub sum : n + rows_together s a (drop j ws) ≡ rows_together s 0 ws

pub counted_start : (s ws : List ℕ) → streams_ok s 0 ws ≡ true → Counted s ws 0 0 0
counted_start s ws e = record { ok = e; few = omega arith; sum = omega arith }

pub more_bytes : (m w : ℕ) → m ≤ m * (4 + 8 * w)
more_bytes m w = omega (arith, mul-le-mul_left {m = 1} {n = 4 + 8 * w} m (omega arith), mul-one m)

module _ (s ws : List ℕ) (a j : ℕ) (h : j < length ws) where
  first : streams_ok s a (drop j ws) ≡ stream_ok s a (get_or ws j 0) && streams_ok s (stream_end s a (get_or ws j 0)) (drop (suc j) ws)
  first = ap (streams_ok s a) (drop-cons ws j 0 h)

  pub counted_inside : (n m : ℕ) → Counted s ws a j n → m ≡ le32 s a → (a + 4 ≤ length s) × (a + 4 + m * (4 + 8 * get_or ws j 0) ≤ length s)
  counted_inside n m c e = stream_inside s a (get_or ws j 0) m true
      (sym (and_left (stream_ok s a (get_or ws j 0)) (streams_ok s (stream_end s a (get_or ws j 0)) (drop (suc j) ws)) (sym first ∙ c.ok))) refl e

  pub counted_more : (n m : ℕ) → Counted s ws a j n → m ≡ le32 s a → Counted s ws (a + 4 + m * (4 + 8 * get_or ws j 0)) (j + 1) (n + m)
  counted_more n m c e =
      let p : a + 4 + m * (4 + 8 * get_or ws j 0) ≡ stream_end s a (get_or ws j 0) = ap (λ (k : ℕ). a + 4 + k * (4 + 8 * get_or ws j 0)) e in
      let l : length (stream_at s a (get_or ws j 0)) ≡ m = length-tab (le32 s a) (λ i. row_at s (row_place a (get_or ws j 0) i) (get_or ws j 0)) ∙ sym e in
      let t : rows_together s a (drop j ws) ≡ length (stream_at s a (get_or ws j 0)) + rows_together s (stream_end s a (get_or ws j 0)) (drop (suc j) ws) =
      ap (rows_together s a) (drop-cons ws j 0 h) ∙ length-append (stream_at s a (get_or ws j 0)) (concat (streams_at s (stream_end s a (get_or ws j 0)) (drop (suc j) ws))) in
      let z : rows_together s (a + 4 + m * (4 + 8 * get_or ws j 0)) (drop (j + 1) ws) ≡ rows_together s (stream_end s a (get_or ws j 0)) (drop (suc j) ws) =
      ap₂ (λ (k i : ℕ). rows_together s k (drop i ws)) p (add-one j) in
      record {
        ok = ap₂ (λ (k i : ℕ). streams_ok s k (drop i ws)) p (add-one j)
            ∙ and_right (stream_ok s a (get_or ws j 0)) (streams_ok s (stream_end s a (get_or ws j 0)) (drop (suc j) ws)) (sym first ∙ c.ok);
        few = omega (arith, c.few, more_bytes m (get_or ws j 0));
        sum = omega (arith, c.sum, t, l, z);
      }

pub counted_end : (s ws : List ℕ) (a j n : ℕ) → length ws ≤ j → Counted s ws a j n → n ≡ rows_together s 0 ws
counted_end s ws a j n h c = let e : rows_together s a (drop j ws) ≡ 0 = ap (rows_together s a) (drop_of_length-le ws h) in omega (arith, c.sum)
