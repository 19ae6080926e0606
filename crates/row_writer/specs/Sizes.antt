-- How many bytes the streams take, a row of the order at a time. Assumes nothing.
use Rattle.std.specs.Prelude.{◌≡◌, refl, Bool, cond, List, [], ◌∷◌, ◌++◌, ℕ, zero, suc, ◌+◌, ◌*◌, ◌<◌, ◌≤◌, ℤ, ltb, length, get_or, take}
use Rattle.std.proofs.Common.{sym, ap, ◌∙◌, arith, add-one, lt-ltb, le-ltb, length-append, take-suc, take_all}
use Rattle.std.proofs.Math.Decide.{dec_lt, ℕ_discrete}
use Rattle.row_order.specs.Iso.{Row}
use Rattle.stepping.specs.RowBytes.{row_bytes, stream_bytes, streams_bytes}
use Rattle.step_tables.specs.Places.{on_place}
use Rattle.step_tables.specs.Rows.{row_in, Room, inside}
use Rattle.step_tables.specs.Found.{Known}
use Rattle.row_writer.specs.Streams.{put_out, rows_bytes, rows_parts, row_here, row_elsewhere, row_size_lem, streams_last}

module _ (rows : ℕ → Row) (pl : List ℕ) where
  abbrev pub size_of : List ℕ → ℕ → ℕ
  size_of l n = length (streams_bytes (put_out rows pl l n))

  size_last : (l : List ℕ) (n : ℕ) → size_of l (suc n) ≡ size_of l n + (4 + length (rows_bytes rows pl n l))
  size_last l n =
      ap (size_of l) (sym (add-one n)) ∙ ap length (streams_last n (λ k. on_place rows pl k l))
      ∙ length-append (streams_bytes (put_out rows pl l n)) (stream_bytes (on_place rows pl n l)) ∙ omega arith

  pub size_none : (n : ℕ) → 4 * n ≡ size_of [] n
  size_none zero = refl
  size_none (suc n) = omega (arith, size_none n, size_last [] n)

  -- one row more: it counts where its place is among the n
  size_more : (l : List ℕ) (r n : ℕ) → size_of (l ++ (r ∷ [])) n ≡ size_of l n + cond (ltb (get_or pl r 0) n) (length (row_bytes (rows r))) 0
  size_more l r zero = omega (arith, ap (λ (t : Bool). cond t (length (row_bytes (rows r))) 0) (le-ltb (get_or pl r 0) 0 (omega arith)))
  size_more l r (suc n) =
      let i = size_more l r n in
      let a = ap length (rows_parts rows pl n l (r ∷ [])) ∙ length-append (rows_bytes rows pl n l) (rows_bytes rows pl n (r ∷ [])) in
      let b = go (dec_lt (get_or pl r 0) n) (ℕ_discrete (get_or pl r 0) n) in
      omega (arith, i, a, b, size_last l n, size_last (l ++ (r ∷ [])) n)
    where
      size : ℕ
      size = length (row_bytes (rows r))

      go : Dec (get_or pl r 0 < n) → Dec (get_or pl r 0 ≡ n) →
          cond (ltb (get_or pl r 0) n) size 0 + length (rows_bytes rows pl n (r ∷ [])) ≡ cond (ltb (get_or pl r 0) (suc n)) size 0
      go (yes h) (yes e) = absurd (omega arith)
      go (yes h) (no u) =
          omega (
            arith,
            ap (λ (t : Bool). cond t size 0) (lt-ltb (get_or pl r 0) n h),
            ap (λ (t : Bool). cond t size 0) (lt-ltb (get_or pl r 0) (suc n) (omega arith)),
            ap length (row_elsewhere rows pl n r u),
          )
      go (no v) (yes e) =
          omega (
            arith,
            ap (λ (t : Bool). cond t size 0) (le-ltb (get_or pl r 0) n (omega arith)),
            ap (λ (t : Bool). cond t size 0) (lt-ltb (get_or pl r 0) (suc n) (omega arith)),
            ap length (row_here rows pl n r e),
          )
      go (no v) (no u) =
          omega (
            arith,
            ap (λ (t : Bool). cond t size 0) (le-ltb (get_or pl r 0) n (omega arith)),
            ap (λ (t : Bool). cond t size 0) (le-ltb (get_or pl r 0) (suc n) (omega arith)),
            ap length (row_elsewhere rows pl n r u),
          )

-- ---- j rows of the order are looked at. Neither the cells nor the null sets matter
pub record Sized (widths pl order : List ℕ) (n j size : ℕ) : Type 0 where
  pub low : j ≤ length order
  pub few : size ≤ 4 * n + 260 * j
  pub is : (cells : List ℤ) (nulls : List ℕ) → Room (length pl) cells nulls widths → size ≡ size_of (row_in cells nulls widths) pl (take j order) n

module _ (widths pl order : List ℕ) (n : ℕ) where
  pub sized_none : Sized widths pl order n 0 (4 * n)
  sized_none = record { low = omega arith; few = omega arith; is = λ cells nulls R. size_none (row_in cells nulls widths) pl n }

  pub sized_all : {j size : ℕ} → length order ≤ j → Sized widths pl order n j size → (cells : List ℤ) (nulls : List ℕ) →
      Room (length pl) cells nulls widths → size ≡ size_of (row_in cells nulls widths) pl order n
  sized_all {j} h s cells nulls R = s.is cells nulls R ∙ ap (λ l. size_of (row_in cells nulls widths) pl l n) (take_all j order h)

  module _ {j size : ℕ} (h : j < length order) (s : Sized widths pl order n j size) where
    next : (cells : List ℤ) (nulls : List ℕ) → size_of (row_in cells nulls widths) pl (take (j + 1) order) n ≡
        size_of (row_in cells nulls widths) pl (take j order) n
        + cond (ltb (get_or pl (get_or order j 0) 0) n) (length (row_bytes (row_in cells nulls widths (get_or order j 0)))) 0
    next cells nulls =
        ap (λ (i : ℕ). size_of (row_in cells nulls widths) pl (take i order) n) (add-one j)
        ∙ ap (λ l. size_of (row_in cells nulls widths) pl l n) (take-suc order j 0 h) ∙ size_more (row_in cells nulls widths) pl (take j order) (get_or order j 0) n

    pub sized_past : {x : ℕ} → n ≤ get_or pl (get_or order j 0) 0 → x ≡ size → Sized widths pl order n (j + 1) x
    sized_past v g =
        let f = s.few in
        record {
          low = omega arith;
          few = omega arith;
          is = λ cells nulls R.
              let a = ap (λ (t : Bool). cond t (length (row_bytes (row_in cells nulls widths (get_or order j 0)))) 0) (le-ltb (get_or pl (get_or order j 0) 0) n v) in
              omega (arith, s.is cells nulls R, next cells nulls, a);
        }

    pub sized_here : {x : ℕ} → Known order (length pl) → get_or widths (get_or order j 0) 0 ≤ 32 → get_or pl (get_or order j 0) 0 < n →
        x ≡ size + (4 + 8 * get_or widths (get_or order j 0) 0) → Sized widths pl order n (j + 1) x
    sized_here known w v g =
        let f = s.few in
        record {
          low = omega arith;
          few = omega arith;
          is = λ cells nulls R.
              let a = ap (λ (t : Bool). cond t (length (row_bytes (row_in cells nulls widths (get_or order j 0)))) 0) (lt-ltb (get_or pl (get_or order j 0) 0) n v) in
              let b = row_size_lem cells nulls widths (get_or order j 0) (inside (get_or order j 0) R (known j h)) in
              omega (arith, s.is cells nulls R, next cells nulls, a, b);
        }
