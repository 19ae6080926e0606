-- Streams as the code writes them (02, P3): "per stream, in node and stream order, a row count in four, then by row ..". Assumes nothing.
use Rattle.std.specs.Prelude.{◌≡◌, refl, Bool, true, false, cond, List, [], ◌∷◌, ◌++◌, map, ℕ, ◌+◌, ◌*◌, ◌-◌, ◌<◌, ◌≤◌, ℤ, eqb, length, get_or, take, drop}
use Rattle.std.proofs.Common.{sym, ap, ap₂, ◌∙◌, append_assoc, append-nil, arith, add-one, eq-eqb, ne_eqb, length-append, length-drop, take-append-drop, take-suc, take_all, take_at, drop_at, drop-drop, length-take-le}
use Rattle.scan.specs.Parts.{splice}
use Rattle.row_order.specs.Iso.{Row}
use Rattle.row_order.specs.Lists.{tab, concat}
use Rattle.row_order.specs.Packed.{row_of}
use Rattle.semantics.specs.Runs.{Streams}
use Rattle.stepping.specs.RowBytes.{little_endian, row_size, row_bytes, stream_bytes, streams_bytes}
use Rattle.step_tables.specs.Places.{on_place}
use Rattle.step_tables.specs.Shown.{tab_append}
use Rattle.step_tables.specs.Rows.{row_in, Inside}
use Rattle.step_tables.specs.Counting.{one, how_many}
use Rattle.row_writer.specs.Writing.{length_row}
use Rattle.row_writer.specs.Rows.{concat_parts, concat_last, length-row_bytes}

-- What the root puts out: its stream k is place k, its rows in the order of arrival
abbrev pub put_out : (ℕ → Row) → List ℕ → List ℕ → ℕ → Streams
put_out rows places order n = tab n (λ k. on_place rows places k order)

-- The bytes p over those of d from place a on
abbrev pub over : ℕ → List ℕ → List ℕ → List ℕ
over a p d = take a d ++ (p ++ drop (a + length p) d)

-- ---- bytes over bytes
pub over_part : (d p : List ℕ) (a e : ℕ) → a + length p ≡ e → splice d a (e - a) p ≡ over a p d
over_part d p a e h =
    let n : e - a ≡ length p = omega arith in
    ap (λ r. take a d ++ (p ++ r)) (ap (λ (k : ℕ). drop k (drop a d)) n ∙ drop-drop (length p) a d)

pub over-length : (a : ℕ) (p d : List ℕ) → a + length p ≤ length d → length (over a p d) ≡ length d
over-length a p d h =
    length-append (take a d) (p ++ drop (a + length p) d)
    ∙ omega (arith, length-take-le a d (omega arith), length-append p (drop (a + length p) d), length-drop (a + length p) d)

-- one after the other
pub over_more : (a b : ℕ) (p q d : List ℕ) → a ≤ length d → b ≡ a + length p → over b q (over a p d) ≡ over a (p ++ q) d
over_more a b p q d h e =
    let n : length (take a d ++ p) ≡ b = length-append (take a d) p ∙ omega (arith, length-take-le a d h) in
    let s : over a p d ≡ (take a d ++ p) ++ drop (a + length p) d = sym (append_assoc (take a d) p (drop (a + length p) d)) in
    let t : take b (over a p d) ≡ take a d ++ p = ap (take b) s ∙ take_at (take a d ++ p) (drop (a + length p) d) b n in
    let m : a + length p + length q ≡ a + length (p ++ q) = omega (arith, length-append p q) in
    let u : drop (b + length q) (over a p d) ≡ drop (a + length (p ++ q)) d =
    sym (drop-drop (length q) b (over a p d)) ∙ ap (drop (length q)) (ap (drop b) s ∙ drop_at (take a d ++ p) (drop (a + length p) d) b n)
    ∙ drop-drop (length q) (a + length p) d ∙ ap (λ (k : ℕ). drop k d) m in
    ap₂ (λ x y. x ++ (q ++ y)) t u ∙ append_assoc (take a d) p (q ++ drop (a + length (p ++ q)) d)
    ∙ ap (λ r. take a d ++ r) (sym (append_assoc p q (drop (a + length (p ++ q)) d)))

-- ---- the rows at a place
module _ (rows : ℕ → Row) (pl : List ℕ) (k : ℕ) where
  on_parts : (l m : List ℕ) → on_place rows pl k (l ++ m) ≡ on_place rows pl k l ++ on_place rows pl k m
  on_parts [] m = refl
  on_parts (r ∷ l) m = go (eqb (get_or pl r 0) k) (on_parts l m)
    where
      go : (t : Bool) → on_place rows pl k (l ++ m) ≡ on_place rows pl k l ++ on_place rows pl k m →
          cond t (rows r ∷ on_place rows pl k (l ++ m)) (on_place rows pl k (l ++ m)) ≡
          cond t (rows r ∷ on_place rows pl k l) (on_place rows pl k l) ++ on_place rows pl k m
      go true e = ap (λ q. rows r ∷ q) e
      go false e = e

  pub on_many : (l : List ℕ) → length (on_place rows pl k l) ≡ how_many (λ r. eqb (get_or pl r 0) k) l
  on_many [] = refl
  on_many (r ∷ l) = go (eqb (get_or pl r 0) k) (on_many l)
    where
      go : (t : Bool) → length (on_place rows pl k l) ≡ how_many (λ r. eqb (get_or pl r 0) k) l →
          length (cond t (rows r ∷ on_place rows pl k l) (on_place rows pl k l)) ≡ one t + how_many (λ r. eqb (get_or pl r 0) k) l
      go true e = omega arith
      go false e = omega arith

  abbrev pub rows_bytes : List ℕ → List ℕ
  rows_bytes l = concat (map row_bytes (on_place rows pl k l))

  pub rows_parts : (l m : List ℕ) → rows_bytes (l ++ m) ≡ rows_bytes l ++ rows_bytes m
  rows_parts l m = ap (λ q. concat (map row_bytes q)) (on_parts l m) ∙ concat_parts row_bytes (on_place rows pl k l) (on_place rows pl k m)

  -- of one row
  pub row_here : (r : ℕ) → get_or pl r 0 ≡ k → rows_bytes (r ∷ []) ≡ row_bytes (rows r)
  row_here r h = ap (λ (t : Bool). concat (map row_bytes (cond t (rows r ∷ []) []))) (eq-eqb (get_or pl r 0) k h) ∙ append-nil (row_bytes (rows r))

  pub row_elsewhere : (r : ℕ) → (get_or pl r 0 ≡ k → ⊥) → rows_bytes (r ∷ []) ≡ []
  row_elsewhere r h = ap (λ (t : Bool). concat (map row_bytes (cond t (rows r ∷ []) []))) (ne_eqb (get_or pl r 0) k h)

  -- ---- a stream, row by row
  module _ (order : List ℕ) where
    one_more : (j : ℕ) → j < length order → rows_bytes (take (j + 1) order) ≡ rows_bytes (take j order) ++ rows_bytes (get_or order j 0 ∷ [])
    one_more j h = ap (λ (i : ℕ). rows_bytes (take i order)) (add-one j) ∙ ap rows_bytes (take-suc order j 0 h) ∙ rows_parts (take j order) (get_or order j 0 ∷ [])

    not_longer : (j : ℕ) → length (rows_bytes (take j order)) ≤ length (rows_bytes order)
    not_longer j =
        let e = ap (λ l. length (rows_bytes l)) (sym (take-append-drop j order)) ∙ ap length (rows_parts (take j order) (drop j order))
        ∙ length-append (rows_bytes (take j order)) (rows_bytes (drop j order)) in
        omega (arith, e)

    -- j rows of the order are looked at, and those at the place are written from a on, up to `to`
    pub record Rowed (out₀ : List ℕ) (a j to : ℕ) (out : List ℕ) : Type 0 where
      pub low : j ≤ length order
      pub fits : a + length (rows_bytes order) ≤ length out₀
      pub up : to ≡ a + length (rows_bytes (take j order))
      pub is : out ≡ over a (rows_bytes (take j order)) out₀

    pub rowed_none : (out₀ : List ℕ) (a : ℕ) → a + length (rows_bytes order) ≤ length out₀ → Rowed out₀ a 0 a out₀
    rowed_none out₀ a h =
        let z : a + 0 ≡ a = omega arith in
        record { low = omega arith; fits = h; up = sym z; is = sym (ap (λ (i : ℕ). take a out₀ ++ drop i out₀) z ∙ take-append-drop a out₀) }

    module _ {out₀ : List ℕ} {a j to : ℕ} {out : List ℕ} (s : Rowed out₀ a j to out) where
      pub rowed_length : length out ≡ length out₀
      rowed_length = let f = s.fits in ap length s.is ∙ over-length a (rows_bytes (take j order)) out₀ (omega (arith, not_longer j))

      module _ (h : j < length order) where
        pub rowed_past : (get_or pl (get_or order j 0) 0 ≡ k → ⊥) → {to' : ℕ} {out' : List ℕ} → to' ≡ to → out' ≡ out → Rowed out₀ a (j + 1) to' out'
        rowed_past n f g =
            let e : rows_bytes (take (j + 1) order) ≡ rows_bytes (take j order) =
            one_more j h ∙ ap (λ q. rows_bytes (take j order) ++ q) (row_elsewhere (get_or order j 0) n) ∙ append-nil (rows_bytes (take j order)) in
            record { low = omega arith; fits = s.fits; up = omega (arith, s.up, ap length e); is = g ∙ s.is ∙ ap (λ q. over a q out₀) (sym e) }

        module _ (n : get_or pl (get_or order j 0) 0 ≡ k) where
          same_bytes : rows_bytes (take (j + 1) order) ≡ rows_bytes (take j order) ++ row_bytes (rows (get_or order j 0))
          same_bytes = one_more j h ∙ ap (λ q. rows_bytes (take j order) ++ q) (row_here (get_or order j 0) n)

          longer : length (rows_bytes (take (j + 1) order)) ≡ length (rows_bytes (take j order)) + length (row_bytes (rows (get_or order j 0)))
          longer = ap length same_bytes ∙ length-append (rows_bytes (take j order)) (row_bytes (rows (get_or order j 0)))

          pub rowed_room : to + length (row_bytes (rows (get_or order j 0))) ≤ length out
          rowed_room = omega (arith, rowed_length, longer, not_longer (j + 1), s.up, s.fits)

          pub rowed_here : {to' : ℕ} {out' : List ℕ} → to' ≡ to + length (row_bytes (rows (get_or order j 0))) →
              out' ≡ over to (row_bytes (rows (get_or order j 0))) out → Rowed out₀ a (j + 1) to' out'
          rowed_here e f =
              let w = s.fits in
              record {
                low = omega arith;
                fits = w;
                up = omega (arith, s.up, longer, e);
                is = f ∙ ap (over to (row_bytes (rows (get_or order j 0)))) s.is
                    ∙ over_more a to (rows_bytes (take j order)) (row_bytes (rows (get_or order j 0))) out₀ (omega arith) s.up
                    ∙ ap (λ q. over a q out₀) (sym same_bytes);
              }

    -- ---- the count before them. p: its bytes, x: the number
    module _ (out p : List ℕ) (at x : ℕ) (fits : at + length (stream_bytes (on_place rows pl k order)) ≤ length out)
        (counted : x ≡ how_many (λ r. eqb (get_or pl r 0) k) order) (is : p ≡ little_endian (length (take (at + 4 - at) (drop at out))) x) where
      count_put : splice out at (at + 4 - at) p ≡ over at (little_endian 4 (length (on_place rows pl k order))) out
      count_put =
          let n : at + 4 - at ≡ 4 = omega arith in
          let m : length (take (at + 4 - at) (drop at out)) ≡ 4 = length-take-le (at + 4 - at) (drop at out) (omega (arith, length-drop at out)) ∙ n in
          let g : p ≡ little_endian 4 (length (on_place rows pl k order)) = is ∙ ap₂ little_endian m (counted ∙ sym (on_many order)) in
          over_part out p at (at + 4) (omega (arith, ap length g)) ∙ ap (λ q. over at q out) g

      pub count_length : length (splice out at (at + 4 - at) p) ≡ length out
      count_length = ap length count_put ∙ over-length at (little_endian 4 (length (on_place rows pl k order))) out (omega arith)

      pub count_first : Rowed (splice out at (at + 4 - at) p) (at + 4) 0 (at + 4) (splice out at (at + 4 - at) p)
      count_first = rowed_none (splice out at (at + 4 - at) p) (at + 4) (omega (arith, count_length))

      pub stream_all : {j to : ℕ} {d : List ℕ} → length order ≤ j → Rowed (splice out at (at + 4 - at) p) (at + 4) j to d →
          (to ≡ at + length (stream_bytes (on_place rows pl k order))) × (d ≡ over at (stream_bytes (on_place rows pl k order)) out)
      stream_all {j} h s =
          let e : rows_bytes (take j order) ≡ rows_bytes order = ap rows_bytes (take_all j order h) in (
            omega (arith, s.up, ap length e),
            s.is ∙ ap₂ (λ q d. over (at + 4) q d) e count_put
                ∙ over_more at (at + 4) (little_endian 4 (length (on_place rows pl k order))) (rows_bytes order) out (omega arith) refl,
          )

-- ---- how many rows are at a place
many_last : (p : ℕ → Bool) (l : List ℕ) (x : ℕ) → how_many p (l ++ (x ∷ [])) ≡ how_many p l + one (p x)
many_last p [] x = omega arith
many_last p (y ∷ l) x = omega (arith, many_last p l x)

module _ (pl : List ℕ) (k : ℕ) (order : List ℕ) where
  -- of the first j of the order
  pub record Counted (j count : ℕ) : Type 0 where
    pub low : j ≤ length order
    pub few : count ≤ j
    pub is : count ≡ how_many (λ r. eqb (get_or pl r 0) k) (take j order)

  pub counted_none : Counted 0 0
  counted_none = record { low = omega arith; few = omega arith; is = refl }

  module _ {j count : ℕ} (s : Counted j count) (h : j < length order) where
    next : how_many (λ r. eqb (get_or pl r 0) k) (take (j + 1) order) ≡ count + one (eqb (get_or pl (get_or order j 0) 0) k)
    next =
        ap (λ (i : ℕ). how_many (λ r. eqb (get_or pl r 0) k) (take i order)) (add-one j) ∙ ap (how_many (λ r. eqb (get_or pl r 0) k)) (take-suc order j 0 h)
        ∙ many_last (λ r. eqb (get_or pl r 0) k) (take j order) (get_or order j 0) ∙ ap (λ (i : ℕ). i + one (eqb (get_or pl (get_or order j 0) 0) k)) (sym s.is)

    pub counted_here : {c : ℕ} → get_or pl (get_or order j 0) 0 ≡ k → c ≡ count + 1 → Counted (j + 1) c
    counted_here e g =
        let f = s.few in
        record { low = omega arith; few = omega arith; is = omega (arith, next, ap one (eq-eqb (get_or pl (get_or order j 0) 0) k e)) }

    pub counted_past : {c : ℕ} → (get_or pl (get_or order j 0) 0 ≡ k → ⊥) → c ≡ count → Counted (j + 1) c
    counted_past n g =
        let f = s.few in
        record { low = omega arith; few = omega arith; is = omega (arith, next, ap one (ne_eqb (get_or pl (get_or order j 0) 0) k n)) }

  pub counted_all : {j count : ℕ} → length order ≤ j → Counted j count → count ≡ how_many (λ r. eqb (get_or pl r 0) k) order
  counted_all {j} h s = s.is ∙ ap (how_many (λ r. eqb (get_or pl r 0) k)) (take_all j order h)

-- ---- row r of the tables
module _ (cells : List ℤ) (nulls widths : List ℕ) (r : ℕ) (s : Inside r cells nulls widths) where
  pub wide_row : length (row_in cells nulls widths r) ≡ get_or widths r 0
  wide_row =
      let a = s.narrow in let b = s.numbers in
      length_row (get_or nulls r 0) (take (get_or widths r 0) (drop (r * 32) cells))
      ∙ length-take-le (get_or widths r 0) (drop (r * 32) cells) (omega (arith, length-drop (r * 32) cells))

  pub row_size_lem : length (row_bytes (row_in cells nulls widths r)) ≡ row_size (get_or widths r 0)
  row_size_lem = length-row_bytes (row_in cells nulls widths r) ∙ ap row_size wide_row

  -- what the code lends of the cells
  pub row_put : (out p : List ℕ) (at : ℕ) → p ≡ row_bytes (row_of (get_or nulls r 0) (take (r * 32 + get_or widths r 0 - r * 32) (drop (r * 32) cells))) →
      (at + 4 + 8 * get_or widths r 0 ≡ at + length (row_bytes (row_in cells nulls widths r)))
      × (splice out at (at + 4 + 8 * get_or widths r 0 - at) p ≡ over at (row_bytes (row_in cells nulls widths r)) out)
  row_put out p at e =
      let w : r * 32 + get_or widths r 0 - r * 32 ≡ get_or widths r 0 = omega arith in
      let g : p ≡ row_bytes (row_in cells nulls widths r) = e ∙ ap (λ (n : ℕ). row_bytes (row_of (get_or nulls r 0) (take n (drop (r * 32) cells)))) w in (
        omega (arith, row_size_lem),
        over_part out p at (at + 4 + 8 * get_or widths r 0) (omega (arith, ap length g, row_size_lem)) ∙ ap (λ q. over at q out) g,
      )

-- ---- streams one after another
pub streams_last : (n : ℕ) (f : ℕ → List Row) → streams_bytes (tab (n + 1) f) ≡ streams_bytes (tab n f) ++ stream_bytes (f n)
streams_last n f =
    let z : n + 0 ≡ n = omega arith in
    ap streams_bytes (tab_append n 1 f) ∙ concat_last stream_bytes (tab n f) (f (n + 0)) ∙ ap (λ (i : ℕ). streams_bytes (tab n f) ++ stream_bytes (f i)) z

streams_up : (m n : ℕ) (f : ℕ → List Row) → m ≤ n → length (streams_bytes (tab m f)) ≤ length (streams_bytes (tab n f))
streams_up m n f h =
    let e : m + (n - m) ≡ n = omega arith in
    let a = ap (λ (i : ℕ). length (streams_bytes (tab i f))) (sym e) ∙ ap (λ l. length (streams_bytes l)) (tab_append m (n - m) f)
    ∙ ap length (concat_parts stream_bytes (tab m f) (tab (n - m) (λ i. f (m + i))))
    ∙ length-append (streams_bytes (tab m f)) (streams_bytes (tab (n - m) (λ i. f (m + i)))) in
    omega (arith, a)

module _ (f : ℕ → List Row) (n : ℕ) where
  -- the first k streams are written, up to place `at`
  pub record Streamed (out₀ : List ℕ) (k at : ℕ) (out : List ℕ) : Type 0 where
    pub low : k ≤ n
    pub up : at ≡ 0 + length (streams_bytes (tab k f))
    pub is : out ≡ over 0 (streams_bytes (tab k f)) out₀

  pub streamed_none : (out₀ : List ℕ) → Streamed out₀ 0 0 out₀
  streamed_none out₀ = record { low = omega arith; up = refl; is = refl }

  module _ {out₀ : List ℕ} (fits : length (streams_bytes (tab n f)) ≤ length out₀) {k at : ℕ} {out : List ℕ} (s : Streamed out₀ k at out) where
    pub streamed_length : length out ≡ length out₀
    streamed_length = ap length s.is ∙ over-length 0 (streams_bytes (tab k f)) out₀ (omega (arith, streams_up k n f s.low))

    stream_longer : length (streams_bytes (tab (k + 1) f)) ≡ length (streams_bytes (tab k f)) + length (stream_bytes (f k))
    stream_longer = ap length (streams_last k f) ∙ length-append (streams_bytes (tab k f)) (stream_bytes (f k))

    pub streamed_room : k < n → at + length (stream_bytes (f k)) ≤ length out
    streamed_room h = omega (arith, s.up, streamed_length, stream_longer, streams_up (k + 1) n f (omega arith))

    pub streamed_more : {to : ℕ} {out' : List ℕ} → k < n → to ≡ at + length (stream_bytes (f k)) → out' ≡ over at (stream_bytes (f k)) out →
        Streamed out₀ (k + 1) to out'
    streamed_more h e g =
        record {
          low = omega arith;
          up = omega (arith, s.up, stream_longer, e);
          is = g ∙ ap (over at (stream_bytes (f k))) s.is ∙ over_more 0 at (streams_bytes (tab k f)) (stream_bytes (f k)) out₀ (omega arith) s.up
              ∙ ap (λ q. over 0 q out₀) (sym (streams_last k f));
        }

    pub streamed_all : n ≤ k → out ≡ streams_bytes (tab n f) ++ drop (length (streams_bytes (tab n f))) out₀
    streamed_all h =
        let l = s.low in
        let e : k ≡ n = omega arith in
        let z : 0 + length (streams_bytes (tab n f)) ≡ length (streams_bytes (tab n f)) = omega arith in
        s.is ∙ ap (λ (i : ℕ). over 0 (streams_bytes (tab i f)) out₀) e ∙ ap (λ (i : ℕ). streams_bytes (tab n f) ++ drop i out₀) z
