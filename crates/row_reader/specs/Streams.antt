-- The rows of a stream and of a source's streams, one after another in the tables. Assumes nothing.
use Rattle.std.specs.Prelude.{◌≡◌, refl, true, List, [], ◌∷◌, ◌++◌, map, ℕ, suc, ◌+◌, ◌*◌, ◌-◌, ◌≤◌, ◌<◌, length}
use Rattle.std.proofs.Common.{sym, ap, ap₂, ◌∙◌, subst, append_assoc, arith}
use Rattle.std.proofs.lemmas.List.{map-append}
use Rattle.std.proofs.lemmas.Simd.{map-map}
use Rattle.row_order.specs.Lists.{tab}
use Rattle.scan.specs.Bytes.{le32}
use Rattle.stepping.specs.Outlets.{Placed, place, spread}
use Rattle.stepping.specs.RowBytes.{row_at, row_place, stream_end, stream_at, stream_ok, streams_at, rows_together}
use Rattle.row_bytes.specs.Cells.{tab_more}
use Rattle.row_bytes.specs.Rows.{row_inside}
use Rattle.row_bytes.specs.Streams.{alike, streams_fit, stream_room, alike_step, alike_none, fit_here, fit_next, count_more, count_end}
use Rattle.step_tables.proofs.FirstRows.{move_by}
use Rattle.row_reader.specs.Reading.{RowTables, AsLong, as_long, as_long_too, Reading, Adds, Leads, leads_none, leads_adds}

-- ---- a stream

-- The first i rows of the stream at `at`, at place g
abbrev pub first_rows : List ℕ → ℕ → ℕ → ℕ → ℕ → List Placed
first_rows s at w g i = map (place g) (tab i (λ j. row_at s (row_place at w j) w))

-- row i of n is inside
pub row_room : (s : List ℕ) (at w n i : ℕ) → stream_ok s at w ≡ true → n ≡ le32 s at → i < n → at + 4 + i * (4 + 8 * w) + (4 + 8 * w) ≤ length s
row_room s at w n i e f h = omega (arith, (stream_room s at w n e f).1, row_inside i n (4 + 8 * w) h)

module _ (s : List ℕ) (at w g : ℕ) where
  pub stream_start : (r : ℕ) (T : RowTables) → Adds (first_rows s at w g 0) r (r + 0) T T
  stream_start r T all rest k = let e : r ≡ r + 0 = omega arith in subst (λ (q : ℕ). Reading all rest q T) e k

  pub stream_more : {T U S : RowTables} (r i : ℕ) → Adds (first_rows s at w g i) r (r + i) T U →
      Adds (place g (row_at s (row_place at w i) w) ∷ []) (r + i) (r + i + 1) U S →
      Adds (first_rows s at w g (i + 1)) r (r + (i + 1)) T S
  stream_more {T} {U} {S} r i f h all rest k =
      let x : Placed = place g (row_at s (row_place at w i) w) in
      let e : r + i + 1 ≡ r + (i + 1) = omega arith in
      let z : i + 1 ≡ suc i = omega arith in
      let l : first_rows s at w g (i + 1) ≡ first_rows s at w g i ++ (x ∷ []) =
      ap (first_rows s at w g) z ∙ ap (map (place g)) (tab_more i (λ j. row_at s (row_place at w j) w))
      ∙ map-append (place g) (tab i (λ j. row_at s (row_place at w j) w)) (row_at s (row_place at w i) w ∷ []) in
      subst (λ (q : ℕ). Reading all rest q S) e
      (h all rest (f all (x ∷ rest)
      (subst (λ (y : List Placed). Reading all y r T) (ap (λ (y : List Placed). y ++ rest) l ∙ append_assoc (first_rows s at w g i) (x ∷ []) rest) k)))

  pub stream_all : {T U : RowTables} (r i n : ℕ) → i ≡ n → n ≡ le32 s at → Adds (first_rows s at w g i) r (r + i) T U →
      Adds (map (place g) (stream_at s at w)) r (r + n) T U
  stream_all {T} {U} r i n e f h =
      subst (λ (m : ℕ). Adds (first_rows s at w g m) r (r + n) T U) f (subst (λ (m : ℕ). Adds (first_rows s at w g m) r (r + m) T U) e h)

-- ---- a source's k streams from place a on, the first of them its stream j; out: the place of its stream 0

abbrev pub source_rows : List ℕ → ℕ → ℕ → ℕ → ℕ → ℕ → List Placed
source_rows s a w k out j = map (move_by out) (spread j (streams_at s a (alike k w)))

module _ (s : List ℕ) (a w k out j : ℕ) where
  source_step : 0 < k → source_rows s a w k out j ≡ map (place (out + j)) (stream_at s a w) ++ source_rows s (stream_end s a w) w (k - 1) out (suc j)
  source_step h =
      ap (λ (ws : List ℕ). map (move_by out) (spread j (streams_at s a ws))) (alike_step k w h)
      ∙ map-append (move_by out) (map (place j) (stream_at s a w)) (spread (suc j) (streams_at s (stream_end s a w) (alike (k - 1) w)))
      ∙ ap (λ (l : List Placed). l ++ source_rows s (stream_end s a w) w (k - 1) out (suc j)) (map-map (move_by out) (place j) (stream_at s a w))

  source_none : k ≤ 0 → source_rows s a w k out j ≡ []
  source_none h = ap (λ (ws : List ℕ). map (move_by out) (spread j (streams_at s a ws))) (alike_none k w h)

-- the loop: j of k streams are read, rows r to q; that at place a comes next. T: the tables before it
pub record InSource (s : List ℕ) (at w k out r : ℕ) (T : RowTables) (q a j : ℕ) (U : RowTables) : Type 0 where
  pub upto : j ≤ k
  pub long : AsLong U T
  pub form : streams_fit s a (alike (k - j) w) ≡ true
  pub count : q + rows_together s a (alike (k - j) w) ≡ r + rows_together s at (alike k w)
  pub leads : Leads (source_rows s at w k out 0) (source_rows s a w (k - j) out j) r q T U

module _ (s : List ℕ) (at w k out r : ℕ) (T : RowTables) where
  pub source_start : streams_fit s at (alike k w) ≡ true → InSource s at w k out r T r at 0 T
  source_start f =
      let z : k - 0 ≡ k = omega arith in
      record {
        upto = omega arith;
        long = as_long T;
        form = ap (λ (m : ℕ). streams_fit s at (alike m w)) z ∙ f;
        count = ap (λ (m : ℕ). r + rows_together s at (alike m w)) z;
        leads = subst (λ (m : ℕ). Leads (source_rows s at w k out 0) (source_rows s at w m out 0) r r T T) (sym z) (leads_none (source_rows s at w k out 0) r T);
      }

  module _ {q a j : ℕ} {U : RowTables} (i : InSource s at w k out r T q a j U) where
    pub stream_here : j < k → stream_ok s a w ≡ true
    stream_here h = fit_here s a w (k - j) (omega arith) i.form

    counts : (e n : ℕ) → j < k → n ≡ le32 s a → e ≡ stream_end s a w → q + n + rows_together s e (alike (k - j - 1) w) ≡ r + rows_together s at (alike k w)
    counts e n h f v = count_more s a w (k - j) e n q (r + rows_together s at (alike k w)) (omega arith) f v i.count

    pub rows_left : (n : ℕ) → j < k → n ≡ le32 s a → q + n ≤ r + rows_together s at (alike k w)
    rows_left n h f = omega (arith, counts (stream_end s a w) n h f refl)

    pub source_more : {S : RowTables} (p e : ℕ) → j < k → e ≡ stream_end s a w → p ≡ q + le32 s a → Adds (map (place (out + j)) (stream_at s a w)) q p U S →
        AsLong S U → InSource s at w k out r T p e (j + 1) S
    source_more {S} p e h v n g long =
        record {
          upto = omega arith;
          long = as_long_too long i.long;
          form = ap (λ (m : ℕ). streams_fit s e (alike m w)) (sym x) ∙ fit_next s a w (k - j) e (omega arith) i.form v;
          count = ap₂ (λ (m c : ℕ). c + rows_together s e (alike m w)) (sym x) n ∙ counts e (le32 s a) h refl v;
          leads = leads_adds (source_rows s at w k out 0) here (source_rows s e w (k - (j + 1)) out (j + 1)) r q p
              (subst (λ (b : List Placed). Leads (source_rows s at w k out 0) b r q T U) step i.leads) g;
        }
      where
        here : List Placed
        here = map (place (out + j)) (stream_at s a w)

        x : k - j - 1 ≡ k - (j + 1)
        x = omega arith

        step : source_rows s a w (k - j) out j ≡ here ++ source_rows s e w (k - (j + 1)) out (j + 1)
        step =
            let y : suc j ≡ j + 1 = omega arith in
            source_step s a w (k - j) out j (omega arith)
            ∙ ap (λ (b : ℕ). here ++ source_rows s b w (k - j - 1) out (suc j)) (sym v)
            ∙ ap₂ (λ (b d : ℕ). here ++ source_rows s e w b out d) x y

    pub source_all : k ≤ j → (q ≡ r + rows_together s at (alike k w)) × Adds (source_rows s at w k out 0) r q T U
    source_all h = (
      count_end s a w (k - j) q (r + rows_together s at (alike k w)) (omega arith) i.count,
      subst (λ (b : List Placed). Leads (source_rows s at w k out 0) b r q T U) (source_none s a w (k - j) out j (omega arith)) i.leads,
    )
