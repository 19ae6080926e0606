-- What a dry run writes, from bytes to bytes: the rows of a run over the rows that came in, and where the plan passes the order check, no row out of
-- order. `writes_run`, `writes_in_order`.
use Rattle.std.specs.Prelude.{◌≡◌, refl, Bool, true, false, cond, not, ◌&&◌, List, [], ◌∷◌, ◌++◌, ℕ, zero, suc, ◌+◌, ◌<◌, ℤ, pos, ltb, length, get_or}
use Rattle.std.proofs.Common.{sym, ap, ap₂, ◌∙◌, subst, arith, get_or-append-add}
use Rattle.std.proofs.Math.ListN.{get_or-append}
use Rattle.row_order.specs.Iso.{Row}
use Rattle.row_order.specs.Lists.{All, all_nil, all_cons, tab}
use Rattle.row_order.specs.ListLaws.{length-tab, get_or-tab}
use Rattle.row_order.specs.Packed.{bit, cell_of, row_of}
use Rattle.scan.specs.Bytes.{le32}
use Rattle.scan.specs.Words.{value}
use Rattle.plan.specs.Forest.{Forest, roots}
use Rattle.plan.specs.Op.{SourceInfo, Plan}
use Rattle.plan.specs.WellFormed.{well_formed}
use Rattle.semantics.specs.Facts.{at0, facts}
use Rattle.semantics.specs.Check.{check}
use Rattle.semantics.specs.Runs.{Streams, Run, Wide, EachSource, Sources}
use Rattle.semantics.specs.Holds.{Holds, Good}
use Rattle.semantics.specs.SourceRows.{sources_of, no_source}
use Rattle.semantics.proofs.Theorems.Common.Bools.{and_right}
use Rattle.semantics.proofs.Theorems.Common.Streams.{all_tab}
use Rattle.semantics.proofs.Theorems.Sound.DeclaredKept.{Numbered, each_source_lem, numbered}
use Rattle.stepping.specs.Stepping.{unfiltered, delivered, can_step}
use Rattle.stepping.specs.RowBytes.{signed, cell_bytes_at, row_at, row_place, stream_end, stream_at, streams_at, stream_widths, streams_before, source_streams, rows_in, form_ok, streams_bytes}
use Rattle.stepping.specs.Answers.{sources_ok, many_rows, Answer, refused, written, fitted, answer, first_unstepped}
use Rattle.stepping.proofs.Theorems.Delivered.{delivers, passes, delivered_holds}
use Rattle.stepping.proofs.Theorems.DeclaredRows.{Widths, sources_kept}

-- ---- rows that are read are as wide as their source
stream_wide : (s : List ℕ) (a w : ℕ) → All (λ r. length r ≡ w) (stream_at s a w)
stream_wide s a w = all_tab (le32 s a) (λ i. row_at s (row_place a w i) w) (λ i. row_length (le32 s (row_place a w i)) (cells (row_place a w i)) ∙
    length-tab w (λ c. signed (value (cell_bytes_at s (row_place a w i) c))))
  where
    cells : ℕ → List ℤ
    cells b = tab w (λ c. signed (value (cell_bytes_at s b c)))

    row_length : (nulls : ℕ) (xs : List ℤ) → length (row_of nulls xs) ≡ length xs
    row_length nulls xs = length-tab (length xs) (λ c. cell_of (bit nulls c) (get_or xs c (pos 0)))

streams_wide : (s : List ℕ) (a : ℕ) (ws : List ℕ) (j : ℕ) → All (λ r. length r ≡ get_or ws j 0) (get_or (streams_at s a ws) j [])
streams_wide s a [] j = all_nil
streams_wide s a (w ∷ ws) zero = stream_wide s a w
streams_wide s a (w ∷ ws) (suc j) = streams_wide s (stream_end s a w) ws j

widths_at : (l : List SourceInfo) (k j : ℕ) → j < (get_or l k no_source).streams → get_or (stream_widths l) (streams_before l k + j) 0 ≡ (get_or l k no_source).width
widths_at [] k j h = absurd (omega arith)
widths_at (s ∷ l) zero j h =
    let e : 0 + j ≡ j = omega arith in
    ap (λ (n : ℕ). get_or (stream_widths (s ∷ l)) n 0) e
    ∙ get_or-append (tab s.streams (λ k. s.width)) (stream_widths l) 0 j (omega (arith, length-tab s.streams (λ k. s.width)))
    ∙ get_or-tab s.streams (λ k. s.width) 0 j h
widths_at (s ∷ l) (suc k) j h =
    let e : s.streams + streams_before l k + j ≡ length (tab s.streams (λ k. s.width)) + (streams_before l k + j) =
    omega (arith, length-tab s.streams (λ k. s.width)) in
    ap (λ (n : ℕ). get_or (stream_widths (s ∷ l)) n 0) e
    ∙ get_or-append-add (tab s.streams (λ k. s.width)) (stream_widths l) (streams_before l k + j) 0
    ∙ widths_at l k j h

tab_below : {A : Type 0} {P : A → Type 0} (n : ℕ) (f : ℕ → A) → ((k : ℕ) → k < n → P (f k)) → All P (tab n f)
tab_below zero f h = all_nil
tab_below (suc n) f h = all_cons (h zero (omega arith)) (tab_below n (λ k. f (suc k)) (λ k l. h (suc k) (omega arith)))

source_wide : (f : Plan) (s : List ℕ) (k : ℕ) → Wide (get_or (sources_of f []) k no_source).width (tab (get_or (sources_of f []) k no_source).streams (rows_in f s k))
source_wide f s k = tab_below (get_or (sources_of f []) k no_source).streams (rows_in f s k)
    (λ j h. subst (λ (w : ℕ). All (λ r. length r ≡ w) (rows_in f s k j)) (widths_at (sources_of f []) k j h)
    (streams_wide s 0 (stream_widths (sources_of f [])) (streams_before (sources_of f []) k + j)))

pub rows_wide : (f : Plan) (s : List ℕ) → EachSource (Widths (rows_in f s)) 0 f
rows_wide f s = (each_source_lem (Widths (rows_in f s)) 0 f []
    (numbered (Widths (rows_in f s)) 0 (sources_of f []) (λ k. subst (λ (m : ℕ). Widths (rows_in f s) m (get_or (sources_of f []) k no_source)) (omega arith) (source_wide f s k)))).0

-- ---- an answer that writes
record Parts (f : Plan) (s bytes : List ℕ) (out : List ℕ) : Type 0 where
  free : can_step f ≡ true
  kept : sources_ok (rows_in f s) f ≡ true
  is : out ≡ streams_bytes (delivered f (rows_in f s) bytes)

clash : {A : Type 0} {n : ℕ} {out : List ℕ} → refused n ≡ written out → A
clash e = let z : ◌≡◌ {A = ℕ} 0 1 = cc in absurd (omega arith)

parts : (f : Plan) (s bytes : List ℕ) (room : ℕ) (out : List ℕ) → answer f s bytes room ≡ written out → Parts f s bytes out
parts f s bytes room out e =
    go (can_step f) refl (form_ok f s && sources_ok (rows_in f s) f) refl (many_rows f s) (ltb room (length (streams_bytes (delivered f (rows_in f s) bytes)))) e
  where
    go : (a : Bool) → can_step f ≡ a → (b : Bool) → form_ok f s && sources_ok (rows_in f s) f ≡ b → (m t : Bool) →
        cond (not a) (refused (256 + first_unstepped f)) (cond (not b) (refused 26)
        (cond m (refused 27) (cond t (refused 24) (written (streams_bytes (delivered f (rows_in f s) bytes)))))) ≡ written out → Parts f s bytes out
    go false p b q m t e = clash e
    go true p false q m t e = clash e
    go true p true q true t e = clash e
    go true p true q false true e = clash e
    go true p true q false false e = record { free = p; kept = and_right (form_ok f s) (sources_ok (rows_in f s) f) q; is = cc }

-- What is written is what the root puts out in a run over the rows that came in
pub writes_run : (f : Plan) (s bytes : List ℕ) (room : ℕ) (out : List ℕ) → well_formed f ≡ true → answer f s bytes room ≡ written out →
    (ss : Streams) × (out ≡ streams_bytes ss) × (run : Forest Streams) × Run (unfiltered (rows_in f s)) 0 0 f run × (roots run ≡ ss ∷ [])
writes_run f s bytes room out w e =
    let p = parts f s bytes room out e in
    let r = delivers f (rows_in f s) bytes w p.free in
    (delivered f (rows_in f s) bytes, p.is, r.0, r.1, r.2)

-- and where the plan passes the order check, the root's facts hold of it, and every operator of that run is fed in order
pub writes_in_order : (f : Plan) (s bytes : List ℕ) (room : ℕ) (out : List ℕ) → well_formed f ≡ true → check f ≡ true → answer f s bytes room ≡ written out →
    (ss : Streams) × (out ≡ streams_bytes ss) × Holds (at0 (facts f)) ss ×
    (run : Forest Streams) × Run (unfiltered (rows_in f s)) 0 0 f run × (roots run ≡ ss ∷ []) × Good f run
writes_in_order f s bytes room out w c e =
    let p = parts f s bytes room out e in
    let d : Sources (unfiltered (rows_in f s)) 0 f = sources_kept (rows_in f s) 0 f (rows_wide f s) p.kept in
    let r = passes f (rows_in f s) bytes w p.free c d in
    (delivered f (rows_in f s) bytes, p.is, delivered_holds f (rows_in f s) bytes w p.free c d, r.0, r.1, r.2, r.3)
