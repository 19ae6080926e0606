-- Some streams one after another, as those of one source: definitions, and what the loops over them need. Assumes nothing.
use Rattle.std.specs.Prelude.{◌≡◌, refl, Bool, true, false, not, ◌&&◌, List, [], ◌∷◌, ◌++◌, ℕ, zero, suc, ◌+◌, ◌*◌, ◌-◌, ◌≤◌, ◌<◌, length}
use Rattle.std.proofs.Common.{sym, ap, ◌∙◌, arith, length-append}
use Rattle.row_order.specs.Iso.{Row}
use Rattle.row_order.proofs.Order.{no_bool}
use Rattle.row_order.specs.Lists.{tab, concat}
use Rattle.row_order.specs.ListLaws.{length-tab}
use Rattle.scan.specs.Below.{and_left, and_right, and_assoc}
use Rattle.scan.specs.Bytes.{le32}
use Rattle.plan.specs.WellFormed.{every}
use Rattle.stepping.specs.RowBytes.{row_at, row_place, stream_end, stream_at, stream_ok, streams_ok, streams_at, rows_together}
use Rattle.row_bytes.specs.Rows.{stream_inside, more_bytes}

-- The widths of a source's k streams
abbrev pub alike : ℕ → ℕ → List ℕ
alike k w = tab k (λ i. w)

-- Streams of these widths from place a on are all there, and have the form; more may follow
abbrev pub streams_fit : List ℕ → ℕ → List ℕ → Bool
streams_fit s a [] = true
streams_fit s a (w ∷ ws) = stream_ok s a w && streams_fit s (stream_end s a w) ws

-- Where they end
abbrev pub streams_end : List ℕ → ℕ → List ℕ → ℕ
streams_end s a [] = a
streams_end s a (w ∷ ws) = streams_end s (stream_end s a w) ws

-- ---- some streams, and those behind them

pub fit_join : (s : List ℕ) (a : ℕ) (us ws : List ℕ) → streams_ok s a (us ++ ws) ≡ streams_fit s a us && streams_ok s (streams_end s a us) ws
fit_join s a [] ws = refl
fit_join s a (u ∷ us) ws =
    ap (λ (b : Bool). stream_ok s a u && b) (fit_join s (stream_end s a u) us ws)
    ∙ sym (and_assoc (stream_ok s a u) (streams_fit s (stream_end s a u) us) (streams_ok s (streams_end s (stream_end s a u) us) ws))

pub at_join : (s : List ℕ) (a : ℕ) (us ws : List ℕ) → streams_at s a (us ++ ws) ≡ streams_at s a us ++ streams_at s (streams_end s a us) ws
at_join s a [] ws = refl
at_join s a (u ∷ us) ws = ap (λ (l : List (List Row)). stream_at s a u ∷ l) (at_join s (stream_end s a u) us ws)

-- ---- one stream

pub stream_in : (s : List ℕ) (a w : ℕ) → stream_ok s a w ≡ true → (a + 4 ≤ length s) × (a + 4 + le32 s a * (4 + 8 * w) ≤ length s)
stream_in s a w e = stream_inside s a w (le32 s a) true (sym e) refl refl

-- as the code has it: n rows
pub stream_room : (s : List ℕ) (a w n : ℕ) → stream_ok s a w ≡ true → n ≡ le32 s a → (a + 4 ≤ length s) × (a + 4 + n * (4 + 8 * w) ≤ length s)
stream_room s a w n e f = stream_inside s a w n true (sym e) refl f

pub end_is : (s : List ℕ) (a w n : ℕ) → n ≡ le32 s a → a + 4 + n * (4 + 8 * w) ≡ stream_end s a w
end_is s a w n f = ap (λ (m : ℕ). a + 4 + m * (4 + 8 * w)) f

pub flag_true : (q b : Bool) → q ≡ b → not q ≡ false → b ≡ true
flag_true true b e f = sym e
flag_true false b e f = no_bool (sym f)

-- ---- the loop over a source's streams: of k that are left, the one at place a; e: where it ends

pub alike_step : (k w : ℕ) → 0 < k → alike k w ≡ w ∷ alike (k - 1) w
alike_step zero w h = absurd (omega arith)
alike_step (suc k) w h = let z : suc k - 1 ≡ k = omega arith in ap (λ (m : ℕ). w ∷ alike m w) (sym z)

pub alike_none : (k w : ℕ) → k ≤ 0 → alike k w ≡ []
alike_none zero w h = refl
alike_none (suc k) w h = absurd (omega arith)

module _ (s : List ℕ) (a w k : ℕ) where
  pub fit_here : 0 < k → streams_fit s a (alike k w) ≡ true → stream_ok s a w ≡ true
  fit_here h f = and_left (stream_ok s a w) (streams_fit s (stream_end s a w) (alike (k - 1) w)) (sym (ap (streams_fit s a) (alike_step k w h)) ∙ f)

  pub fit_next : (e : ℕ) → 0 < k → streams_fit s a (alike k w) ≡ true → e ≡ stream_end s a w → streams_fit s e (alike (k - 1) w) ≡ true
  fit_next e h f g =
      ap (λ (b : ℕ). streams_fit s b (alike (k - 1) w)) g
      ∙ and_right (stream_ok s a w) (streams_fit s (stream_end s a w) (alike (k - 1) w)) (sym (ap (streams_fit s a) (alike_step k w h)) ∙ f)

  pub fit_fail : (q x : Bool) → 0 < k → q ≡ stream_ok s a w → not q ≡ true → streams_fit s a (alike k w) ≡ x → false ≡ x
  fit_fail true x h g u f = no_bool u
  fit_fail false x h g u f = ap (λ (b : Bool). b && streams_fit s (stream_end s a w) (alike (k - 1) w)) g ∙ sym (ap (streams_fit s a) (alike_step k w h)) ∙ f

  pub fit_more : (q x : Bool) (e : ℕ) → 0 < k → q ≡ stream_ok s a w → not q ≡ false → e ≡ stream_end s a w → streams_fit s a (alike k w) ≡ x →
      streams_fit s e (alike (k - 1) w) ≡ x
  fit_more q x e h g u v f =
      ap (λ (b : ℕ). streams_fit s b (alike (k - 1) w)) v
      ∙ ap (λ (b : Bool). b && streams_fit s (stream_end s a w) (alike (k - 1) w)) (sym (flag_true q (stream_ok s a w) g u))
      ∙ sym (ap (streams_fit s a) (alike_step k w h)) ∙ f

  pub fit_end : (x : Bool) → k ≤ 0 → streams_fit s a (alike k w) ≡ x → true ≡ x
  fit_end x h f = sym (ap (streams_fit s a) (alike_none k w h)) ∙ f

  -- where they end
  pub end_more : (e x : ℕ) → 0 < k → e ≡ stream_end s a w → streams_end s a (alike k w) ≡ x → streams_end s e (alike (k - 1) w) ≡ x
  end_more e x h v f = ap (λ (b : ℕ). streams_end s b (alike (k - 1) w)) v ∙ sym (ap (streams_end s a) (alike_step k w h)) ∙ f

  pub end_end : (x : ℕ) → k ≤ 0 → streams_end s a (alike k w) ≡ x → a ≡ x
  end_end x h f = sym (ap (streams_end s a) (alike_none k w h)) ∙ f

  -- their rows counted, r so far
  pub count_more : (e n r x : ℕ) → 0 < k → n ≡ le32 s a → e ≡ stream_end s a w → r + rows_together s a (alike k w) ≡ x →
      r + n + rows_together s e (alike (k - 1) w) ≡ x
  count_more e n r x h g v f =
      let l : length (stream_at s a w) ≡ n = length-tab (le32 s a) (λ i. row_at s (row_place a w i) w) ∙ sym g in
      let t : rows_together s a (alike k w) ≡ length (stream_at s a w) + rows_together s (stream_end s a w) (alike (k - 1) w) =
      ap (rows_together s a) (alike_step k w h) ∙ length-append (stream_at s a w) (concat (streams_at s (stream_end s a w) (alike (k - 1) w))) in
      let z : rows_together s e (alike (k - 1) w) ≡ rows_together s (stream_end s a w) (alike (k - 1) w) =
      ap (λ (b : ℕ). rows_together s b (alike (k - 1) w)) v in
      omega (arith, l, t, z)

  pub count_end : (r x : ℕ) → k ≤ 0 → r + rows_together s a (alike k w) ≡ x → r ≡ x
  count_end r x h f = let z : rows_together s a (alike k w) ≡ 0 = ap (rows_together s a) (alike_none k w h) in omega (arith, z)

  -- a test of each stream
  module _ (p : List Row → Bool) where
    pub test_fail : (q x : Bool) → 0 < k → q ≡ p (stream_at s a w) → not q ≡ true → every p (streams_at s a (alike k w)) ≡ x → false ≡ x
    test_fail true x h g u f = no_bool u
    test_fail false x h g u f =
        ap (λ (b : Bool). b && every p (streams_at s (stream_end s a w) (alike (k - 1) w))) g
        ∙ sym (ap (λ (ws : List ℕ). every p (streams_at s a ws)) (alike_step k w h)) ∙ f

    pub test_more : (q x : Bool) (e : ℕ) → 0 < k → q ≡ p (stream_at s a w) → not q ≡ false → e ≡ stream_end s a w → every p (streams_at s a (alike k w)) ≡ x →
        every p (streams_at s e (alike (k - 1) w)) ≡ x
    test_more q x e h g u v f =
        ap (λ (b : ℕ). every p (streams_at s b (alike (k - 1) w))) v
        ∙ ap (λ (b : Bool). b && every p (streams_at s (stream_end s a w) (alike (k - 1) w))) (sym (flag_true q (p (stream_at s a w)) g u))
        ∙ sym (ap (λ (ws : List ℕ). every p (streams_at s a ws)) (alike_step k w h)) ∙ f

    pub test_end : (x : Bool) → k ≤ 0 → every p (streams_at s a (alike k w)) ≡ x → true ≡ x
    test_end x h f = sym (ap (λ (ws : List ℕ). every p (streams_at s a ws)) (alike_none k w h)) ∙ f

  -- all their rows: the first stream's before the others'
  pub rows_step : 0 < k → concat (streams_at s a (alike k w)) ≡ stream_at s a w ++ concat (streams_at s (stream_end s a w) (alike (k - 1) w))
  rows_step h = ap (λ (ws : List ℕ). concat (streams_at s a ws)) (alike_step k w h)

  pub rows_none : k ≤ 0 → concat (streams_at s a (alike k w)) ≡ []
  rows_none h = ap (λ (ws : List ℕ). concat (streams_at s a ws)) (alike_none k w h)

-- ---- places that are inside

pub ends_inside : (s : List ℕ) (a : ℕ) (ws : List ℕ) → a ≤ length s → streams_fit s a ws ≡ true → streams_end s a ws ≤ length s
ends_inside s a [] h f = h
ends_inside s a (w ∷ ws) h f =
    ends_inside s (stream_end s a w) ws (stream_in s a w (and_left (stream_ok s a w) (streams_fit s (stream_end s a w) ws) f)).1
    (and_right (stream_ok s a w) (streams_fit s (stream_end s a w) ws) f)

-- no more rows than bytes
pub rows_few : (s : List ℕ) (a : ℕ) (ws : List ℕ) → a + rows_together s a ws ≤ streams_end s a ws
rows_few s a [] = omega arith
rows_few s a (w ∷ ws) =
    let h = rows_few s (stream_end s a w) ws in
    let m = more_bytes (le32 s a) w in
    let l = length-tab (le32 s a) (λ i. row_at s (row_place a w i) w) in
    let t = length-append (stream_at s a w) (concat (streams_at s (stream_end s a w) ws)) in
    omega (arith, h, m, l, t)
