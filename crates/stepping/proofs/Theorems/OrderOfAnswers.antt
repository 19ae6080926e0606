-- Which answer the dry run of a plan gets, each said as exactly when it is given (02, P3): "256 plus the first such node's number, ahead of 26 and 27";
-- "26, when rows break this form or their source's declared order or constants, checked first; 27, when the sources together have more than 256 rows,
-- checked after 26; 24 last".
-- Definitions: Plan (plan); Sources (semantics); answer, number, form_ok, source_streams, rows_in, streams_bytes, unfiltered, delivered (stepping);
-- NoJoin, FirstJoin (FirstJoin).
use Rattle.std.specs.Prelude.{◌≡◌, refl, Bool, true, false, cond, not, ◌&&◌, ◌↔◌, ◌⊎◌, List, ℕ, ◌+◌, ◌<◌, ◌≤◌, ltb, length}
use Rattle.std.proofs.Common.{sym, ap, ap₂, ◌∙◌, inl, inr, arith, ltb-true, ltb-false, lt-ltb, le-ltb}
use Rattle.row_order.specs.Lists.{concat}
use Rattle.row_order.proofs.Order.{no_bool}
use Rattle.plan.specs.Op.{Plan}
use Rattle.semantics.specs.Runs.{Sources}
use Rattle.semantics.proofs.Theorems.Common.Bools.{and_left, and_right}
use Rattle.stepping.specs.Stepping.{unfiltered, delivered, can_step}
use Rattle.stepping.specs.RowBytes.{source_streams, rows_in, form_ok, streams_bytes}
use Rattle.stepping.specs.Answers.{first_unstepped, sources_ok, many_rows, Answer, refused, written, answer, number}
use Rattle.stepping.proofs.Theorems.DeclaredRows.{sources_kept, kept_sources}
use Rattle.stepping.proofs.Theorems.Written.{rows_wide}
use Rattle.stepping.proofs.Theorems.FirstJoin.{NoJoin, FirstJoin, none_steps, steps_none, first_stops, stops_first, first-is}

-- ---- the words. f: the plan; s: the rows' bytes; bytes: the caller's list

-- The bytes have 02's form, and the rows of each source keep what it declares, order and constants, in document 01's sense
abbrev pub RowsKeep : Plan → List ℕ → Type 0
RowsKeep f s = (form_ok f s ≡ true) × Sources (unfiltered (rows_in f s)) 0 f

-- How many rows "the sources together have"
abbrev pub row_count : Plan → List ℕ → ℕ
row_count f s = length (concat (source_streams f s))

-- The bytes of what is delivered
abbrev pub delivered_bytes : Plan → List ℕ → List ℕ → List ℕ
delivered_bytes f s bytes = streams_bytes (delivered f (rows_in f s) bytes)

-- ---- 26 is a sentence on rows: the test of the declared facts is true exactly if they hold
pub declared_hold : (f : Plan) (s : List ℕ) → (sources_ok (rows_in f s) f ≡ true) ↔ Sources (unfiltered (rows_in f s)) 0 f
declared_hold f s = (sources_kept (rows_in f s) 0 f (rows_wide f s), kept_sources (rows_in f s) 0 f)

module _ (f : Plan) (s : List ℕ) where
  keeps : form_ok f s && sources_ok (rows_in f s) f ≡ true → RowsKeep f s
  keeps e = (and_left (form_ok f s) (sources_ok (rows_in f s) f) e, (declared_hold f s).0 (and_right (form_ok f s) (sources_ok (rows_in f s) f) e))

  kept : RowsKeep f s → form_ok f s && sources_ok (rows_in f s) f ≡ true
  kept (a, b) = ap₂ ◌&&◌ a ((declared_hold f s).1 b)

  broken : (RowsKeep f s → ⊥) → form_ok f s && sources_ok (rows_in f s) f ≡ false
  broken h = go (form_ok f s && sources_ok (rows_in f s) f) refl
    where
      go : (b : Bool) → form_ok f s && sources_ok (rows_in f s) f ≡ b → b ≡ false
      go true e = absurd (h (keeps e))
      go false e = refl

  -- "when rows break this form or their source's declared order or constants"
  pub rows_broken : (RowsKeep f s → ⊥) ↔ ((form_ok f s ≡ false) ⊎ (Sources (unfiltered (rows_in f s)) 0 f → ⊥))
  rows_broken = (λ h. go (form_ok f s) refl h, back)
    where
      go : (b : Bool) → form_ok f s ≡ b → (RowsKeep f s → ⊥) → (form_ok f s ≡ false) ⊎ (Sources (unfiltered (rows_in f s)) 0 f → ⊥)
      go true e h = inr (λ d. h (e, d))
      go false e h = inl e

      back : (form_ok f s ≡ false) ⊎ (Sources (unfiltered (rows_in f s)) 0 f → ⊥) → RowsKeep f s → ⊥
      back (inl e) k = no_bool (sym e ∙ k.0)
      back (inr h) k = h k.1

-- ---- the five answers
module _ (f : Plan) (s bytes : List ℕ) (room : ℕ) where
  -- each from what must hold
  gets_256 : (n : ℕ) → FirstJoin f n → number (answer f s bytes room) ≡ 256 + n
  gets_256 n h = rw (first_stops f h, first-is f h)

  gets_26 : NoJoin f → (RowsKeep f s → ⊥) → number (answer f s bytes room) ≡ 26
  gets_26 j h = rw (none_steps f j, broken f s h)

  gets_27 : NoJoin f → RowsKeep f s → 256 < row_count f s → number (answer f s bytes room) ≡ 27
  gets_27 j k h = rw (none_steps f j, kept f s k, lt-ltb 256 (row_count f s) h)

  gets_24 : NoJoin f → RowsKeep f s → row_count f s ≤ 256 → room < length (delivered_bytes f s bytes) → number (answer f s bytes room) ≡ 24
  gets_24 j k l h = rw (none_steps f j, kept f s k, le-ltb 256 (row_count f s) l, lt-ltb room (length (delivered_bytes f s bytes)) h)

  gets_written : NoJoin f → RowsKeep f s → row_count f s ≤ 256 → length (delivered_bytes f s bytes) ≤ room →
      answer f s bytes room ≡ written (delivered_bytes f s bytes)
  gets_written j k l h = rw (none_steps f j, kept f s k, le-ltb 256 (row_count f s) l, le-ltb room (length (delivered_bytes f s bytes)) h)

  -- and what holds where it is given
  data Given : ℕ → Type 0 where
    a_join : {n : ℕ} → FirstJoin f n → Given (256 + n)
    bad_rows : NoJoin f → (RowsKeep f s → ⊥) → Given 26
    too_many : NoJoin f → RowsKeep f s → 256 < row_count f s → Given 27
    too_short : NoJoin f → RowsKeep f s → row_count f s ≤ 256 → room < length (delivered_bytes f s bytes) → Given 24
    all_fits : NoJoin f → RowsKeep f s → row_count f s ≤ 256 → length (delivered_bytes f s bytes) ≤ room → Given 0

  given : Given (number (answer f s bytes room))
  given = go (can_step f) refl (form_ok f s && sources_ok (rows_in f s) f) refl (many_rows f s) refl (ltb room (length (delivered_bytes f s bytes))) refl
    where
      go : (a : Bool) → can_step f ≡ a → (b : Bool) → form_ok f s && sources_ok (rows_in f s) f ≡ b → (m : Bool) → many_rows f s ≡ m →
          (t : Bool) → ltb room (length (delivered_bytes f s bytes)) ≡ t →
          Given (number (cond (not a) (refused (256 + first_unstepped f)) (cond (not b) (refused 26)
          (cond m (refused 27) (cond t (refused 24) (written (delivered_bytes f s bytes)))))))
      go false p b q m r t u = a_join (stops_first f p)
      go true p false q m r t u = bad_rows (steps_none f p) (λ h. no_bool (sym q ∙ kept f s h))
      go true p true q true r t u = too_many (steps_none f p) (keeps f s q) (ltb-true 256 (row_count f s) r)
      go true p true q false r true u =
          too_short (steps_none f p) (keeps f s q) (ltb-false 256 (row_count f s) r) (ltb-true room (length (delivered_bytes f s bytes)) u)
      go true p true q false r false u =
          all_fits (steps_none f p) (keeps f s q) (ltb-false 256 (row_count f s) r) (ltb-false room (length (delivered_bytes f s bytes)) u)

  -- "A plan with a join or an aggregate isn't stepped: the answer is 256 plus the first such node's number"
  pub answer_256 : (n : ℕ) → (number (answer f s bytes room) ≡ 256 + n) ↔ FirstJoin f n
  answer_256 n = (there given, gets_256 n)
    where
      there : {k : ℕ} → Given k → k ≡ 256 + n → FirstJoin f n
      there (a_join {n = m} h) e = let q : m ≡ n = omega arith in rw q at h
      there (bad_rows j k) e = absurd (omega arith)
      there (too_many j k l) e = absurd (omega arith)
      there (too_short j k l m) e = absurd (omega arith)
      there (all_fits j k l m) e = absurd (omega arith)

  -- "26, when rows break this form or their source's declared order or constants, checked first"
  pub answer_26 : (number (answer f s bytes room) ≡ 26) ↔ (NoJoin f × (RowsKeep f s → ⊥))
  answer_26 = (there given, λ h. gets_26 h.0 h.1)
    where
      there : {k : ℕ} → Given k → k ≡ 26 → NoJoin f × (RowsKeep f s → ⊥)
      there (a_join h) e = absurd (omega arith)
      there (bad_rows j k) e = (j, k)
      there (too_many j k l) e = absurd (omega arith)
      there (too_short j k l m) e = absurd (omega arith)
      there (all_fits j k l m) e = absurd (omega arith)

  -- "27, when the sources together have more than 256 rows, checked after 26"
  pub answer_27 : (number (answer f s bytes room) ≡ 27) ↔ (NoJoin f × RowsKeep f s × (256 < row_count f s))
  answer_27 = (there given, λ h. gets_27 h.0 h.1 h.2)
    where
      there : {k : ℕ} → Given k → k ≡ 27 → NoJoin f × RowsKeep f s × (256 < row_count f s)
      there (a_join h) e = absurd (omega arith)
      there (bad_rows j k) e = absurd (omega arith)
      there (too_many j k l) e = (j, k, l)
      there (too_short j k l m) e = absurd (omega arith)
      there (all_fits j k l m) e = absurd (omega arith)

  -- "24 last"
  pub answer_24 : (number (answer f s bytes room) ≡ 24) ↔
      (NoJoin f × RowsKeep f s × (row_count f s ≤ 256) × (room < length (delivered_bytes f s bytes)))
  answer_24 = (there given, λ h. gets_24 h.0 h.1 h.2 h.3)
    where
      there : {k : ℕ} → Given k → k ≡ 24 → NoJoin f × RowsKeep f s × (row_count f s ≤ 256) × (room < length (delivered_bytes f s bytes))
      there (a_join h) e = absurd (omega arith)
      there (bad_rows j k) e = absurd (omega arith)
      there (too_many j k l) e = absurd (omega arith)
      there (too_short j k l m) e = (j, k, l, m)
      there (all_fits j k l m) e = absurd (omega arith)

  -- and 0 in all other cases
  pub answer_0 : (number (answer f s bytes room) ≡ 0) ↔
      (NoJoin f × RowsKeep f s × (row_count f s ≤ 256) × (length (delivered_bytes f s bytes) ≤ room))
  answer_0 = (there given, λ h. ap number (gets_written h.0 h.1 h.2 h.3))
    where
      there : {k : ℕ} → Given k → k ≡ 0 → NoJoin f × RowsKeep f s × (row_count f s ≤ 256) × (length (delivered_bytes f s bytes) ≤ room)
      there (a_join h) e = absurd (omega arith)
      there (bad_rows j k) e = absurd (omega arith)
      there (too_many j k l) e = absurd (omega arith)
      there (too_short j k l m) e = absurd (omega arith)
      there (all_fits j k l m) e = (j, k, l, m)

  -- where what is delivered is written
  pub answer_writes : number (answer f s bytes room) ≡ 0 → answer f s bytes room ≡ written (delivered_bytes f s bytes)
  answer_writes e = let h = answer_0.0 e in gets_written h.0 h.1 h.2 h.3

  -- None of these is a number from 1 to 8
  pub answer-past_8 : (number (answer f s bytes room) ≡ 0 → ⊥) → 24 ≤ number (answer f s bytes room)
  answer-past_8 = past given
    where
      past : {k : ℕ} → Given k → (k ≡ 0 → ⊥) → 24 ≤ k
      past (a_join h) e = omega arith
      past (bad_rows j k) e = omega arith
      past (too_many j k l) e = omega arith
      past (too_short j k l m) e = omega arith
      past (all_fits j k l m) e = absurd (e refl)
