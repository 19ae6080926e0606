-- From bytes to bytes: where a dry run of a file writes, the file holds a plan, and what is written are the root's streams in a run over the rows that
-- came in; where the plan passes the order check, its facts hold of them and every operator of that run is fed in order: `file_in_order`.
-- Definitions: AllBytes (scan); Plan (plan); check, Run, Holds, Good (semantics); unfiltered, rows_in, streams_bytes (stepping).
use Rattle.std.specs.Prelude.{◌≡◌, refl, true, List, [], ◌∷◌, ℕ, length}
use Rattle.std.proofs.Common.{sym, ap, ◌∙◌, arith}
use Rattle.plan.specs.Forest.{Forest, roots}
use Rattle.plan.specs.Op.{Plan}
use Rattle.plan.specs.Numbers.{number_of}
use Rattle.scan.specs.Bytes.{AllBytes}
use Rattle.plan_codec.specs.Reading as codec
use Rattle.plan_codec.specs.Reading.{reading}
use Rattle.plan_codec.proofs.RoundTrip.{read_well_formed}
use Rattle.semantics.specs.Facts.{at0, facts}
use Rattle.semantics.specs.Check.{check}
use Rattle.semantics.specs.Runs.{Streams, Run}
use Rattle.semantics.specs.Holds.{Holds, Good}
use Rattle.stepping.specs.Stepping.{unfiltered}
use Rattle.stepping.specs.RowBytes.{rows_in, streams_bytes}
use Rattle.stepping.specs.Answers.{Answer, refused, written, answer}
use Rattle.stepping.proofs.Theorems.Written.{writes_run, writes_in_order}
use Rattle.step_answers.specs.Answers.{after_reading, stepped}

clash : {A : Type 0} {n : ℕ} {w : List ℕ} → refused n ≡ written w → A
clash e = let z : ◌≡◌ {A = ℕ} 0 1 = cc in absurd (omega arith)

pub file_steps : (s rows bytes out w : List ℕ) → AllBytes s → stepped s rows bytes out ≡ written w →
    (f : Plan) × (reading s ≡ codec.plan f) × (answer f rows bytes (length out) ≡ written w)
file_steps s rows bytes out w b e = go (reading s) refl e
  where
    go : (r : codec.PlanOrRefusal) → reading s ≡ r → after_reading r rows bytes (length out) ≡ written w →
        (f : Plan) × (reading s ≡ codec.plan f) × (answer f rows bytes (length out) ≡ written w)
    go (codec.refused x) p q = clash q
    go (codec.plan f) p q = (f, p, q)

pub file_run : (s rows bytes out w : List ℕ) → AllBytes s → stepped s rows bytes out ≡ written w →
    (f : Plan) × (reading s ≡ codec.plan f) × (ss : Streams) × (w ≡ streams_bytes ss) × (run : Forest Streams) × Run (unfiltered (rows_in f rows)) 0 0 f run ×
    (roots run ≡ ss ∷ [])
file_run s rows bytes out w b e =
    let p = file_steps s rows bytes out w b e in
    let r = writes_run p.0 rows bytes (length out) w (read_well_formed s p.0 b p.1) p.2 in
    (p.0, p.1, r.0, r.1, r.2, r.3, r.4)

pub file_in_order : (s rows bytes out w : List ℕ) → AllBytes s → stepped s rows bytes out ≡ written w → (f : Plan) → reading s ≡ codec.plan f → check f ≡ true →
    (ss : Streams) × (w ≡ streams_bytes ss) × Holds (at0 (facts f)) ss × (run : Forest Streams) × Run (unfiltered (rows_in f rows)) 0 0 f run ×
    (roots run ≡ ss ∷ []) × Good f run
file_in_order s rows bytes out w b e f r c =
    writes_in_order f rows bytes (length out) w (read_well_formed s f b r) c (sym (ap (λ a. after_reading a rows bytes (length out)) r) ∙ e)
