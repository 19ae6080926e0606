-- The output after the dry run of a file (02, P3; 01: "A refusal .. leaves tree and buffers alone", "bytes past the file stay").
-- Definitions: reading (plan_codec); Plan (plan); returned, output_after (Answers); delivered_bytes (OrderOfAnswers).
use Rattle.std.specs.Prelude.{◌≡◌, refl, List, ◌++◌, ℕ, ◌≤◌, take, drop}
use Rattle.std.proofs.Common.{sym, ◌∙◌, arith}
use Rattle.std.proofs.Math.Path.{ap}
use Rattle.std.proofs.Math.Decide.{ℕ_discrete}
use Rattle.std.proofs.Math.ListN.{length, length-append, length-drop}
use Rattle.plan.specs.Op.{Plan}
use Rattle.plan_codec.specs.Reading as codec
use Rattle.plan_codec.specs.Reading.{reading}
use Rattle.stepping.specs.Answers.{Answer, number, output}
use Rattle.stepping.proofs.Theorems.AnswerOutputs.{left_alone, written_first, written_past}
use Rattle.step_answers.specs.Answers.{stepped, returned, output_after}
use Rattle.stepping.proofs.Theorems.OrderOfAnswers.{delivered_bytes, answer_writes}
use Rattle.step_answers.proofs.FileAnswers.{returns_plan, steps_plan, returns_0}

module _ (s rows bytes out : List ℕ) where
  -- Whatever number but 0 is returned, the output is as it was
  pub refusal_leaves_output : (returned s rows bytes out ≡ 0 → ⊥) → output_after s rows bytes out ≡ out
  refusal_leaves_output h = left_alone (stepped s rows bytes out) out h

  module _ (f : Plan) (read : reading s ≡ codec.plan f) (z : returned s rows bytes out ≡ 0) where
    w : List ℕ
    w = delivered_bytes f rows bytes

    -- Where 0 is returned, what is delivered is written, and it fits
    pub writes_delivered : output_after s rows bytes out ≡ delivered_bytes f rows bytes ++ drop (length (delivered_bytes f rows bytes)) out
    writes_delivered =
        let same = steps_plan s rows bytes out f read in
        ap (λ (a : Answer). output a out) (same ∙ answer_writes f rows bytes (length out) (sym (ap number same) ∙ z))

    pub delivered_fits : length (delivered_bytes f rows bytes) ≤ length out
    delivered_fits = ((returns_0 s rows bytes out f read).0 z).3

    pub delivered_first : take (length (delivered_bytes f rows bytes)) (output_after s rows bytes out) ≡ delivered_bytes f rows bytes
    unfolding w
    delivered_first = ap (take (length w)) writes_delivered ∙ written_first w out

    -- The bytes past it are the lent output's
    pub bytes_past_stay : drop (length (delivered_bytes f rows bytes)) (output_after s rows bytes out) ≡ drop (length (delivered_bytes f rows bytes)) out
    unfolding w
    bytes_past_stay = ap (drop (length w)) writes_delivered ∙ written_past w out

    written_length : length (output_after s rows bytes out) ≡ length out
    unfolding w
    written_length = ap length writes_delivered ∙ omega (arith, length-append w (drop (length w) out), length-drop (length w) out, delivered_fits)

  -- The output keeps its length
  pub output-length : length (output_after s rows bytes out) ≡ length out
  output-length = go (ℕ_discrete (returned s rows bytes out) 0)
    where
      go : Dec (returned s rows bytes out ≡ 0) → length (output_after s rows bytes out) ≡ length out
      go (yes z) = let p = returns_plan s rows bytes out z in written_length p.0 p.1 z
      go (no h) = ap length (refusal_leaves_output h)
