-- What the dry run of a file returns, each number said as exactly when it is returned (02, P3): 1 to 8 as the file is refused, then 256 plus a node's
-- number, 26, 27, 24 and 0 by the plan that it holds.
-- Definitions: reading (plan_codec); refusal_number, Refusal, Plan (plan); returned (Answers); NoJoin, FirstJoin (FirstJoin); RowsKeep, row_count,
-- delivered_bytes (OrderOfAnswers).
use Rattle.std.specs.Prelude.{◌≡◌, refl, ◌↔◌, List, ℕ, ◌+◌, ◌<◌, ◌≤◌, length}
use Rattle.std.proofs.Common.{sym, ap, ◌∙◌, arith}
use Rattle.plan.specs.Op.{Plan}
use Rattle.plan.specs.Numbers.{refusal_number}
use Rattle.plan.specs.declared.Refusal.{Refusal}
use Rattle.plan_codec.specs.Reading as codec
use Rattle.plan_codec.specs.Reading.{reading}
use Rattle.stepping.specs.Answers.{answer, number}
use Rattle.step_answers.specs.Answers.{after_reading, stepped, returned}
use Rattle.stepping.proofs.Theorems.FirstJoin.{NoJoin, FirstJoin}
use Rattle.stepping.proofs.Theorems.OrderOfAnswers.{RowsKeep, row_count, delivered_bytes, answer_256, answer_26, answer_27, answer_24, answer_0, answer-past_8}
use Rattle.step_answers.proofs.FileNumbers.{refused_number, same_refusal}

-- s: the file; rows: the rows' bytes; bytes: the caller's list; out: the lent output
module _ (s rows bytes out : List ℕ) where
  -- ---- a file that is refused
  pub returns_refusal : (x : Refusal) → reading s ≡ codec.refused x → returned s rows bytes out ≡ refusal_number x
  returns_refusal x e = ap (λ a. number (after_reading a rows bytes (length out))) e

  -- 1 to 8: exactly as the file is refused
  pub returns_1_to_8 : (x : Refusal) → 1 ≤ refusal_number x → refusal_number x ≤ 8 → (returned s rows bytes out ≡ refusal_number x) ↔ (reading s ≡ codec.refused x)
  returns_1_to_8 x l h = (go (reading s) refl, returns_refusal x)
    where
      go : (r : codec.PlanOrRefusal) → reading s ≡ r → number (after_reading r rows bytes (length out)) ≡ refusal_number x → reading s ≡ codec.refused x
      go (codec.refused y) p q = p ∙ ap codec.refused (same_refusal y x (omega arith) q)
      go (codec.plan f) p q = absurd (omega (arith, answer-past_8 f rows bytes (length out) (λ z. omega arith)))

  -- and a file that is refused gets one of these, and no other
  pub refused_1_to_8 : (x : Refusal) → reading s ≡ codec.refused x → (1 ≤ returned s rows bytes out) × (returned s rows bytes out ≤ 8)
  refused_1_to_8 x e = let n = returns_refusal x e in let b = refused_number s x e in (omega arith, omega arith)

  -- Any other number is a plan's
  pub holds_plan : (1 ≤ returned s rows bytes out → returned s rows bytes out ≤ 8 → ⊥) → (f : Plan) × (reading s ≡ codec.plan f)
  holds_plan h = go (reading s) refl
    where
      go : (r : codec.PlanOrRefusal) → reading s ≡ r → (f : Plan) × (reading s ≡ codec.plan f)
      go (codec.refused y) p = let b = refused_1_to_8 y p in absurd (h b.0 b.1)
      go (codec.plan f) p = (f, p)

  pub returns_plan : returned s rows bytes out ≡ 0 → (f : Plan) × (reading s ≡ codec.plan f)
  returns_plan e = holds_plan (λ l h. omega arith)

  -- ---- a file that holds the plan f
  module _ (f : Plan) (read : reading s ≡ codec.plan f) where
    pub steps_plan : stepped s rows bytes out ≡ answer f rows bytes (length out)
    steps_plan = ap (λ a. after_reading a rows bytes (length out)) read

    same : returned s rows bytes out ≡ number (answer f rows bytes (length out))
    same = ap number steps_plan

    moved : {A : Type 0} {n : ℕ} → (number (answer f rows bytes (length out)) ≡ n) ↔ A → (returned s rows bytes out ≡ n) ↔ A
    moved h = (λ e. h.0 (sym same ∙ e), λ a. same ∙ h.1 a)

    -- "A plan with a join or an aggregate isn't stepped: the answer is 256 plus the first such node's number, ahead of 26 and 27"
    pub returns_256 : (n : ℕ) → (returned s rows bytes out ≡ 256 + n) ↔ FirstJoin f n
    returns_256 n = moved (answer_256 f rows bytes (length out) n)

    -- "26, when rows break this form or their source's declared order or constants, checked first"
    pub returns_26 : (returned s rows bytes out ≡ 26) ↔ (NoJoin f × (RowsKeep f rows → ⊥))
    returns_26 = moved (answer_26 f rows bytes (length out))

    -- "27, when the sources together have more than 256 rows, checked after 26"
    pub returns_27 : (returned s rows bytes out ≡ 27) ↔ (NoJoin f × RowsKeep f rows × (256 < row_count f rows))
    returns_27 = moved (answer_27 f rows bytes (length out))

    -- "24 last": the output is shorter than what is delivered
    pub returns_24 : (returned s rows bytes out ≡ 24) ↔
        (NoJoin f × RowsKeep f rows × (row_count f rows ≤ 256) × (length out < length (delivered_bytes f rows bytes)))
    returns_24 = moved (answer_24 f rows bytes (length out))

    -- and 0 in all other cases
    pub returns_0 : (returned s rows bytes out ≡ 0) ↔
        (NoJoin f × RowsKeep f rows × (row_count f rows ≤ 256) × (length (delivered_bytes f rows bytes) ≤ length out))
    returns_0 = moved (answer_0 f rows bytes (length out))
