-- From bytes to rows: where `check_order` (sort_placement) answers 0 and writes 1, the bytes hold a plan, and every run of it over rows that
-- keep its declared facts feeds every operator in order. Said over the definitions that the contract of `check_order` cites: `refusal_of`
-- (plan_format), `number_of` (plan), `reading` (plan_codec), `check_answer` (call_answers).
-- Definitions further: AllBytes (scan); Plan, well_formed (plan); Env, Sources, Run, EachMet (semantics); AllFed (OrderKept).
use Rattle.std.specs.Prelude.{◌≡◌, Bool, List, ℕ, Ok, Err}
use Rattle.std.proofs.Math.Path.{refl}
use Rattle.std.proofs.Common.{sym, ap, ◌∙◌, arith}
use Rattle.std.proofs.Math.Bool.{true, false}
use Rattle.std.proofs.Math.Dec.{eqb}
use Rattle.plan.specs.Op.{Plan}
use Rattle.plan.specs.Numbers.{Verdict, number_of}
use Rattle.plan_format.specs.Passed.{accepted}
use Rattle.plan_format.specs.Reading.{refusal_of}
use Rattle.scan.specs.Bytes.{AllBytes, one_if}
use Rattle.plan_codec.specs.Reading.{plan, plan_of, unless_refused, reading}
use Rattle.plan_codec.proofs.RoundTrip.{read_well_formed}
use Rattle.semantics.specs.Check.{check, EachMet}
use Rattle.semantics.proofs.Theorems.Check.CheckIsMet.{check-met, met-check}
use Rattle.call_answers.specs.Answers.{after_reading, check_answer, checks, passes_in}
use Rattle.demands.proofs.OrderKept.{order_kept}
use Rattle.demands.specs.CheckedFiles.{FeedsInOrder, Holding}

is_plan : (s : List ℕ) → number_of (refusal_of s) ≡ 0 → reading s ≡ plan (plan_of s)
unfolding reading
is_plan s z = ap (λ v. unless_refused v (plan_of s)) (accepted (refusal_of s) z)

is_answer_lem : (f : Plan) (p : ℕ) → check_answer (plan f) p ≡ one_if (check f)
unfolding check_answer
is_answer_lem f p = refl

is_told : (b : Bool) → eqb (one_if b) 1 ≡ b
is_told true = refl
is_told false = refl

is_one : (b : Bool) → one_if b ≡ 1 → b ≡ true
is_one true e = refl
is_one false e = absurd (omega arith)

-- What `check_order` is given and what it leaves, by its contract: the file, its answer, the lent number before and after
module _ (s : List ℕ) (answer before after : ℕ) (bytes : AllBytes s)
    (first : answer ≡ number_of (refusal_of s)) (second : after ≡ check_answer (reading s) before) where
  holding : answer ≡ 0 → {P : Plan → Type 0} → P (plan_of s) → Holding s P
  holding z p = let r = is_plan s (sym first ∙ z) in record { held = plan_of s; read = r; formed = read_well_formed s (plan_of s) bytes r; that = p }

  writes : answer ≡ 0 → after ≡ one_if (check (plan_of s))
  writes z = second ∙ ap (λ a. check_answer a before) (is_plan s (sym first ∙ z)) ∙ is_answer_lem (plan_of s) before

  pub checked_feeds : answer ≡ 0 → after ≡ 1 → Holding s FeedsInOrder
  checked_feeds z o = holding z (order_kept (plan_of s) (is_one (check (plan_of s)) (sym (writes z) ∙ o)))

  -- and it writes 1 exactly if each node's wanted orders are met by its children's facts
  pub writes_one : answer ≡ 0 → after ≡ 1 → Holding s EachMet
  writes_one z o = holding z (check-met (plan_of s) (is_one (check (plan_of s)) (sym (writes z) ∙ o)))

  pub met_writes_one : answer ≡ 0 → (f : Plan) → reading s ≡ plan f → EachMet f → after ≡ 1
  met_writes_one z f r m = second ∙ ap (λ a. check_answer a before) r ∙ is_answer_lem f before ∙ ap one_if (met-check m)

  -- By number and lent number one can tell whether the bytes hold a plan that passes, and nothing else
  pub told : answer ≡ 0 → eqb after 1 ≡ passes_in (after_reading (λ f. checks (check f)) (reading s))
  told z = ap (λ n. eqb n 1) (writes z) ∙ is_told (check (plan_of s))
      ∙ sym (ap (λ a. passes_in (after_reading (λ f. checks (check f)) a)) (is_plan s (sym first ∙ z)))

  pub told-refused : (answer ≡ 0 → ⊥) → false ≡ passes_in (after_reading (λ f. checks (check f)) (reading s))
  unfolding reading
  told-refused z = go (refusal_of s) refl
    where
      go : (v : Verdict) → refusal_of s ≡ v → false ≡ passes_in (after_reading (λ f. checks (check f)) (unless_refused v (plan_of s)))
      go (Ok x) e = absurd (z (first ∙ ap number_of e))
      go (Err x) e = refl
