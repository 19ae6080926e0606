-- What the order check writes.
use Rattle.std.specs.Prelude.{◌≡◌, Bool, List, ℕ, Ok, Err}
use Rattle.std.proofs.Math.Path.{refl, sym, ap}
use Rattle.std.proofs.Common.{◌∙◌}
use Rattle.plan.specs.Numbers.{Verdict, number_of}
use Rattle.plan_format.specs.Passed.{refused_some}
use Rattle.plan_format.specs.Reading.{refusal_of}
use Rattle.scan.specs.Bytes.{one_if}
use Rattle.plan_codec.specs.Reading.{plan_of, unless_refused, reading}
use Rattle.plan_codec.specs.Reading as codec
use Rattle.plan_calls.specs.declared.Call.TheVariants.{CheckOrder}
use Rattle.call_answers.specs.Answers.{after_reading, check_answer, passes_in, refusal_in}
use Rattle.plan_calls.specs.Results.{result_of}

module _ (s out : List ℕ) where
  abbrev read : Verdict → codec.PlanOrRefusal
  read v = unless_refused v (plan_of s)

  pub check_number : number_of (refusal_in (after_reading (result_of CheckOrder) (reading s)) out) ≡ number_of (refusal_of s)
  unfolding reading
  check_number = go (refusal_of s)
    where
      go : (v : Verdict) → number_of (refusal_in (after_reading (result_of CheckOrder) (read v)) out) ≡ number_of v
      go (Ok x) = refl
      go (Err x) = refl

  module _ (n : ℕ) (e : n ≡ number_of (refusal_of s)) (p : ℕ) where
    pub check_writes : n ≡ 0 → (b : Bool) → b ≡ passes_in (after_reading (result_of CheckOrder) (reading s)) → one_if b ≡ check_answer (reading s) p
    unfolding reading check_answer
    check_writes z b q = ap one_if q ∙ go (refusal_of s) refl
      where
        go : (v : Verdict) → refusal_of s ≡ v → one_if (passes_in (after_reading (result_of CheckOrder) (read v))) ≡ check_answer (read v) p
        go (Ok x) q = refl
        go (Err x) q = absurd (refused_some x (sym (e ∙ ap number_of q) ∙ z))

    pub check_stays : (n ≡ 0 → ⊥) → p ≡ check_answer (reading s) p
    unfolding reading check_answer
    check_stays z = go (refusal_of s) refl
      where
        go : (v : Verdict) → refusal_of s ≡ v → p ≡ check_answer (read v) p
        go (Ok x) q = absurd (z (e ∙ ap number_of q))
        go (Err x) q = refl
