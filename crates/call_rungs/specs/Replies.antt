-- What a call replies in the end. These are definitions.
use Rattle.std.specs.Prelude as std
use Rattle.std.specs.Prelude.{◌≡◌, Bool, false, List, ℕ, Ok, Err}
use Rattle.plan.specs.Numbers.{number_of, refusal_number}
use Rattle.plan.specs.declared.Refusal.{Refusal}
use Rattle.call_rungs.specs.declared.Reply.{Reply}
use Rattle.call_answers.specs.Answers.{Result, refusal_in, output_in, passes_in}

-- The number, whether the plan passes, and every byte of the output afterwards: all that the result settles
abbrev pub Answered : Reply → Result → List ℕ → List ℕ → Type 0
Answered r R out out' = (r.number ≡ number_of (refusal_in R out)) × (r.passes ≡ passes_in R) × (out' ≡ output_in R out)

-- "An accepted call returns 0"
abbrev pub reply_of : std.Result Bool Refusal → Reply
reply_of (Ok b) = record { number = 0; passes = b }
reply_of (Err x) = record { number = refusal_number x; passes = false }
