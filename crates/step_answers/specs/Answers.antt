-- What a dry run of a plan file answers (02, P3). These are definitions.
use Rattle.std.specs.Prelude.{List, ℕ, length}
use Rattle.plan.specs.Numbers.{refusal_number}
use Rattle.plan_codec.specs.Reading as codec
use Rattle.plan_codec.specs.Reading.{reading}
use Rattle.stepping.specs.Answers.{Answer, refused, answer, number, output}

-- The refusals 1 to 8 of the file come before all others
abbrev pub after_reading : codec.PlanOrRefusal → List ℕ → List ℕ → ℕ → Answer
after_reading (codec.refused x) rows bytes room = refused (refusal_number x)
after_reading (codec.plan f) rows bytes room = answer f rows bytes room

-- plan: the file; rows: the rows' bytes; bytes: the caller's list; out: the lent output. What `dry_run` returns, and the output afterwards
abbrev pub stepped : List ℕ → List ℕ → List ℕ → List ℕ → Answer
stepped plan rows bytes out = after_reading (reading plan) rows bytes (length out)

abbrev pub returned : List ℕ → List ℕ → List ℕ → List ℕ → ℕ
returned plan rows bytes out = number (stepped plan rows bytes out)

abbrev pub output_after : List ℕ → List ℕ → List ℕ → List ℕ → List ℕ
output_after plan rows bytes out = output (stepped plan rows bytes out) out
