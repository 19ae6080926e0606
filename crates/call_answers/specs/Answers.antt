-- What the exported functions answer. These are definitions.
use Rattle.std.specs.Prelude.{Bool, false, cond, not, List, ◌++◌, ℕ, eqb, ltb, length, drop, Err}
use Rattle.plan.specs.Op.{Plan}
use Rattle.plan.specs.declared.Refusal.{Refusal}
use Rattle.plan.specs.Numbers.{Verdict, Accepted}
use Rattle.plan.specs.declared.Refusal.TheVariants.{OutputTooShort}
use Rattle.scan.specs.Bytes.{one_if}
use Rattle.plan_codec.specs.Reading as codec
use Rattle.plan_codec.specs.Reading.{reading}
use Rattle.plan_codec.specs.Writing.{file_of_plan}
use Rattle.semantics.specs.Check.{check}
use Rattle.walks.specs.OrderPreserving.{Settings}
use Rattle.walks.specs.Counted.{Answer, refused, answered}

-- ---- the order check

-- The lent number after the order check of what was read: 1 where the plan passes, 0 where it doesn't; "A refusal .. leaves tree and
-- buffers alone"
unfoldable pub check_answer : codec.PlanOrRefusal → ℕ → ℕ
check_answer (codec.refused x) p = p
check_answer (codec.plan f) p = one_if (check f)

-- ---- calls that write a plan

-- What a call comes to: a refusal, whether the plan passes, or a plan to write
pub data Result : Type 0 where
  refuses : Refusal → Result
  checks : Bool → Result
  gives : Plan → Result

abbrev pub rewritten : Answer → Result
rewritten (refused x) = refuses x
rewritten (answered f) = gives f

-- "All input refusals come before these"
abbrev pub after_reading : (Plan → Result) → codec.PlanOrRefusal → Result
after_reading g (codec.refused x) = refuses x
after_reading g (codec.plan f) = g f

-- A rewrite g of the plan in the bytes s
abbrev pub rewrites : (Plan → Answer) → List ℕ → Result
rewrites g s = after_reading (λ f. rewritten (g f)) (reading s)

-- "A setting is one byte: zero is off, all else on"
abbrev pub setting : ℕ → Bool
setting b = not (eqb b 0)

abbrev pub settings_in : ℕ → ℕ → ℕ → Settings
settings_in spr spm prefer = record { spr = setting spr; spm = setting spm; prefer = setting prefer }

-- "24: the output buffer is shorter than the file to write"
abbrev pub too_short : Plan → List ℕ → Bool
too_short f out = ltb (length out) (length (file_of_plan f))

-- Whether it is refused, with the output that was lent
abbrev pub refusal_in : Result → List ℕ → Verdict
refusal_in (refuses x) out = Err x
refusal_in (checks b) out = Accepted
refusal_in (gives f) out = cond (too_short f out) (Err OutputTooShort) Accepted

-- The output afterwards: the file, and "bytes past the file stay"; "A refusal .. leaves tree and buffers alone"
abbrev pub output_in : Result → List ℕ → List ℕ
output_in (refuses x) out = out
output_in (checks b) out = out
output_in (gives f) out = cond (too_short f out) out (file_of_plan f ++ drop (length (file_of_plan f)) out)

abbrev pub passes_in : Result → Bool
passes_in (refuses x) = false
passes_in (checks b) = b
passes_in (gives f) = false
