-- 02, P3, from bytes to bytes: "What a finished stepping delivers is shown to be a run in document 01's sense, so a plan that passes the check shows
-- no row out of order here." Said over the definitions that the contract of `dry_run` cites, `returned` and `output_after` (step_answers), and the one
-- that the contract of `check_order` cites, `check_answer` (call_answers).
-- Definitions further: reading (plan_codec); AllBytes (scan); Plan (plan); before (row_order: the ISO order); facts, Run, Holds (semantics); rows_in,
-- streams_bytes, unfiltered, stepping, finished, delivered, moves, waits (stepping); NoJoin (step_answers); AllFed (OrderKept).
use Rattle.std.specs.Prelude.{◌≡◌, List, ℕ, ◌≤◌, length}
use Rattle.std.proofs.Math.Bool.{true}
use Rattle.plan.specs.Op.{Plan}
use Rattle.plan.specs.WellFormed.{well_formed}
use Rattle.scan.specs.Bytes.{AllBytes}
use Rattle.plan_codec.specs.Reading.{plan, reading}
use Rattle.plan_codec.specs.Writing.{file_of_plan}
use Rattle.plan_codec.proofs.RoundTrip.{read_written}
use Rattle.semantics.specs.Check.{check}
use Rattle.stepping.specs.Stepping.{stepping, finished}
use Rattle.step_answers.specs.Answers.{returned}
use Rattle.stepping.proofs.Theorems.FirstJoin.{NoJoin}
use Rattle.stepping.proofs.Theorems.OrderOfAnswers.{RowsKeep, row_count, delivered_bytes}
use Rattle.step_answers.proofs.FileAnswers.{returns_plan, returns_0}
use Rattle.call_answers.specs.Answers.{check_answer}
use Rattle.demands.specs.DryRuns.{Delivers, Ordered}
use Rattle.demands.proofs.DryRunLaws.{delivers_of, ordered_of, passing}

module _ (s rows bytes out : List ℕ) (b : AllBytes s) (z : returned s rows bytes out ≡ 0) where
  -- "What a finished stepping delivers is shown to be a run in document 01's sense"
  pub dry_run-delivers : (f : Plan) × Delivers s rows bytes out f
  dry_run-delivers = let p = returns_plan s rows bytes out z in (p.0, delivers_of s rows bytes out b z p.0 p.1)

  -- "so a plan that passes the check shows no row out of order here". lent: the number that is lent to `check_order`, which leaves 1 in it
  pub dry_run_in_order : (lent : ℕ) → check_answer (reading s) lent ≡ 1 → (f : Plan) × Ordered s rows bytes out f
  dry_run_in_order lent e = let p = returns_plan s rows bytes out z in (p.0, ordered_of s rows bytes out b z p.0 p.1 (passing s rows bytes out b z p.0 p.1 lent e))

-- No empty promise: every plan without joins and aggregates is stepped, whatever the caller's list, over every rows that keep the form and what their
-- sources declare, where they are at most 256 and the output has room
pub dry_run_accepts : (f : Plan) → well_formed f ≡ true → NoJoin f → (rows bytes out : List ℕ) → RowsKeep f rows → row_count f rows ≤ 256 →
    length (delivered_bytes f rows bytes) ≤ length out → returned (file_of_plan f) rows bytes out ≡ 0
dry_run_accepts f w j rows bytes out k l h = (returns_0 (file_of_plan f) rows bytes out f (read_written f w)).1 (j, k, l, h)
