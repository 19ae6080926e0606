-- The tables of a stepping in one record, when they hold its first state, and what is left of them at its end. These are definitions.
use Rattle.std.specs.Prelude.{◌≡◌, List, ℕ, ◌≤◌, ℤ, length}
use Rattle.step_tables.specs.declared.StepNode.{StepNode}
use Rattle.plan.specs.Op.{Plan}
use Rattle.stepping.specs.RowBytes.{rows_in}
use Rattle.stepping.specs.Stepping.{start, work}
use Rattle.row_reader.specs.Counts.{Zeros}
use Rattle.step_moves.specs.Running.{Book, Running}
use Rattle.step_moves.specs.Runs.{RunsOn}

abbrev pub book : List ℤ → List ℕ → List ℕ → List ℕ → List ℕ → List ℕ → List ℕ → List ℕ → Book
book cells nulls widths places order counts held queued =
    record { cells = cells; nulls = nulls; widths = widths; places = places; order = order; counts = counts; held = held; queued = queued }

-- The tables hold the first state, whatever table without counts is beside them; and the steps are few
pub record Begins (f : Plan) (rows : List ℕ) (nodes : List StepNode) (len : ℕ) (cells : List ℤ) (nulls widths places order held queued : List ℕ) : Type 0 where
  pub running : (counts : List ℕ) → Zeros counts → length counts ≡ len →
      Running f nodes len 0 (book cells nulls widths places order counts held queued) (start (rows_in f rows) 0 f)
  pub enough : work 0 (start (rows_in f rows) 0 f) ≤ 32256

abbrev pub Ran : List ℕ → ℕ → List ℕ → List StepNode → ℕ → ℕ → ℕ → List ℕ → Book → Book → Type 0
Ran m u slots nodes n gone len bytes B B' = RunsOn m u slots nodes n gone len B B' bytes
