-- "Every accepted plan has a run, whatever its source rows and filter tests" (01, 'Rows'), said of files: a file of bytes that is read as
-- a plan.
-- Definitions: reading, plan (plan_codec); AllBytes (scan); Plan (plan); Env, Streams, Run (semantics).
use Rattle.std.specs.Prelude.{◌≡◌, List, ℕ}
use Rattle.plan.specs.Forest.{Forest}
use Rattle.plan.specs.Op.{Plan}
use Rattle.scan.specs.Bytes.{AllBytes}
use Rattle.plan_codec.specs.Reading.{plan, reading}
use Rattle.plan_codec.proofs.RoundTrip.{read_well_formed}
use Rattle.semantics.specs.Runs.{Streams, Env, Run}
use Rattle.semantics.proofs.Theorems.Runs.Exists.{run_exists}

pub accepted_runs : (s : List ℕ) (f : Plan) → AllBytes s → reading s ≡ plan f → (E : Env) → (out : Forest Streams) × Run E 0 0 f out
accepted_runs s f b e E = run_exists E f (read_well_formed s f b e)
