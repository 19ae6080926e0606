-- What is said of a file by its plan. These are definitions.
use Rattle.std.specs.Prelude.{◌≡◌, List, ℕ}
use Rattle.std.proofs.Math.Bool.{true}
use Rattle.plan.specs.Forest.{Forest}
use Rattle.plan.specs.Op.{Plan}
use Rattle.plan.specs.WellFormed.{well_formed}
use Rattle.plan_codec.specs.Reading.{plan, reading}
use Rattle.semantics.specs.Runs.{Env, Run, Sources, Streams}
use Rattle.demands.specs.OrderKept.{AllFed}

-- No run of a plan, over rows that keep its declared facts, feeds an operator out of order
abbrev pub FeedsInOrder : Plan → Type 0
FeedsInOrder f = (E : Env) → Sources E 0 f → (out : Forest Streams) → Run E 0 0 f out → AllFed f out

-- A file holds a plan that is well formed, and P of it
pub record Holding (s : List ℕ) (P : Plan → Type 0) : Type 0 where
  pub held : Plan
  pub read : reading s ≡ plan held
  pub formed : well_formed held ≡ true
  pub that : P held
