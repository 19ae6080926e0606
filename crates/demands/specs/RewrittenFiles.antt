-- Where an export answers 0: the plan that it was given, the plan that the rewrite answers, and how long its file is. These are definitions.
use Rattle.std.specs.Prelude.{◌≡◌, true, List, ℕ, take}
use Rattle.plan.specs.Op.{Plan}
use Rattle.plan.specs.WellFormed.{well_formed}
use Rattle.plan_codec.specs.Reading as codec
use Rattle.plan_codec.specs.Reading.{plan, reading}
use Rattle.walks.specs.Counted.{Answer, answered}

pub record Rewriting (g : Plan → Answer) (s out : List ℕ) : Type 0 where
  pub given : Plan
  pub made : Plan
  pub long : ℕ
  pub read : reading s ≡ plan given
  pub formed : well_formed given ≡ true
  pub answers : g given ≡ answered made
  pub again : reading (take long out) ≡ plan made
