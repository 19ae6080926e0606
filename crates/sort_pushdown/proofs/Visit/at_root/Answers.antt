use mathlib.Core.Path.{ap}
use mathlib.Core.Bool.{true, false}
use Rattle.walks.specs.SortPushdown.{ParentRequirements}
use Rattle.sort_pushdown.proofs.Visit.at_root.Goals as goal

pub returns : goal.returns
returns c = (ap (λ (P : ParentRequirements). record { req = P; touch = false; root = true }) c.default-req.ensures.is, c.default-req.ensures.real)
