-- Demand 3, after ensuring: no run of the tree that ensuring returns feeds an operator out of order, where the source rows keep what the given tree
-- declares; and pushing it never answers 25.
-- Definitions: Plan, well_formed (plan); Env, Sources, Run (semantics); ensured, pushed (walks); AllFed (OrderKept).
use Rattle.std.specs.Prelude.{◌≡◌, true}
use Rattle.plan.specs.Forest.{Forest}
use Rattle.plan.specs.Op.{Plan}
use Rattle.plan.specs.WellFormed.{well_formed}
use Rattle.semantics.specs.Runs.{Env, Run, Sources, Streams}
use Rattle.walks.specs.Counted.{answered, ensured, pushed, refused}
use Rattle.walks.proofs.Theorems.Ensure.Sound.{sources_kept}
use Rattle.walks.proofs.Theorems.Calls.Answers.{live_pushed}
use Rattle.demands.specs.OrderKept.{AllFed}
use Rattle.demands.proofs.OrderKept.{order_kept}
use Rattle.demands.specs.Walks.{ensuring}
use Rattle.demands.proofs.PlanKept.{answer_plan, ensure_live}
use Rattle.plan.specs.declared.Refusal.TheVariants.{ConstantSort}
use Rattle.demands.proofs.EnsurePasses.{ensure_passes}

pub ensure_feeds : (f g : Plan) → well_formed f ≡ true → ensured f ≡ answered g → (E : Env) → Sources E 0 f → (out : Forest Streams)
    → Run E 0 0 g out → AllFed g out
ensure_feeds f g e h E d out r = order_kept g (ensure_passes f g e h) E (sources_kept E f g (answer_plan ensuring f g e h) d) out r

-- Pushing after ensuring never answers 25
pub push_after_ensure : (f g : Plan) → well_formed f ≡ true → ensured f ≡ answered g → ¬ (pushed g ≡ refused ConstantSort)
push_after_ensure f g e h = live_pushed g (answer_plan ensuring f g e h).fit (ensure_live f g e h)
