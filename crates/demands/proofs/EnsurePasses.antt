-- Demand 3, ensuring: whatever tree ensuring gets, the tree that it returns passes the order check. So no run of it feeds an operator out of
-- order, where the source rows keep what the given tree declares.
-- Definitions: Plan, well_formed (plan); check, Env, Sources, Run (semantics); ensured (walks).
use Rattle.std.specs.Prelude.{◌≡◌, true}
use Rattle.std.proofs.Common.{sym, ◌∙◌, subst}
use Rattle.plan.specs.Op.{Plan}
use Rattle.plan.specs.WellFormed.{well_formed}
use Rattle.semantics.specs.Check.{check}
use Rattle.walks.specs.EnsureSorting.{ensure_sorting}
use Rattle.walks.specs.Counted.{answered, ensured}
use Rattle.walks.proofs.Theorems.Ensure.Passes.{ensure_passes as ensure-check}
use Rattle.walks.proofs.Theorems.Calls.Answers.{ensured_is, up_answers, well_fit}

pub ensure_passes : (f g : Plan) → well_formed f ≡ true → ensured f ≡ answered g → check g ≡ true
ensure_passes f g e h =
    let p = up_answers ensure_sorting f g (sym (ensured_is f) ∙ h) in
    subst (λ (x : Plan). check x ≡ true) (sym p.1) (ensure-check f (well_fit f e))
