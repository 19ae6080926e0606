-- Beyond the demand: what keeps the order check. Parallelizing and partial sorting do; order-preserving and push do not (walks: Examples/Worked).
-- Definitions: Plan, well_formed (plan); check (semantics); parallelized, partially_sorted (walks).
use Rattle.std.specs.Prelude.{◌≡◌, true, ℕ}
use Rattle.std.proofs.Common.{sym, ◌∙◌, subst}
use Rattle.plan.specs.Op.{Plan}
use Rattle.plan.specs.WellFormed.{well_formed}
use Rattle.semantics.specs.Check.{check}
use Rattle.walks.specs.ParallelizeSorts.{parallelize_sorts}
use Rattle.walks.specs.Counted.{answered, parallelized, partially_sorted}
use Rattle.walks.specs.Terms.{answer_up}
use Rattle.walks.proofs.Theorems.Parallelize.Passes.{parallelize-passes as parallelize-check}
use Rattle.walks.proofs.Theorems.Calls.Answers.{parallelized_is, up_answers, up_whole, well_ok}
use Rattle.walks.proofs.Theorems.PartialSort.Kept.{partial_passes}

pub parallelize-passes : (f g : Plan) → well_formed f ≡ true → check f ≡ true → parallelized f ≡ answered g → check g ≡ true
parallelize-passes f g e c h =
    let i : answer_up parallelize_sorts f ≡ answered g = sym (parallelized_is f) ∙ h in
    subst (λ (x : Plan). check x ≡ true) (sym (up_answers parallelize_sorts f g i).1)
    (parallelize-check f (well_ok f e) (up_whole parallelize_sorts f g i) c)

pub partial_sort_passes : (n : ℕ) (f g : Plan) → check f ≡ true → partially_sorted n f ≡ answered g → check g ≡ true
partial_sort_passes n f g e h = partial_passes n f g e h
