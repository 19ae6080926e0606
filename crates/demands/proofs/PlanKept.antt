-- Demand 3, for all trees, joins, aggregates, limits and fetches included: what each of the four walks keeps of a plan.
-- Definitions: Plan, well_formed (plan); facts (semantics); skel, Added, prune, easing, blank, Live (walks).
use Rattle.std.specs.Prelude.{◌≡◌, Bool, true, false, map}
use Rattle.std.proofs.Common.{sym, ◌∙◌, subst}
use Rattle.plan.specs.Op.{Plan}
use Rattle.plan.specs.WellFormed.{well_formed}
use Rattle.semantics.specs.Facts.{facts}
use Rattle.walks.specs.EnsureSorting.{ensure_sorting}
use Rattle.walks.specs.ParallelizeSorts.{parallelize_sorts}
use Rattle.walks.specs.OrderPreserving.{replace_with_order_preserving_variants}
use Rattle.walks.specs.Counted.{answered, ensured}
use Rattle.walks.specs.Terms.{Added, blank, easing, Live, prune, skel}
use Rattle.walks.proofs.Theorems.Common.Skeleton.{added_none, eased}
use Rattle.walks.proofs.Theorems.Common.Rows.{ensure_plan, SamePlan}
use Rattle.walks.proofs.Theorems.Preserve.Kept.{preserve_plan}
use Rattle.walks.proofs.Theorems.Parallelize.Kept.{parallelize_plan}
use Rattle.walks.proofs.Theorems.Push.WellFormed.{push_plan}
use Rattle.walks.proofs.Theorems.Ensure.Live.{ensure_live as ensured-live}
use Rattle.walks.proofs.Theorems.Calls.Answers.{down_answers, ensured_is, ensured_well, parallelized_is, parallelized_well, preserved_is, preserved_well, pushed_is, pushed_well, up_answers, well_fit}
use Rattle.demands.specs.Walks.{answer, ensuring, parallelizing, preserving, pushing, Walk}
use Rattle.demands.specs.PlanKept.{may_add_limits}

-- All of it: see SamePlan
pub answer_plan : (w : Walk) (f g : Plan) → well_formed f ≡ true → answer w f ≡ answered g → SamePlan (may_add_limits w) f g
answer_plan ensuring f g e h = subst (SamePlan true f) (sym (up_answers ensure_sorting f g (sym (ensured_is f) ∙ h)).1) (ensure_plan f (well_fit f e))
answer_plan parallelizing f g e h = subst (SamePlan false f) (sym (up_answers parallelize_sorts f g (sym (parallelized_is f) ∙ h)).1)
    (parallelize_plan f (well_fit f e))
answer_plan (preserving s) f g e h = subst (SamePlan false f) (sym (up_answers (replace_with_order_preserving_variants s) f g (sym (preserved_is s f) ∙ h)).1)
    (preserve_plan s f (well_fit f e))
answer_plan pushing f g e h = subst (SamePlan false f) (sym (down_answers f g (sym (pushed_is f (well_fit f e)) ∙ h)).1) (push_plan f (well_fit f e))

-- Each walk keeps the skeleton: without kinds 5 to 10 the two trees are one
pub skeleton_kept : (w : Walk) (f g : Plan) → well_formed f ≡ true → answer w f ≡ answered g → prune easing g ≡ prune easing f
skeleton_kept w f g e h = eased f g (answer_plan w f g e h).bones

-- Parallelize, order-preserving and push keep the limits too: without kinds 5 to 8 the two trees are one
pub limits_kept : (w : Walk) (f g : Plan) → may_add_limits w ≡ false → well_formed f ≡ true → answer w f ≡ answered g → skel g ≡ skel f
limits_kept w f g n e h = added_none (subst (λ (b : Bool). Added b (skel f) (skel g)) n (answer_plan w f g e h).bones)

-- Ensuring keeps the old limits where they were: what it adds, taken out, gives the old tree without kinds 5 to 8
pub ensure_limits : (f g : Plan) → well_formed f ≡ true → ensured f ≡ answered g → Added true (skel f) (skel g)
ensure_limits f g e h = (answer_plan ensuring f g e h).bones

-- Width, constants and classes of the root are unchanged
pub root_kept : (w : Walk) (f g : Plan) → well_formed f ≡ true → answer w f ≡ answered g → map blank (facts g) ≡ map blank (facts f)
root_kept w f g e h = (answer_plan w f g e h).bases

-- No walk makes a sort of all-constant keys where there was none
pub live_kept : (w : Walk) (f g : Plan) → well_formed f ≡ true → answer w f ≡ answered g → Live f → Live g
live_kept w f g e h = (answer_plan w f g e h).live

-- No sort has all-constant keys after ensuring; then pushing never answers 25
pub ensure_live : (f g : Plan) → well_formed f ≡ true → ensured f ≡ answered g → Live g
ensure_live f g e h = subst Live (sym (up_answers ensure_sorting f g (sym (ensured_is f) ∙ h)).1) (ensured-live f (well_fit f e))

-- The answer of a walk is well formed again
pub well_formed_again : (w : Walk) (f g : Plan) → well_formed f ≡ true → answer w f ≡ answered g → well_formed g ≡ true
well_formed_again ensuring f g e h = ensured_well f g e h
well_formed_again parallelizing f g e h = parallelized_well f g e h
well_formed_again (preserving s) f g e h = preserved_well s f g e h
well_formed_again pushing f g e h = pushed_well f g e h
