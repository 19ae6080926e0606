-- Demand 3, rows: where a tree has no join, aggregate, limit or fetch, then for each of the four walks, whatever its settings and whatever rows the
-- sources hold (declared facts kept or not), every run of the tree given and every run of the tree returned, on the same source rows and
-- filter tests, however a source's rows are spread over its streams, deliver the same rows, each as often, over all the root's streams.
-- Definitions: Plan, well_formed (plan); Env, Run, SameInputs (semantics); ensured, parallelized, preserved, pushed, clear (walks).
use Rattle.std.specs.Prelude.{◌≡◌, true, []}
use Rattle.row_order.specs.Iso.{Row}
use Rattle.row_order.specs.RowLists.{row_discrete}
use Rattle.row_order.specs.Lists.{one}
use Rattle.row_order.specs.ListLaws.{same_refl}
use Rattle.plan.specs.Forest.{Forest}
use Rattle.plan.specs.Op.{Plan}
use Rattle.plan.specs.WellFormed.{well_formed}
use Rattle.semantics.specs.Runs.{Env, Run, SameInputs, Streams}
use Rattle.semantics.proofs.Theorems.Common.Streams.{each_at}
use Rattle.walks.specs.Counted.{answered}
use Rattle.walks.specs.Terms.{clear}
use Rattle.walks.proofs.Theorems.Common.Rows.{same_plan_rows}
use Rattle.walks.proofs.Theorems.Calls.Answers.{well_fit}
use Rattle.demands.specs.Walks.{answer, Walk}
use Rattle.demands.proofs.PlanKept.{answer_plan}
use Rattle.demands.specs.RowsKept.{delivered, times}

pub rows_kept : (w : Walk) (f g : Plan) → well_formed f ≡ true → clear f ≡ true → answer w f ≡ answered g → (E E' : Env) → SameInputs E E' f
    → (a b : Forest Streams) → Run E 0 0 f a → Run E' 0 0 g b → (r : Row) → times r (delivered a) ≡ times r (delivered b)
rows_kept w f g e c h E E' d a b x y r = (each_at [] [] (same_refl []) (same_plan_rows f g d (well_fit f e) c (answer_plan w f g e h) x y) 0).sums
    (λ z. one (row_discrete z r))
