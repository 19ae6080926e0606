use mathlib.Core.Path.{refl, subst⁻¹}
use mathlib.Core.Bool.{Bool, false, cond}
use mathlib.Core.List.{[]}
use Rattle.plan_codec.specs.Decode.{decode}
use Rattle.semantics.specs.Properties.{fetches}
use Rattle.sort_pushdown.specs.Decisions.{Decides}
use Rattle.sort_pushdown.specs.Deciding.{stay_by, own_like, initial_like}
use Rattle.semantics.specs.Facts as sem
use Rattle.walks.specs.SortPushdown.{child_count}
use Rattle.walks.specs.PushdownSorts as walk
use Rattle.sort_pushdown.proofs.deciding.unasked.Goals as goal

pub returns-then-root : goal.returns-then-root
returns-then-root c = let n = decode c.args.r.now in
    λ pl o F L R z. subst⁻¹ (λ (b : Bool). Decides o pl (walk.stays o (cond b (walk.assign_initial_requirements o pl) (walk.with_own_distribution o)))
    c.stays.result) c.if-root.true (stay_by o pl [] o (λ i. (walk.assign_initial_requirements o pl i).req) 0 false false
    c.no_nodes.result c.assign_initial_requirements.result c.stays.result c.stays.ensures
    c.no_nodes.ensures refl refl
    (initial_like n o (sem.facts pl) (child_count pl) F L R z pl _ (c.assign_initial_requirements.ensures pl z.count)))

pub returns : goal.returns
returns c = let n = decode c.args.r.now in
    λ pl o F L R z. subst⁻¹ (λ (b : Bool). Decides o pl (walk.stays o (cond b (walk.assign_initial_requirements o pl) (walk.with_own_distribution o)))
    c.stays-2.result) c.if-root.false (stay_by o pl [] o (λ i. (walk.with_own_distribution o i).req) 0 false false
    c.no_nodes-2.result c.with_own_distribution.result c.stays-2.result c.stays-2.ensures
    c.no_nodes-2.ensures refl refl (own_like n o (sem.facts pl) (child_count pl) F L R z (fetches pl) _
    (c.with_own_distribution.ensures (child_count pl) (fetches pl))))
