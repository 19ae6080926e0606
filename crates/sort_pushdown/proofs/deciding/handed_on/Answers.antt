use mathlib.Core.Path.{refl, ap, ◌∙◌, subst}
use mathlib.Core.Bool.{false}
use mathlib.Core.List.{[]}
use Rattle.plan.specs.declared.Distribution.{Distribution}
use Rattle.plan_codec.specs.Decode.{decode}
use Rattle.semantics.specs.Properties.{fetches}
use Rattle.asked_facts.specs.Asked.{told}
use Rattle.sort_pushdown.specs.Decisions.{Asks}
use Rattle.sort_pushdown.specs.Deciding.{stay_by, facts-like, handed_like}
use Rattle.semantics.specs.Facts as sem
use Rattle.walks.specs.SortPushdown.{child_count, effective_dist}
use Rattle.walks.specs.PushdownSorts as walk
use Rattle.sort_pushdown.proofs.deciding.handed_on.Goals as goal

pub returns : goal.returns
returns c = let n = decode c.args.r.now in
    λ pl o L R ks z h. let F = told c.args.own.now in let d = c.args.d in
    stay_by o pl [] o (λ i. (walk.hand_down ks c.args.fetch (effective_dist (sem.facts_op o (sem.facts pl)) d) o i).req) 0 false false
    c.no_nodes.result c.hand_down-reqs.result c.stays.result c.stays.ensures c.no_nodes.ensures refl refl
    (handed_like n o (sem.facts pl) (child_count pl) F L R z (fetches pl) ks c.args.fetch (effective_dist (sem.facts_op o (sem.facts pl)) d) _
    (subst (λ (e : Distribution). Asks (child_count pl) (fetches pl) (λ i. (walk.hand_down ks c.args.fetch e n i).req)
    c.hand_down-reqs.result) (c.effective_distribution-e.ensures ∙ ap (λ (G : sem.Facts). effective_dist G d)
    (facts-like n o (sem.facts pl) (child_count pl) F L R z)) (c.hand_down-reqs.ensures (child_count pl) (fetches pl) ks h)))
