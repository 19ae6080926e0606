use mathlib.Core.Path.{refl, subst}
use mathlib.Core.Bool.{false}
use Rattle.plan_codec.specs.Decode.{decode}
use Rattle.semantics.specs.Properties.{fetches}
use Rattle.key_lists.specs.Keys.{keys_of}
use Rattle.asked_facts.specs.Asked.{told}
use Rattle.walks.specs.Utils.{sort_above_with_distribution}
use Rattle.sort_pushdown.specs.Decisions.{Adds}
use Rattle.sort_pushdown.specs.Deciding.{stay_by, facts-like, own_like}
use Rattle.semantics.specs.Facts as sem
use Rattle.walks.specs.SortPushdown.{child_count}
use Rattle.walks.specs.PushdownSorts as walk
use Rattle.sort_pushdown.proofs.deciding.sort_added.Goals as goal

pub returns : goal.returns
returns c = let n = decode c.args.r.now in λ pl o L R z. let F = told c.args.own.now in
    stay_by o pl _ o (λ i. (walk.with_own_distribution o i).req) 0 false false c.sort_above_with_distribution-tops.result
    c.with_own_distribution.result c.stays.result c.stays.ensures
    (subst (λ (G : sem.Facts). Adds (sort_above_with_distribution G (keys_of c.args.order) c.args.fetch c.args.d)
    c.sort_above_with_distribution-tops.result) (facts-like n o (sem.facts pl) (child_count pl) F L R z)
    c.sort_above_with_distribution-tops.ensures) refl refl
    (own_like n o (sem.facts pl) (child_count pl) F L R z (fetches pl) _ (c.with_own_distribution.ensures (child_count pl) (fetches pl)))
