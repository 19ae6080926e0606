use mathlib.Core.Path.{ap}
use Rattle.plan_codec.specs.Decode.{decode}
use Rattle.walks.specs.SortPushdown.{ParentRequirements}
use Rattle.sort_pushdown.specs.Deciding.{own_asks}
use Rattle.sort_pushdown.proofs.children.with_own_distribution.Goals as goal

pub returns : goal.returns
returns c = let n = decode c.args.r.now in λ m ts. let d = c.default-req.ensures in
    let x = ap (λ (P : ParentRequirements). P.order) d.is in
    own_asks n c.default-req.result.order c.default-req.result.order c.default-req.result.fetch
    c.wanted_distribution.result c.wanted_distribution-2.result c.wanted_distribution.ensures
    c.wanted_distribution-2.ensures x x d.real d.real (ap (λ (P : ParentRequirements). P.fetch) d.is) m ts
