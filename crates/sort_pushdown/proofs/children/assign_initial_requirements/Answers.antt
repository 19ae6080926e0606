use Rattle.std.specs.Prelude.{None}
use Rattle.plan_codec.specs.Decode.{decode}
use Rattle.sort_pushdown.specs.Deciding.{initial_asks}
use Rattle.sort_pushdown.proofs.children.assign_initial_requirements.Goals as goal

pub returns : goal.returns
returns c = let n = decode c.args.r.now in
    λ pl v. initial_asks n c.wanted_order.result c.wanted_order-2.result None
    c.wanted_distribution.result c.wanted_distribution-2.result c.wanted_distribution.ensures
    c.wanted_distribution-2.ensures c.wanted_order.ensures c.wanted_order-2.ensures pl v
