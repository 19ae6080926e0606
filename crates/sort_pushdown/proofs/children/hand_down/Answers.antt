use mathlib.Core.Path.{ap, ◌∙◌}
use Rattle.plan_codec.specs.Decode.{decode}
use Rattle.walks.specs.SortPushdown.{stronger_distribution}
use Rattle.sort_pushdown.specs.Deciding.{hand_asks}
use Rattle.sort_pushdown.proofs.children.hand_down.Goals as goal

pub returns : goal.returns
returns c = let n = decode c.args.r.now in
    λ m ts ks h. hand_asks n c.args.first c.args.rest c.args.fetch c.stronger_distribution-d0.result
    c.stronger_distribution-d1.result c.args.d (c.stronger_distribution-d0.ensures ∙ ap (stronger_distribution c.args.d)
    c.wanted_distribution.ensures) (c.stronger_distribution-d1.ensures ∙ ap (stronger_distribution c.args.d)
    c.wanted_distribution-2.ensures) m ts ks h
