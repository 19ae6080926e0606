use mathlib.Core.Path.{ap, ◌∙◌}
use mathlib.Core.Bool.{true}
use mathlib.Core.List.{[]}
use Rattle.std.specs.Prelude.{Option, ℕ}
use Rattle.plan_codec.specs.Decode.{decode}
use Rattle.key_lists.specs.Keys.{order_of}
use Rattle.walks.specs.SortPushdown.{min_fetch}
use Rattle.sort_pushdown.specs.Deciding.{sort_cut, sort_dist_lem, gone_by, parts}
use Rattle.sort_pushdown.proofs.sorts.sort_unasked.Goals as goal

pub returns : goal.returns
returns c = λ p ks f pl x. let n = decode c.args.r.now in
    let q = c.args.v.req in
    gone_by p ks f pl [] _ true c.no_nodes.result _ _ c.removed.ensures c.no_nodes.ensures
    (parts _ _ _ (order_of c.known_order.result) c.min_fetch.result
    c.root_distribution.result c.known_order.ensures.is
    (c.min_fetch.ensures ∙ ap (λ (g : Option ℕ). min_fetch g q.fetch)
    (sort_cut n p ks f c.fetch-f.result x c.fetch-f.ensures))
    (sort_dist_lem n p ks f c.args.v.root c.root_distribution.result x c.root_distribution.ensures))
    c.known_order.ensures.real
