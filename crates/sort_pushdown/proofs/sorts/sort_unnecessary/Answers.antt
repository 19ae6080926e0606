use mathlib.Core.Path.{refl, ap, ◌∙◌}
use mathlib.Core.Bool.{true}
use mathlib.Core.List.{[]}
use Rattle.std.specs.Prelude.{Option, ℕ}
use Rattle.plan.specs.declared.Distribution.TheVariants.{Unspecified}
use Rattle.plan_codec.specs.Decode.{decode}
use Rattle.key_lists.specs.Keys.{order_of}
use Rattle.asked_facts.specs.Asked.{told}
use Rattle.walks.specs.SortPushdown.{min_fetch}
use Rattle.sort_pushdown.specs.Deciding.{stricter_is, sort_cut, gone_by, parts}
use Rattle.sort_pushdown.proofs.sorts.sort_unnecessary.Goals as goal

pub returns : goal.returns
returns c = λ p ks f pl x. let n = decode c.args.r.now in
    let q = c.args.v.req in let C = told c.args.a.now in
    gone_by p ks f pl [] _ true c.no_nodes.result _ _ c.removed.ensures c.no_nodes.ensures
    (parts _ _ Unspecified (order_of c.stricter.result) c.min_fetch.result Unspecified
    (stricter_is C c.stricter.result c.known_order.result c.args.parent _ _
    c.stricter.ensures c.known_order.ensures.is c.requires.4)
    (c.min_fetch.ensures ∙ ap (λ (g : Option ℕ). min_fetch g q.fetch)
    (sort_cut n p ks f c.fetch-f.result x c.fetch-f.ensures)) refl)
    c.stricter.ensures.real
