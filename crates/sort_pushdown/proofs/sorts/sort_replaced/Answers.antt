use mathlib.Core.Path.{refl, subst}
use mathlib.Core.Bool.{false}
use mathlib.Core.List.{List}
use Rattle.row_order.specs.Iso.{Key}
use Rattle.plan.specs.declared.Distribution.TheVariants.{Unspecified}
use Rattle.plan_codec.specs.Decode.{decode}
use Rattle.key_lists.specs.Keys.{order_of}
use Rattle.asked_facts.specs.Asked.{told}
use Rattle.walks.specs.Utils.{sort_above_with_distribution}
use Rattle.sort_pushdown.specs.Decisions.{Adds}
use Rattle.sort_pushdown.specs.Deciding.{sort_cut, gone_by, parts}
use Rattle.sort_pushdown.proofs.sorts.sort_replaced.Goals as goal

pub returns : goal.returns
returns c = λ p ks f pl x. let n = decode c.args.r.now in
    let q = c.args.v.req in let C = told c.args.a.now in
    gone_by p ks f pl _ _ false c.sort_above_with_distribution-tops.result _ _ c.removed.ensures
    (subst (λ (l : List Key). Adds (sort_above_with_distribution C l q.fetch q.distribution) c.sort_above_with_distribution-tops.result)
    c.requires.4 c.sort_above_with_distribution-tops.ensures)
    (parts _ _ Unspecified (order_of c.known_order.result) c.fetch.result Unspecified
    c.known_order.ensures.is (sort_cut n p ks f c.fetch.result x c.fetch.ensures)
    refl) c.known_order.ensures.real
