use mathlib.Core.Path.{refl, ap, ap₂, ◌∙◌, subst}
use mathlib.Core.Bool.{false}
use mathlib.Core.List.{List, [], ◌++◌}
use Rattle.row_order.specs.Iso.{Key}
use Rattle.plan.specs.Op.{Op}
use Rattle.std.specs.Prelude.{Option, ℕ}
use Rattle.plan.specs.declared.Distribution.TheVariants.{Unspecified}
use Rattle.plan_codec.specs.Decode.{decode}
use Rattle.semantics.specs.Properties.{fresh_keys}
use Rattle.key_lists.specs.Keys.{order_of}
use Rattle.asked_facts.specs.Asked.{told}
use Rattle.walks.specs.Utils.{new_merge, sort_above_with_distribution}
use Rattle.sort_pushdown.specs.Decisions.{Adds}
use Rattle.sort_pushdown.specs.Deciding.{sort_cut, gone_by, parts}
use Rattle.semantics.specs.Facts as sem
use Rattle.sort_pushdown.proofs.sorts.sort_replaced_twice.Goals as goal

pub returns : goal.returns
returns c = λ p ks f pl x. let n = decode c.args.r.now in let q = c.args.v.req in let C = told c.args.a.now in
    let e = c.fresh_keys-new.ensures.is ∙ ap (fresh_keys C []) c.requires.4 in
    gone_by p ks f pl _ _ false c.merge_and_sort-tops.result _ _ c.removed.ensures
    (subst (λ (l : List Op). Adds l c.merge_and_sort-tops.result)
    (ap₂ (λ (l : List Key) (m : List Key). new_merge l q.fetch ++ sort_above_with_distribution C m c.fetch.result Unspecified) e
    (c.keys_in-order.ensures.is ∙ c.known_order.ensures.is)
    ∙ ap (λ (g : Option ℕ). new_merge (fresh_keys C [] (order_of q.order)) q.fetch ++ sort_above_with_distribution C
    (sem.known_order (told c.args.own.now)) g Unspecified)
    (sort_cut n p ks f c.fetch.result x c.fetch.ensures))
    c.merge_and_sort-tops.ensures)
    (parts _ q.fetch Unspecified (order_of c.order_of.result) q.fetch Unspecified
    (c.order_of.ensures.is ∙ c.normal_form.ensures.is
    ∙ ap (sem.nf C []) e) refl refl) c.order_of.ensures.real
