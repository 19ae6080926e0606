use mathlib.Core.Path.{sym, ap, ◌∙◌}
use mathlib.Core.Bool.{◌||◌}
use mathlib.Core.List.{List}
use Rattle.row_order.specs.Iso.{Key}
use Rattle.plan.specs.Op.{sort_op}
use Rattle.asked_facts.specs.Asked.{told}
use Rattle.walks.specs.Utils.{needs_merge}
use Rattle.sort_pushdown.specs.Decisions.{visit_of}
use Rattle.sort_pushdown.specs.Deciding.{if_so, if_not, requirement_is, requirement_few, requirement_some, requirement_none}
use Rattle.semantics.specs.Facts as sem
use Rattle.sort_pushdown.proofs.sorts.decide_sort.Goals as goal

pub returns-in_default : goal.returns-in_default
returns-in_default c = λ p ks f pl x. let q = visit_of c.args.v in let o = sort_op p ks f in
    if_so o pl _ _ (sem.is_nil q.req.order) _ (requirement_none _ c.in_default.is) (c.sort_unasked.ensures p ks f pl x)

pub unnecessary-requires : goal.unnecessary-requires
unnecessary-requires c = (c.requires.1, requirement_few c.args.v.req.order _ c.requires.3 c.in-Some.is)

pub sort_unnecessary-requires : goal.sort_unnecessary-requires
sort_unnecessary-requires c = (
  c.requires.0,
  c.requires.1,
  c.requires.2,
  requirement_few c.args.v.req.order _ c.requires.3 c.in-Some.is,
  requirement_is c.args.v.req.order _ c.requires.3 c.in-Some.is,
)

pub returns-then-unnecessary : goal.returns-then-unnecessary
returns-then-unnecessary c = λ p ks f pl x. let q = visit_of c.args.v in
    let F = told c.args.own.now in let o = sort_op p ks f in
    if_not o pl _ _ (sem.is_nil q.req.order) _
    (requirement_some c.args.v.req.order _ c.requires.3 c.in-Some.is)
    (if_so o pl _ _ (sem.met F q.req.order || sem.compatible F q.req.order (sem.known_order F)) _
    (sym (c.unnecessary.ensures ∙ ap (λ (l : List Key). sem.met F l || sem.compatible F l (sem.known_order F))
    (requirement_is c.args.v.req.order _ c.requires.3 c.in-Some.is)) ∙ c.if-unnecessary.true)
    (c.sort_unnecessary.ensures p ks f pl x))

pub sort_replaced_twice-requires : goal.sort_replaced_twice-requires
sort_replaced_twice-requires c = (
  c.requires.0,
  c.requires.1,
  c.requires.2,
  requirement_few c.args.v.req.order _ c.requires.3
      c.in-Some.is,
  requirement_is c.args.v.req.order _ c.requires.3
      c.in-Some.is,
)

pub returns-then-needs_merge : goal.returns-then-needs_merge
returns-then-needs_merge c = λ p ks f pl x. let q = visit_of c.args.v in let F = told c.args.own.now in let C = told c.args.a.now in let o = sort_op p ks f in
    if_not o pl _ _ (sem.is_nil q.req.order) _
    (requirement_some c.args.v.req.order _ c.requires.3 c.in-Some.is)
    (if_not o pl _ _ (sem.met F q.req.order || sem.compatible F q.req.order (sem.known_order F)) _
    (sym (c.unnecessary.ensures ∙ ap (λ (l : List Key). sem.met F l || sem.compatible F l (sem.known_order F))
    (requirement_is c.args.v.req.order _ c.requires.3 c.in-Some.is))
    ∙ c.if-unnecessary.false)
    (if_so o pl _ _ (needs_merge C q.req.dist) _ (sym c.needs_merge.ensures ∙ c.if-needs_merge.true)
    (c.sort_replaced_twice.ensures p ks f pl x)))

pub sort_replaced-requires : goal.sort_replaced-requires
sort_replaced-requires c = (
  c.requires.0,
  c.requires.1,
  c.requires.2,
  requirement_few c.args.v.req.order _ c.requires.3
      c.in-Some.is,
  requirement_is c.args.v.req.order _ c.requires.3
      c.in-Some.is,
)

pub returns : goal.returns
returns c = λ p ks f pl x. let q = visit_of c.args.v in let F = told c.args.own.now in let C = told c.args.a.now in let o = sort_op p ks f in
    if_not o pl _ _ (sem.is_nil q.req.order) _
    (requirement_some c.args.v.req.order _ c.requires.3 c.in-Some.is)
    (if_not o pl _ _ (sem.met F q.req.order || sem.compatible F q.req.order (sem.known_order F)) _
    (sym (c.unnecessary.ensures ∙ ap (λ (l : List Key). sem.met F l || sem.compatible F l (sem.known_order F))
    (requirement_is c.args.v.req.order _ c.requires.3 c.in-Some.is))
    ∙ c.if-unnecessary.false)
    (if_not o pl _ _ (needs_merge C q.req.dist) _ (sym c.needs_merge.ensures ∙ c.if-needs_merge.false)
    (c.sort_replaced.ensures p ks f pl x)))
