use mathlib.Core.Path.{sym, ◌∙◌}
use Rattle.plan.specs.declared.Kind.TheVariants.{Sort}
use Rattle.plan_codec.specs.Decode.{decode}
use Rattle.semantics.specs.Properties.{rebuilt}
use Rattle.asked_facts.specs.Asked.{told}
use Rattle.record_fields.specs.Kinds.{op_of, code-kind}
use Rattle.sort_pushdown.specs.Decisions.{visit_of}
use Rattle.sort_pushdown.specs.Merging.{seen_again, helper_touched, helper_node, helper_sort, sort_one, limit_again}
use Rattle.semantics.specs.Facts as sem
use Rattle.walks.specs.SortPushdown.{child_count}
use Rattle.sort_pushdown.proofs.deciding.pushdown_sorts_helper.Goals as goal

pub returns-then-is_sort : goal.returns-then-is_sort
returns-then-is_sort c = let r = c.args.r.now in let n = decode r in
    let F = told c.args.own.now in let L = told c.args.a.now in let q = visit_of c.args.v in
    λ pl z e. let x = op_of r Sort (code-kind r Sort (sym c.is_sort.ensures ∙ c.if-is_sort.true)) in
    helper_sort n q pl c.decide_sort.result _ _ _ x F L z.facts (z.first (sort_one n _ _ _ (child_count pl) x z.count))
    (c.decide_sort.ensures _ _ _ pl x)

pub returns-then-v : goal.returns-then-v
returns-then-v c = let r = c.args.r.now in let n = decode r in
    let F = told c.args.own.now in let L = told c.args.a.now in let R = told c.args.b.now in let q = visit_of c.args.v in
    λ pl z e. helper_touched n q pl _ (sym c.is_sort.ensures ∙ c.if-is_sort.false)
    c.if-v.true c.decide_node-d.result c.touched.ensures
    (c.decide_node-d.ensures pl (rebuilt n (sem.facts pl)) (seen_again n n (sem.facts pl) (child_count pl) F L R z)
    (limit_again n pl _ e))

pub returns : goal.returns
returns c = let r = c.args.r.now in let n = decode r in
    let q = visit_of c.args.v in λ pl z e. helper_node n q pl _ (sym c.is_sort.ensures ∙ c.if-is_sort.false)
    c.if-v.false (c.decide_node-d.ensures pl n z e)
