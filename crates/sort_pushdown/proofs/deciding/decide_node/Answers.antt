use mathlib.Core.Path.{refl, sym, ap, ◌∙◌, subst}
use mathlib.Core.List.{List}
use Rattle.row_order.specs.Iso.{Key}
use Rattle.std.specs.Prelude.{Option, ℕ}
use Rattle.plan_codec.specs.Decode.{decode}
use Rattle.semantics.specs.Properties.{fetches, wanted}
use Rattle.key_lists.specs.Keys.{keys_of, Ordered}
use Rattle.asked_facts.specs.Asked.{told}
use Rattle.push_requirements.specs.declared.ChildOrders.{ChildOrders}
use Rattle.std.specs.Prelude.{Option, None}
use Rattle.push_requirements.specs.Pushing.{HandsOn}
use Rattle.walks.specs.Utils.{needs_merge, sort_above_with_distribution}
use Rattle.walks.specs.SortPushdown.{child_count, effective_dist, min_fetch, pushdown_requirement_to_children}
use Rattle.sort_pushdown.specs.Decisions.{Decides, visit_of}
use Rattle.sort_pushdown.specs.Deciding.{wanted_going, if_so, if_not, requirement_is, requirement_few, requirement_some, requirement_none, facts-like, count_like, wanted-like}
use Rattle.sort_pushdown.specs.Merging.{try_goes, try_stop, visited_asked, pushed_down, node_met, node_tried}
use Rattle.semantics.specs.Facts as sem
use Rattle.walks.specs.PushdownSorts as walk
use Rattle.sort_pushdown.proofs.deciding.decide_node.Goals as goal

pub returns-in_default : goal.returns-in_default
returns-in_default c = let F = told c.args.own.now in
    let L = told c.args.a.now in let R = told c.args.b.now in let q = visit_of c.args.v in
    λ pl o z e. if_so o pl (walk.unasked q o pl) (walk.node_asked q o pl) (sem.is_nil q.req.order) _ (requirement_none _ c.in_default.is)
    (c.unasked.ensures pl o F L R z)

pub returns-then-meets : goal.returns-then-meets
returns-then-meets c = let n = decode c.args.r.now in let F = told c.args.own.now in let L = told c.args.a.now in let R = told c.args.b.now in
    let q = visit_of c.args.v in λ pl o z e.
    node_met pl n o q F L R z c.args.limit e c.in-Some.order
    (requirement_is c.args.v.req.order _ c.requires.real c.in-Some.is)
    (requirement_some c.args.v.req.order _ c.requires.real c.in-Some.is) _
    c.meets.result c.meets.ensures c.if-meets.true
    (c.handed_on.ensures pl o L R (wanted o) z (wanted_going o _ _ (child_count pl) (count_like n o (sem.facts pl) (child_count pl) F L R z)
    (subst (λ (l : List Key). Ordered l c.wanted_order.result) (wanted-like n o (sem.facts pl) (child_count pl) F L R z 0)
    c.wanted_order.ensures)
    (subst (λ (l : List Key). Ordered l c.wanted_order-then-meets.result) (wanted-like n o (sem.facts pl) (child_count pl) F L R z 1)
    c.wanted_order-then-meets.ensures)))

pub pushdown_requirement_to_children-p-requires : goal.pushdown_requirement_to_children-p-requires
pushdown_requirement_to_children-p-requires c = visited_asked c.args.r.now c.args.own.now c.args.a.now c.args.b.now c.args.v.req.order _ c.requires
    c.in-Some.is

pub returns-in-Some-p : goal.returns-in-Some-p
returns-in-Some-p c = let n = decode c.args.r.now in let F = told c.args.own.now in let L = told c.args.a.now in let R = told c.args.b.now in
    let q = visit_of c.args.v in λ pl o z e.
    node_tried pl n o q F L R z c.args.limit e c.in-Some.order
    (requirement_is c.args.v.req.order _ c.requires.real
    c.in-Some.is)
    (requirement_some c.args.v.req.order _ c.requires.real
    c.in-Some.is) _
    c.meets.result
    c.meets.ensures c.if-meets.false
    (try_goes o o pl c.handed_on-in-Some-p.result q (walk.push_down q.req.order q o pl) _
    (pushed_down pl n o q F L R z c.args.limit e
    c.in-Some.order
    (requirement_is c.args.v.req.order _ c.requires.real
    c.in-Some.is) _
    (subst (λ (x : Option ChildOrders). HandsOn (child_count pl) (pushdown_requirement_to_children o c.args.limit (child_count pl) (sem.facts pl)
    (keys_of c.in-Some.order) q.req.fetch) x)
    c.in-Some-p.is (c.pushdown_requirement_to_children-p.ensures o (sem.facts pl)
    (fetches pl) (child_count pl) z e)))
    (λ ks k. subst (λ (f : Option ℕ). Decides o pl (walk.stays o (walk.hand_down ks f (effective_dist (sem.facts_op o (sem.facts pl)) q.req.dist) o))
    c.handed_on-in-Some-p.result) (c.min_fetch.ensures ∙ ap (λ (g : Option ℕ). min_fetch g q.req.fetch) e)
    (c.handed_on-in-Some-p.ensures pl o L R ks z k)))

pub merge_added-requires : goal.merge_added-requires
merge_added-requires c = visited_asked c.args.r.now c.args.own.now c.args.a.now c.args.b.now c.args.v.req.order _ c.requires
    c.in-Some.is

pub returns-then-needs_merge : goal.returns-then-needs_merge
returns-then-needs_merge c = let n = decode c.args.r.now in let F = told c.args.own.now in let L = told c.args.a.now in let R = told c.args.b.now in
    let q = visit_of c.args.v in λ pl o z e.
    node_tried pl n o q F L R z c.args.limit e c.in-Some.order
    (requirement_is c.args.v.req.order _ c.requires.real
    c.in-Some.is)
    (requirement_some c.args.v.req.order _ c.requires.real
    c.in-Some.is) _
    c.meets.result
    c.meets.ensures c.if-meets.false
    (try_stop o o pl c.merge_added.result q (walk.push_down q.req.order q o pl)
    (pushed_down pl n o q F L R z c.args.limit e
    c.in-Some.order
    (requirement_is c.args.v.req.order _ c.requires.real
    c.in-Some.is) None
    (subst (λ (x : Option ChildOrders). HandsOn (child_count pl) (pushdown_requirement_to_children o c.args.limit (child_count pl) (sem.facts pl)
    (keys_of c.in-Some.order) q.req.fetch) x)
    c.in_default-p.is (c.pushdown_requirement_to_children-p.ensures o
    (sem.facts pl) (fetches pl) (child_count pl) z e)))
    (if_so o pl _ _ (needs_merge (sem.facts_op o (sem.facts pl)) q.req.dist) _
    (sym (c.needs_merge.ensures ∙ ap (λ (G : sem.Facts). needs_merge G q.req.dist)
    (facts-like n o (sem.facts pl) (child_count pl) F L R z)) ∙ c.if-needs_merge.true)
    (c.merge_added.ensures pl o q z e
    (requirement_is c.args.v.req.order _ c.requires.real
    c.in-Some.is) refl)))

pub sort_added-requires : goal.sort_added-requires
sort_added-requires c = (
  c.requires.proper,
  c.requires.here,
  requirement_few c.args.v.req.order _ c.requires.real
      c.in-Some.is,
)

pub returns : goal.returns
returns c = let n = decode c.args.r.now in let F = told c.args.own.now in let L = told c.args.a.now in let R = told c.args.b.now in
    let q = visit_of c.args.v in λ pl o z e.
    node_tried pl n o q F L R z c.args.limit e c.in-Some.order
    (requirement_is c.args.v.req.order _ c.requires.real
    c.in-Some.is)
    (requirement_some c.args.v.req.order _ c.requires.real
    c.in-Some.is) _
    c.meets.result
    c.meets.ensures c.if-meets.false
    (try_stop o o pl c.sort_added.result q (walk.push_down q.req.order q o pl)
    (pushed_down pl n o q F L R z c.args.limit e
    c.in-Some.order
    (requirement_is c.args.v.req.order _ c.requires.real
    c.in-Some.is) None
    (subst (λ (x : Option ChildOrders). HandsOn (child_count pl) (pushdown_requirement_to_children o c.args.limit (child_count pl) (sem.facts pl)
    (keys_of c.in-Some.order) q.req.fetch) x)
    c.in_default-p.is (c.pushdown_requirement_to_children-p.ensures o
    (sem.facts pl) (fetches pl) (child_count pl) z e)))
    (if_not o pl _ _ (needs_merge (sem.facts_op o (sem.facts pl)) q.req.dist) _
    (sym (c.needs_merge.ensures ∙ ap (λ (G : sem.Facts). needs_merge G q.req.dist)
    (facts-like n o (sem.facts pl) (child_count pl) F L R z)) ∙ c.if-needs_merge.false)
    (subst (λ (l : List Key). Decides o pl (walk.covered (sort_above_with_distribution (sem.facts_op o (sem.facts pl)) l q.req.fetch q.req.dist) 0 o
    (walk.with_own_distribution o)) c.sort_added.result)
    (requirement_is c.args.v.req.order _ c.requires.real
    c.in-Some.is) (c.sort_added.ensures pl o L R z))))
