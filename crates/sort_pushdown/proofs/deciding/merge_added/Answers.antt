use mathlib.Core.Path.{subst}
use Rattle.std.specs.Prelude.{Option}
use Rattle.plan_codec.specs.Decode.{decode}
use Rattle.semantics.specs.Properties.{fetches, rebuilt}
use Rattle.key_lists.specs.Keys.{keys_of}
use Rattle.asked_facts.specs.Asked.{told}
use Rattle.push_requirements.specs.declared.ChildOrders.{ChildOrders}
use Rattle.push_requirements.specs.Pushing.{HandsOn}
use Rattle.sort_pushdown.specs.Merging.{asked_again, seen₁, limit₁, merge_goes, merge_stop}
use Rattle.walks.specs.SortPushdown.{child_count, pushdown_requirement_to_children}
use Rattle.semantics.specs.Facts as sem
use Rattle.sort_pushdown.proofs.deciding.merge_added.Goals as goal

pub pushdown_requirement_to_children-p-requires : goal.pushdown_requirement_to_children-p-requires
pushdown_requirement_to_children-p-requires c = asked_again c.args.r.now c.args.own.now c.args.a.now c.args.b.now c.args.order c.fresh_keys-new.result
    c.normal_form-again.result c.requires c.fresh_keys-new.ensures c.normal_form-again.ensures

pub returns-in-Some : goal.returns-in-Some
returns-in-Some c = let n = decode c.args.r.now in let F = told c.args.own.now in let L = told c.args.a.now in let R = told c.args.b.now in
    λ pl o q z e eo ef.
    merge_goes pl n o q F L R z c.args.limit c.args.fetch c.args.order
    c.fresh_keys-new.result
    c.normal_form-again.result e eo ef
    c.fresh_keys-new.ensures
    c.normal_form-again.ensures c.merge_only.result
    c.hand_down-reqs.result c.stays.result _
    (subst (λ (x : Option ChildOrders). HandsOn (child_count pl) (pushdown_requirement_to_children (rebuilt o (sem.facts pl)) c.args.limit (child_count pl)
    (sem.facts pl) (keys_of c.normal_form-again.result) c.args.fetch) x)
    c.in-Some.is
    (c.pushdown_requirement_to_children-p.ensures (rebuilt o (sem.facts pl)) (sem.facts pl)
    (fetches pl) (child_count pl) (seen₁ pl n o q F L R z c.args.limit c.args.fetch c.args.order
    c.fresh_keys-new.result
    c.normal_form-again.result e eo ef
    c.fresh_keys-new.ensures
    c.normal_form-again.ensures)
    (limit₁ pl n o q F L R z c.args.limit c.args.fetch c.args.order
    c.fresh_keys-new.result
    c.normal_form-again.result e eo ef
    c.fresh_keys-new.ensures
    c.normal_form-again.ensures))) c.min_fetch.result
    c.min_fetch.ensures c.stays.ensures c.merge_only.ensures
    (λ ks k. c.hand_down-reqs.ensures (child_count pl) (fetches pl) ks k)

pub returns : goal.returns
returns c = let n = decode c.args.r.now in let F = told c.args.own.now in let L = told c.args.a.now in let R = told c.args.b.now in
    λ pl o q z e eo ef.
    merge_stop pl n o q F L R z c.args.limit c.args.fetch c.args.order
    c.fresh_keys-new.result
    c.normal_form-again.result e eo ef
    c.fresh_keys-new.ensures
    c.normal_form-again.ensures c.merge_and_sort-tops.result
    c.with_own_distribution.result c.stays-2.result
    (subst (λ (x : Option ChildOrders). HandsOn (child_count pl) (pushdown_requirement_to_children (rebuilt o (sem.facts pl)) c.args.limit (child_count pl)
    (sem.facts pl) (keys_of c.normal_form-again.result) c.args.fetch) x)
    c.in_default.is (c.pushdown_requirement_to_children-p.ensures
    (rebuilt o (sem.facts pl)) (sem.facts pl) (fetches pl) (child_count pl)
    (seen₁ pl n o q F L R z c.args.limit c.args.fetch c.args.order
    c.fresh_keys-new.result
    c.normal_form-again.result e eo ef
    c.fresh_keys-new.ensures
    c.normal_form-again.ensures)
    (limit₁ pl n o q F L R z c.args.limit c.args.fetch c.args.order
    c.fresh_keys-new.result
    c.normal_form-again.result e eo ef
    c.fresh_keys-new.ensures
    c.normal_form-again.ensures))) c.stays-2.ensures c.merge_and_sort-tops.ensures
    (c.with_own_distribution.ensures (child_count pl) (fetches pl))
