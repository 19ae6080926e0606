use Rattle.key_lists.specs.Keys.{keys_of}
use Rattle.asked_facts.specs.Asked.{told}
use Rattle.push_requirements.specs.Answers.{order_allows_none, order_allows_some}
use Rattle.child_requirements.proofs.order_allows.Goals as goal

pub returns-in_default : goal.returns-in_default
returns-in_default c = order_allows_none (told c.args.own.now) (keys_of c.args.parent) _
    c.known_order.ensures c.in_default.is

pub returns : goal.returns
returns c = order_allows_some (told c.args.own.now)
    (keys_of c.args.parent) _ _ c.known_order.ensures
    c.in-Some.is _ c.compatible.ensures
