use Rattle.key_lists.specs.Keys.{keys_of}
use Rattle.asked_facts.specs.Asked.{told}
use Rattle.push_requirements.specs.Answers.{merge_stop, merge_goes, merge_differs}
use Rattle.child_requirements.proofs.handle_merge.Goals as goal

pub returns-in_default : goal.returns-in_default
returns-in_default c = λ m. merge_stop (told c.args.own.now) (keys_of c.args.parent) _ m
    c.known_order.ensures c.in_default.is

pub returns-then-compatible : goal.returns-then-compatible
returns-then-compatible c = λ m. merge_goes (told c.args.own.now)
    (keys_of c.args.parent) _ _ m
    c.known_order.ensures c.in-Some.is _
    c.compatible.ensures c.if-compatible.true _ (c.handle_custom_pushdown.ensures m)

pub returns : goal.returns
returns c = λ m. merge_differs (told c.args.own.now)
    (keys_of c.args.parent) _ _ m
    c.known_order.ensures c.in-Some.is _ c.compatible.ensures
    c.if-compatible.false
