use Rattle.key_lists.specs.Keys.{keys_of}
use Rattle.asked_facts.specs.Asked.{told}
use Rattle.sort_pushdown.specs.Deciding.{stricter_own, stricter_parent}
use Rattle.sort_pushdown.proofs.sorts.stricter.Goals as goal

pub returns-then-compatible : goal.returns-then-compatible
returns-then-compatible c = stricter_own (told c.args.a.now) c.args.own c.keys_in.result (keys_of c.args.parent)
    c.keys_in.ensures c.compatible.result c.compatible.ensures c.if-compatible.true c.requires.1

pub returns : goal.returns
returns c = stricter_parent (told c.args.a.now) c.args.own c.keys_in.result (keys_of c.args.parent)
    c.keys_in.ensures c.compatible.result c.compatible.ensures c.if-compatible.false
    c.order_of.result c.order_of.ensures
