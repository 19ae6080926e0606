use Rattle.plan_codec.specs.Decode.{decode}
use Rattle.key_lists.specs.Keys.{keys_of}
use Rattle.child_requirements.specs.Children.{violates_none, violates_some}
use Rattle.child_requirements.proofs.pushdown_would_violate_requirements.Goals as goal

pub returns-in_default : goal.returns-in_default
returns-in_default c = violates_none (decode c.args.r.now) (keys_of c.args.parent) _
    c.wanted_order.ensures c.in_default.is

pub returns : goal.returns
returns c = violates_some (decode c.args.r.now)
    (keys_of c.args.parent) _ _ c.wanted_order.ensures
    c.in-Some.is _ c.none_equal.ensures
