use Rattle.key_lists.specs.Keys.{keys_of}
use Rattle.wanted_inputs.specs.Wanted.{first_order, no_first}
use Rattle.wanted_inputs.proofs.of_first.Goals as goal

pub returns-then-j-eq0 : goal.returns-then-j-eq0
returns-then-j-eq0 c = let s = c.args in first_order (keys_of s.keys) s.j c.order_of.result c.if-j-eq0.true c.order_of.ensures

pub returns : goal.returns
returns c = let s = c.args in no_first (keys_of s.keys) s.j c.if-j-eq0.false
