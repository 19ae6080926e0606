use mathlib.Core.Path.{subst}
use Rattle.key_lists.specs.declared.Keys.{Keys}
use Rattle.key_lists.specs.Keys.{keys_of, Ordered}
use Rattle.asked_facts.proofs.known_order.Goals as goal

pub order_of-requires : goal.order_of-requires
order_of-requires c = rw c.order_keys.ensures c.requires.fine.few

pub returns : goal.returns
returns c = subst (λ (k : Keys). Ordered (keys_of k) c.order_of.result) c.order_keys.ensures c.order_of.ensures
