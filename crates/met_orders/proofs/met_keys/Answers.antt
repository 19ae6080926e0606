use mathlib.Core.Path.{subst}
use Rattle.key_lists.specs.declared.Keys.{Keys}
use Rattle.key_lists.specs.Keys.{keys_of}
use Rattle.asked_facts.specs.Asked.{told, Fronts}
use Rattle.met_orders.proofs.met_keys.Goals as goal

pub returns : goal.returns
returns c = subst (λ (k : Keys). Fronts (told c.args.b.now) (keys_of k) (keys_of c.args.k)
    c.fronts.result) c.order_keys.ensures c.fronts.ensures
