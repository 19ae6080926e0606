use Rattle.met_orders.specs.ListAnswers.{fresh_is}
use Rattle.met_orders.proofs.fresh_keys.Goals as goal

pub returns : goal.returns
returns c = fresh_is c.args.b.now c.get32.result c.args.k c.fresh_keys.result c.requires.fact_row
    c.get32.ensures c.fresh_keys.ensures
