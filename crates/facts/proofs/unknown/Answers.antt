use Rattle.facts.specs.Saying.{says-unknown}
use Rattle.facts.proofs.unknown.Goals as goal

pub returns : goal.returns
returns c = says-unknown c.args.w c.alone-table.result c.no_keys-order.result c.requires c.alone-table.ensures
    c.no_keys-order.ensures.0
