use Rattle.facts.specs.Saying.{says_both}
use Rattle.facts.proofs.union_facts.Goals as goal

pub returns : goal.returns
returns c = says_both c.args.a c.args.b c.union_table-table.result c.common_keys-order.result
    c.requires.0 c.requires.1 c.union_table-table.ensures c.common_keys-order.ensures
