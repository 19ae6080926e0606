use Rattle.join_facts.specs.Placing.{says-beside}
use Rattle.join_facts.proofs.beside.Goals as goal

pub returns : goal.returns
returns c = says-beside c.args.a c.args.b c.requires.0 c.requires.1 c.requires.2 c.beside_table-table.result
    c.moved_up.result c.either-consts.result
    c.beside_table-table.ensures c.moved_up.ensures
    c.either-consts.ensures
