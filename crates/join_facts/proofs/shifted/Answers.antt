use native.Mathlib.Omega.{arith}
use Rattle.class_tables.specs.Filling.{filled_alone}
use Rattle.join_facts.specs.Placing.{says-shifted}
use Rattle.join_facts.proofs.shifted.Goals as goal

pub beside_table-table-requires : goal.beside_table-table-requires
beside_table-table-requires c = (λ d m. filled_alone 0 (λ e. e) c.alone-left.result c.alone-left.ensures d (omega arith), c.requires.0.down, c.requires.1)

pub returns : goal.returns
returns c = says-shifted c.args.f c.requires.0 c.args.w c.requires.1 c.alone-left.result
    c.beside_table-table.result c.moved_up-consts.result
    c.alone-left.ensures c.beside_table-table.ensures
    c.moved_up-consts.ensures
