use Rattle.class_tables.specs.Tables.{Columns}
use Rattle.facts.specs.Known.{known}
use Rattle.facts.specs.Reading.{classes}
use Rattle.facts.specs.Projecting.{columns, says_projection}
use Rattle.facts.proofs.projection_facts.Goals as goal
use Rattle.facts.proofs.projection_facts.Goals.{Start}

narrow : (c : Start) → Columns c.args.cols.now
narrow c = columns c.args.f.width c.args.cols.now c.requires.0.wide c.requires.1

pub projection_table-table-requires : goal.projection_table-table-requires
projection_table-table-requires c = (narrow (goal.at.projection_table-table-requires c).Start, c.requires.2)

pub projection_order-order-requires : goal.projection_order-order-requires
projection_order-order-requires c = record { columns = narrow (goal.at.projection_order-order-requires c).Start; cols_len_bound = (c.requires.2, c.requires.0.few) }

pub returns : goal.returns
returns c = says_projection c.args.f c.args.cols.now c.projection_table-table.result c.projection_set-consts.result
    c.projection_order-order.result c.requires.0 c.requires.2 c.projection_table-table.ensures c.projection_set-consts.ensures
    (c.projection_order-order.ensures (known c.args.f) (classes c.args.f c.requires.0))
