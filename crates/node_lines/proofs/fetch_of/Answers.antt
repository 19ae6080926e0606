use Rattle.node_lines.specs.Laws.{fetch_known, fetch_unknown}
use Rattle.node_lines.proofs.fetch_of.Goals as goal

pub returns-then-fields : goal.returns-then-fields
returns-then-fields c = fetch_known c.fields_of-fields.result c.args.k c.args.bytes _ c.fields_of-fields.ensures c.if-fields.true c.fetch_from.ensures

pub returns-else-fields : goal.returns-else-fields
returns-else-fields c = fetch_unknown c.fields_of-fields.result c.args.k c.args.bytes c.fields_of-fields.ensures c.if-fields.false
