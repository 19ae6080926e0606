use Rattle.std.proofs.Common.{rules}
use Rattle.class_tables.specs.Tables.{at}
use Rattle.key_list_algebra.proofs.normal.Goals as goal

pub returns : goal.returns
returns c = c.normal_by.ensures (at c.args.table.now) (λ d r h e. search rules)
