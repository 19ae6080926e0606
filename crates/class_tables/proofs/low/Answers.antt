use mathlib.Core.Path.{◌∙◌}
use Rattle.class_tables.specs.Filling.{read}
use Rattle.class_tables.proofs.low.Goals as goal

pub returns : goal.returns
returns c = c.wide.ensures ∙ read c.args.table.now c.args.c c.requires
