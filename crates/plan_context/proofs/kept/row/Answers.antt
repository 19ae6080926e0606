use Rattle.plan_context.specs.Facts.{tells}
use Rattle.plan_context.proofs.kept.row.Goals as goal

pub returns : goal.returns
returns c = (c.kept_at.ensures, tells c.args.m.now c.args.h c.requires _ c.kept_at.ensures)
