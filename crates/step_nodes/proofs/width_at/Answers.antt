use mathlib.Core.Path.{ap, ◌∙◌}
use Rattle.step_nodes.specs.Laying.{own_row, own_facts}
use Rattle.step_nodes.proofs.width_at.Goals as goal

pub width-requires : goal.width-requires
width-requires c = own_row c.args.m.now c.args.u c.args.i c.requires.0 c.requires.1 _ c.kept_at.ensures

pub returns : goal.returns
returns c = (c.width.ensures.0 ∙ ap (λ F. F.width) (own_facts c.args.m.now c.args.u c.args.i c.requires.0 c.requires.1 _ c.kept_at.ensures), c.width.ensures.1)
