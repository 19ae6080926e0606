use mathlib.Core.Path.{◌∙◌}
use Rattle.arena.specs.Held.{child_bytes}
use Rattle.arena.proofs.child.Goals as goal

pub returns : goal.returns
returns c = c.get16.ensures ∙ child_bytes c.args.m.now c.args.i c.args.j c.requires.1 c.requires.2
