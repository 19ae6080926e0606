use mathlib.Core.Path.{ap, ◌∙◌}
use lib.Dec.{eqb}
use Rattle.plan.specs.Numbers.{code}
use Rattle.plan_codec.specs.Decode.{decode}
use Rattle.step_nodes.specs.Laying.{slot_proper}
use Rattle.step_nodes.proofs.projects.Goals as goal

pub is_projection-requires : goal.is_projection-requires
is_projection-requires c = slot_proper c.args.m.now c.args.u c.args.i c.requires.0 c.requires.1 _ c.record_at.ensures

pub returns : goal.returns
returns c = c.is_projection.ensures ∙ ap (λ r. eqb (code (decode r)) 3) c.record_at.ensures
