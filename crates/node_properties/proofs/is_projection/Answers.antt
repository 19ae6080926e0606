use Rattle.plan.specs.declared.Kind.TheVariants.{Projection}
use Rattle.record_fields.specs.Kinds.{number_is, number_differs}
use Rattle.node_properties.proofs.is_projection.Goals as goal

pub returns-in-Projection : goal.returns-in-Projection
returns-in-Projection c = number_is c.args.r.now Projection c.in-Projection.ensures

pub returns-in_default : goal.returns-in_default
returns-in_default c = number_differs c.args.r.now Projection _ c.kind_of.ensures c.in_default.not-Projection
