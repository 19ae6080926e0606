use Rattle.plan.specs.declared.Kind.TheVariants.{Repartition}
use Rattle.record_fields.specs.Kinds.{number_is, number_differs}
use Rattle.node_properties.proofs.is_repartition.Goals as goal

pub returns-in-Repartition : goal.returns-in-Repartition
returns-in-Repartition c = number_is c.args.r.now Repartition c.in-Repartition.ensures

pub returns-in_default : goal.returns-in_default
returns-in_default c = number_differs c.args.r.now Repartition _ c.kind_of.ensures c.in_default.not-Repartition
