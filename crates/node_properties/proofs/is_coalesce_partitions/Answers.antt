use Rattle.plan.specs.declared.Kind.TheVariants.{Coalesce}
use Rattle.record_fields.specs.Kinds.{number_is, number_differs}
use Rattle.node_properties.proofs.is_coalesce_partitions.Goals as goal

pub returns-in-Coalesce : goal.returns-in-Coalesce
returns-in-Coalesce c = number_is c.args.r.now Coalesce c.in-Coalesce.ensures

pub returns-in_default : goal.returns-in_default
returns-in_default c = number_differs c.args.r.now Coalesce _ c.kind_of.ensures c.in_default.not-Coalesce
