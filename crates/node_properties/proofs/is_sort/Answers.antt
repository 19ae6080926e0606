use Rattle.plan.specs.declared.Kind.TheVariants.{Sort}
use Rattle.record_fields.specs.Kinds.{number_is, number_differs}
use Rattle.node_properties.proofs.is_sort.Goals as goal

pub returns-in-Sort : goal.returns-in-Sort
returns-in-Sort c = number_is c.args.r.now Sort c.in-Sort.ensures

pub returns-in_default : goal.returns-in_default
returns-in_default c = number_differs c.args.r.now Sort _ c.kind_of.ensures c.in_default.not-Sort
