use Rattle.plan.specs.declared.Kind.TheVariants.{Merge}
use Rattle.record_fields.specs.Kinds.{number_is, number_differs}
use Rattle.node_properties.proofs.is_sort_preserving_merge.Goals as goal

pub returns-in-Merge : goal.returns-in-Merge
returns-in-Merge c = number_is c.args.r.now Merge c.in-Merge.ensures

pub returns-in_default : goal.returns-in_default
returns-in_default c = number_differs c.args.r.now Merge _ c.kind_of.ensures c.in_default.not-Merge
