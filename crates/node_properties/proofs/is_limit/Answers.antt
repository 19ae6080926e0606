use Rattle.std.proofs.Common.{ap₂, [], rules}
use Rattle.std.specs.Prelude.{◌||◌, ◌∷◌}
use Rattle.plan.specs.declared.Kind.TheVariants.{GlobalLimit, LocalLimit}
use Rattle.semantics.specs.Properties.{is_limit}
use Rattle.record_fields.specs.Kinds.{asked_of_each, number_differs}
use Rattle.node_properties.proofs.is_limit.Goals as goal

pub returns-in-GlobalLimit : goal.returns-in-GlobalLimit
returns-in-GlobalLimit c = asked_of_each is_limit c.args.r.now (GlobalLimit ∷ LocalLimit ∷ []) _ c.kind_of.ensures c.in-GlobalLimit.is _
    (search rules)

pub returns-in_default : goal.returns-in_default
returns-in_default c = let k = c.kind_of.ensures in
    ap₂ ◌||◌ (number_differs c.args.r.now GlobalLimit _ k c.in_default.not-GlobalLimit)
    (number_differs c.args.r.now LocalLimit _ k c.in_default.not-LocalLimit)
