use Rattle.std.proofs.Common.{ap, ◌∙◌, cond}
use Rattle.std.specs.Prelude.{None}
use Rattle.plan.specs.declared.Kind.TheVariants.{OutputRequirement}
use Rattle.plan_codec.specs.Decode.{decode}
use Rattle.semantics.specs.Properties.{cuts}
use Rattle.record_fields.specs.Kinds.{number_is, number_differs}
use Rattle.node_fetches.proofs.output_fetch.Goals as goal

pub returns-in-OutputRequirement : goal.returns-in-OutputRequirement
returns-in-OutputRequirement c = let r = c.args.r.now in
    c.fetch.ensures ∙ ap (λ b. cond b (cuts (decode r)).fetch None) (number_is r OutputRequirement c.in-OutputRequirement.ensures)

pub returns-in_default : goal.returns-in_default
returns-in_default c = let r = c.args.r.now in
    ap (λ b. cond b (cuts (decode r)).fetch None) (number_differs r OutputRequirement _ c.kind_of.ensures c.in_default.not-OutputRequirement)
