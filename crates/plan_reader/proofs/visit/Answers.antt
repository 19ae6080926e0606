use mathlib.Core.Path.{ap, ◌∙◌}
use Rattle.plan_format.specs.LastPass.{width_of}
use Rattle.plan_format.specs.declared.Fields.{Fields}
use Rattle.plan_reader.proofs.visit.Goals as goal

pub returns : goal.returns
returns c = record {
  is = c.node_refusal-x.ensures;
  wide = c.width_of-width.ensures ∙ ap (λ (g : Fields). width_of g c.args.r.now c.args.ws.now)
      c.fields_of-f.ensures;
}
