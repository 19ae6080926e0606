use Rattle.plan_format.specs.Fields.{fields_of}
use Rattle.plan_rules.specs.Rules.{rules}
use Rattle.plan_rules.proofs.output_requirement_ok.Goals as goal

pub returns : goal.returns
returns c = rules (fields_of 13) c.args.r.now c.fetching.ensures c.output_requirement.ensures (λ _. c.ok.ensures)
    c.output_requirement-2.ensures
