use Rattle.plan_format.specs.Fields.{fields_of}
use Rattle.plan_rules.specs.Rules.{rules}
use Rattle.plan_rules.proofs.source_ok.Goals as goal

pub returns : goal.returns
returns c = rules (fields_of 1) c.args.r.now c.source.ensures c.source-2.ensures (λ _. c.ok.ensures) c.zero_from.ensures
