use Rattle.plan_format.specs.Fields.{fields_of}
use Rattle.plan_rules.specs.Rules.{rules}
use Rattle.plan_rules.proofs.aggregate_ok.Goals as goal

pub returns : goal.returns
returns c = rules (fields_of 15) c.args.r.now c.none.ensures c.aggregate.ensures (λ _. c.ok.ensures) c.none-2.ensures
