use Rattle.plan_format.specs.Fields.{fields_of}
use Rattle.plan_rules.specs.Rules.{rules}
use Rattle.plan_rules.proofs.global_limit_ok.Goals as goal

pub returns : goal.returns
returns c = rules (fields_of 9) c.args.r.now c.global_limit.ensures c.noted.ensures (λ _. c.ok.ensures) c.none.ensures
