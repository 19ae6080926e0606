use Rattle.plan_format.specs.Fields.{fields_of}
use Rattle.plan_rules.specs.Rules.{rules}
use Rattle.plan_rules.proofs.sort_ok.Goals as goal

pub returns : goal.returns
returns c = rules (fields_of 7) c.args.r.now c.sort.ensures c.some_keys.ensures (λ _. c.ok.ensures) c.none.ensures
