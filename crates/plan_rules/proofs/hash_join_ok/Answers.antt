use Rattle.plan_format.specs.Fields.{fields_of}
use Rattle.plan_rules.specs.Rules.{rules}
use Rattle.plan_rules.proofs.hash_join_ok.Goals as goal

pub returns : goal.returns
returns c = rules (fields_of 12) c.args.r.now c.none.ensures c.join.ensures (λ _. c.ok.ensures) c.zero_from.ensures
