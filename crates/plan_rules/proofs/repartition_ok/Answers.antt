use native.Mathlib.Omega.{arith}
use mathlib.Core.Path.{◌∙◌}
use Rattle.plan_format.specs.Fields.{fields_of}
use Rattle.plan_rules.specs.Rules.{rules, plain_keys_lem}
use Rattle.plan_rules.proofs.repartition_ok.Goals as goal

pub returns : goal.returns
returns c = let r = c.args.r.now in
    rules (fields_of 5) r c.repartition.ensures c.repartition-2.ensures
    (λ b. c.ok.ensures ∙ plain_keys_lem r (λ i. omega (arith, c.type_inv.r i)) c.requires b) c.none.ensures
