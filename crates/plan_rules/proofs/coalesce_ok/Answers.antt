use native.Mathlib.Omega.{arith}
use mathlib.Core.Bool.{false}
use mathlib.Core.Path.{refl, ◌∙◌}
use Rattle.plan_format.specs.Fields.{fields_of}
use Rattle.plan_rules.specs.Rules.{rules, no_count}
use Rattle.record_lists.proofs.Slots.{no_keys}
use Rattle.plan_rules.proofs.coalesce_ok.Goals as goal

pub returns : goal.returns
returns c = let r = c.args.r.now in
    rules (fields_of 6) r c.fetching.ensures c.none.ensures
    (λ b. c.none-2.ensures ∙ no_keys false r (λ i. omega (arith, c.type_inv.r i)) c.requires
    (no_count (fields_of 6) r refl refl b)) c.none-3.ensures
