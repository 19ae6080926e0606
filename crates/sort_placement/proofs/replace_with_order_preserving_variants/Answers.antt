use mathlib.Core.Path.{◌≡◌, subst}
use Rattle.plan.specs.Numbers.{number_of}
use Rattle.walks.specs.Counted.{preserved}
use Rattle.call_answers.specs.Answers.{output_in, refusal_in, rewrites}
use Rattle.sort_placement.proofs.replace_with_order_preserving_variants.Goals as goal

pub returns : goal.returns
returns c = let s = c.args in let y = c.call in let x = y.ensures in
    subst (λ S. (y.result.number ≡ number_of (refusal_in (rewrites (preserved S) s.plan.now) s.out.now))
    × (y.new.out ≡ output_in (rewrites (preserved S) s.plan.now) s.out.now))
    c.settings_in-s.ensures (x.0, x.2)
