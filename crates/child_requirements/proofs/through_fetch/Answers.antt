use mathlib.Core.Path.{ap, ap₂, ◌∙◌}
use mathlib.Core.Bool.{Bool, ◌&&◌}
use Rattle.plan_codec.specs.Decode.{decode}
use Rattle.child_requirements.specs.Children.{through_is, first_among}
use Rattle.child_requirements.proofs.through_fetch.Goals as goal

pub returns : goal.returns
returns c = λ o fs ts m R s e. ap₂ ◌&&◌ c.is_some.ensures
    (ap (λ (x : Bool). x && c.maintains.result) c.supports_limit_pushdown.ensures)
    ∙ through_is (decode c.args.r.now) fs ts m s.long s.count
    c.args.limit e c.maintains.result
    (λ l. c.maintains.ensures fs (first_among _ o fs m _ _ R s l))
