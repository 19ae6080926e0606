use mathlib.Core.Path.{sym, ap, ◌∙◌}
use mathlib.Core.Bool.{Bool, cond}
use Rattle.plan.specs.declared.Distribution.TheVariants.{Unspecified}
use Rattle.plan_codec.specs.Decode.{decode}
use Rattle.semantics.specs.Properties.{dist_of}
use Rattle.sort_pushdown.proofs.sorts.root_distribution.Goals as goal

pub returns-then-root : goal.returns-then-root
returns-then-root c = c.wanted_distribution.ensures ∙ sym (ap (λ (b : Bool). cond b (dist_of (decode c.args.r.now) 0) Unspecified)
    c.if-root.true)
