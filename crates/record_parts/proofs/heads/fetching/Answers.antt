use Prim.Native.Nat.{ℕ}
use mathlib.Core.Path.{ap, ap₂, ◌∙◌}
use mathlib.Core.Bool.{◌&&◌}
use lib.Dec.{eqb}
use Rattle.record_parts.specs.Kinds.{head_fetching}
use Rattle.record_parts.proofs.heads.fetching.Goals as goal

pub returns : goal.returns
returns c = ap₂ (λ (a b : ℕ). eqb a 0 && eqb b 0) c.get16.ensures c.get32.ensures ∙ head_fetching c.args.r.now
