use Prim.Native.Nat.{ℕ}
use mathlib.Core.Path.{ap, ap₂, ◌∙◌}
use mathlib.Core.Bool.{◌&&◌}
use lib.Dec.{eqb}
use Rattle.record_parts.specs.Kinds.{head_none}
use Rattle.record_parts.proofs.heads.none.Goals as goal

pub returns : goal.returns
returns c = ap₂ (λ (a b : ℕ). eqb a 0 && eqb b 0) c.get16.ensures c.get64.ensures ∙ head_none c.args.r.now c.requires
