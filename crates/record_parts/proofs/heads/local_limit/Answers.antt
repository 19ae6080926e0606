use Prim.Native.Nat.{ℕ}
use mathlib.Core.Path.{ap, ap₂, ◌∙◌}
use mathlib.Core.Bool.{◌&&◌, not}
use lib.Dec.{eqb}
use Rattle.plan.specs.Numbers.{no_fetch}
use Rattle.record_parts.specs.Kinds.{head_local_limit}
use Rattle.record_parts.proofs.heads.local_limit.Goals as goal

pub returns : goal.returns
returns c = ap₂ ◌&&◌ (ap (λ (a : ℕ). eqb a 0) c.get16.ensures) (ap₂ (λ (a b : ℕ). not (eqb a no_fetch) && eqb b 0) c.get32.ensures
    c.get32-2.ensures)
    ∙ head_local_limit c.args.r.now
