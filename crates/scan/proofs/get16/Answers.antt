use native.Mathlib.Omega.{arith}
use Prim.Native.Nat.{ℕ, ◌+◌, ◌*◌}
use mathlib.Core.Path.{ap₂, ◌∙◌}
use Rattle.scan.specs.Words.{or_above}
use Rattle.scan.proofs.get16.Goals as goal

pub returns : goal.returns
returns c = or_above 8 8 32 _ _ c.byte.ensures.1 c.byte-2.ensures.1 (omega arith) ∙ ap₂ (λ (a b : ℕ). a + 256 * b)
    c.byte.ensures.0 c.byte-2.ensures.0
