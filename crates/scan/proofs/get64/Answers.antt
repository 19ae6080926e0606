use native.Mathlib.Omega.{arith}
use Prim.Native.Nat.{ℕ, ◌+◌, ◌*◌}
use mathlib.Core.Path.{ap₂, ◌∙◌}
use Rattle.scan.specs.Words.{or_above, eight_bytes}
use Rattle.scan.proofs.get64.Goals as goal

pub returns : goal.returns
returns c = or_above 32 32 64 _ _ (omega (arith, c.get32-low.type_inv)) (omega (arith, c.get32-high.type_inv)) (omega arith)
    ∙ ap₂ (λ (a b : ℕ). a + 4294967296 * b) c.get32-low.ensures c.get32-high.ensures
    ∙ eight_bytes _ _ c.requires
