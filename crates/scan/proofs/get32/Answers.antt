use Prim.Native.Nat.{ℕ, ◌+◌, ◌*◌}
use mathlib.Core.Path.{ap₂, ◌∙◌}
use Rattle.scan.specs.Words.{four_bytes}
use Rattle.scan.proofs.get32.Goals as goal

pub returns : goal.returns
returns c = four_bytes _ _ _ _ c.byte.ensures.1 c.byte-2.ensures.1 c.byte-3.ensures.1
    c.byte-4.ensures.1
    ∙ ap₂ (λ (a b : ℕ). a + 16777216 * b)
    (ap₂ (λ (a b : ℕ). a + 65536 * b) (ap₂ (λ (a b : ℕ). a + 256 * b) c.byte.ensures.0
    c.byte-2.ensures.0) c.byte-3.ensures.0) c.byte-4.ensures.0
