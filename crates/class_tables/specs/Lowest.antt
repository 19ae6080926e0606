-- The lowest number at which a test holds, as a search finds it. Assumes nothing.
use Rattle.std.specs.Prelude.{◌≡◌, Bool, true, false, ℕ, zero, suc, ◌<◌}
use Rattle.std.proofs.Common.{ap, arith}
use Rattle.semantics.specs.Facts.{lowest}

-- p holds nowhere below n
abbrev pub Nowhere : (ℕ → Bool) → ℕ → Type 0
Nowhere p n = (k : ℕ) → k < n → p k ≡ false

pub lowest_at : (p : ℕ → Bool) (n i : ℕ) → i < n → Nowhere p i → p i ≡ true → lowest p n ≡ i
lowest_at p zero i l h e = absurd (omega arith)
lowest_at p (suc n) zero l h e = rw e
lowest_at p (suc n) (suc i) l h e =
    rw (h zero (omega arith)) (ap suc (lowest_at (λ i. p (suc i)) n i (omega arith) (λ k m. h (suc k) (omega arith)) e))
