use Prim.Native.Nat.{ℕ}
use mathlib.Core.Path.{ap, ap₂, ◌∙◌}
use mathlib.Core.Bool.{◌&&◌}
use lib.Dec.{eqb}
use Rattle.record_lists.proofs.TailLaws.{last_three}
use Rattle.record_lists.proofs.tails.last_zero.Goals as goal

pub returns : goal.returns
returns c = ap₂ ◌&&◌ (ap (λ (a : ℕ). eqb a 0) c.get64.ensures)
    (ap₂ (λ (a b : ℕ). eqb a 0 && eqb b 0) c.get64-2.ensures c.get64-3.ensures) ∙ last_three c.args.r.now c.requires
