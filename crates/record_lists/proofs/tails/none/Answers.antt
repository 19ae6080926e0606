use Prim.Native.Nat.{ℕ}
use mathlib.Core.Path.{ap, ap₂, ◌∙◌}
use mathlib.Core.Bool.{◌&&◌}
use lib.Dec.{eqb}
use Rattle.record_lists.proofs.TailLaws.{last_four}
use Rattle.record_lists.proofs.tails.none.Goals as goal

pub returns : goal.returns
returns c = ap₂ ◌&&◌ (ap (λ (a : ℕ). eqb a 0) c.get64.ensures) c.last_zero.ensures ∙ last_four c.args.r.now
