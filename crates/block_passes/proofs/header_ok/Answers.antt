use mathlib.Core.Path.{ap, ap₂}
use mathlib.Core.Bool.{◌&&◌}
use Prim.Native.Nat.{ℕ}
use lib.Dec.{eqb}
use Rattle.block_passes.proofs.header_ok.Goals as goal

pub returns : goal.returns
returns c = ap₂ ◌&&◌ (ap₂ ◌&&◌ (ap₂ ◌&&◌ (ap (λ (x : ℕ). eqb x c.args.k) c.get16-number.ensures) (ap (λ (x : ℕ). eqb x c.args.n) c.get16-total.ensures))
    c.count_ok-counted.ensures) c.padding_ok.ensures
