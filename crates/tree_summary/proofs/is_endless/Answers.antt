use mathlib.Core.Path.{ap}
use Prim.Native.Nat.{◌/◌}
use mathlib.Core.Bool.{◌&&◌}
use lib.Bits.{and_mask}
use lib.Dec.{eqb}
use lib.ListN.{get_or}
use Rattle.tree_summary.proofs.is_endless.Goals as goal

pub returns : goal.returns
returns c = let r = c.args.r.now in ap (λ n. eqb (get_or r 0 0) 1 && eqb n 1) (and_mask (get_or r 3 0 / 4) 1)
