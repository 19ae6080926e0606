use mathlib.Core.Path.{ap}
use mathlib.Core.Bool.{Bool, ◌&&◌}
use Prim.Native.Nat.{ℕ}
use lib.ListN.{get_or}
use lib.Dec.{leb}
use Rattle.plan_rules.proofs.kind_ok.Goals as goal

pub returns : goal.returns
returns c = let k : ℕ = get_or c.args.r.now 0 0 in
    ap (λ (b : Bool). (leb 1 k && leb k 15) && b) c.children_ok.ensures
