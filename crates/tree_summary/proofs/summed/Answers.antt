use mathlib.Core.Bool.{not, ◌&&◌, ◌||◌}
use lib.Dec.{eqb}
use lib.ListN.{get_or}
use Prim.Native.Nat.{◌+◌}
use Rattle.tree_summary.proofs.summed.Goals as goal

pub returns : goal.returns
returns c = let r = c.args.r.now in
    λ i. record {
      passes = c.args.met && c.args.s.passes;
      endless = not (eqb (get_or r 0 0) 9 || eqb (get_or r 0 0) 10)
          && (c.is_endless-endless.ensures i || c.args.s.endless);
      nodes = c.args.s.nodes + 1;
      fetch = c.plan_fetch-fetch.ensures i;
    }
