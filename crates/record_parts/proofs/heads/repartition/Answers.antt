use Prim.Native.Nat.{ℕ}
use mathlib.Core.Path.{ap, ◌∙◌}
use mathlib.Core.Bool.{◌&&◌}
use lib.Dec.{eqb, leb, ltb}
use lib.ListN.{get_or}
use Rattle.record_parts.specs.Kinds.{head_repartition}
use Rattle.record_parts.proofs.heads.repartition.Goals as goal

pub returns : goal.returns
returns c = let r = c.args.r.now in
    ap (λ (a : ℕ). ((leb 1 (get_or r 2 0) && leb (get_or r 2 0) 64) && ltb (get_or r 3 0) 4) && eqb a 0) c.get64.ensures ∙ head_repartition r c.requires
