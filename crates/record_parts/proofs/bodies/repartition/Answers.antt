use Prim.Native.Nat.{ℕ}
use mathlib.Core.Path.{ap, ◌∙◌}
use mathlib.Core.Bool.{Bool, ◌&&◌, ◌||◌, not}
use lib.Dec.{eqb, leb}
use lib.ListN.{get_or}
use lib.Bits.{bit_and, and_mask}
use Prim.Native.Nat.{◌/◌}
use Rattle.record_parts.specs.Kinds.{body_repartition}
use Rattle.record_parts.proofs.bodies.repartition.Goals as goal

pub returns : goal.returns
returns c = let r = c.args.r.now in let h : Bool = eqb (bit_and (get_or r 3 0 / 2) 1) 1 in
    ap (λ (a : ℕ). (h && (leb a 8 && leb 1 a)) || (not h && eqb a 0)) c.get32-n.ensures
    ∙ body_repartition r h (ap (λ (b : ℕ). eqb b 1) (and_mask (get_or r 3 0 / 2) 1))
