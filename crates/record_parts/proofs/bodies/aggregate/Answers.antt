use Prim.Native.Nat.{ℕ}
use mathlib.Core.Path.{ap, ◌∙◌}
use mathlib.Core.Bool.{◌&&◌}
use lib.Dec.{eqb, leb}
use lib.ListN.{get_or}
use Rattle.record_parts.specs.Kinds.{body_aggregate}
use Rattle.record_parts.proofs.bodies.aggregate.Goals as goal

pub returns : goal.returns
returns c = let r = c.args.r.now in let n : ℕ = get_or r 12 0 in let w : ℕ = get_or r 13 0 in
    ap (λ (a : ℕ). ((leb n 8 && leb 1 n) && (leb n w && leb w 32)) && eqb a 0) c.get16.ensures ∙ body_aggregate r
