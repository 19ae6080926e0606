use Prim.Native.Nat.{ℕ}
use mathlib.Core.Path.{ap, ◌∙◌}
use mathlib.Core.Bool.{◌&&◌}
use lib.Dec.{eqb, leb}
use lib.ListN.{get_or}
use Rattle.record_parts.specs.Kinds.{body_projection}
use Rattle.record_parts.proofs.bodies.projection.Goals as goal

pub returns : goal.returns
returns c = let r = c.args.r.now in ap (λ (a : ℕ). (eqb (get_or r 12 0) 0 && (leb 1 (get_or r 13 0) && leb (get_or r 13 0) 32)) && eqb a 0) c.get16.ensures
    ∙ body_projection r
