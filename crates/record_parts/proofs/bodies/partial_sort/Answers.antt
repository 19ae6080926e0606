use native.Mathlib.Omega.{arith}
use Prim.Native.Nat.{ℕ}
use mathlib.Core.Path.{ap, ap₂, ◌∙◌}
use mathlib.Core.Bool.{◌&&◌}
use lib.Dec.{leb, ltb}
use Rattle.record_parts.specs.Kinds.{body_partial_sort}
use Rattle.record_parts.proofs.bodies.partial_sort.Goals as goal

pub returns : goal.returns
returns c = let r = c.args.r.now in
    ap₂ ◌&&◌ (ap (λ (a : ℕ). leb a 8 && leb 1 a) c.get16-n.ensures)
    (ap₂ (λ (a b : ℕ). leb 1 a && ltb a b) c.get16-p.ensures c.byte-keys.ensures.0)
    ∙ body_partial_sort r (omega (arith, c.byte-keys.ensures.0, c.byte-keys.ensures.1))
