use Prim.Native.Nat.{ℕ}
use mathlib.Core.Path.{ap, ap₂, ◌∙◌}
use mathlib.Core.Bool.{◌&&◌}
use lib.Dec.{eqb}
use Rattle.scan.specs.Bytes.{part}
use Rattle.scan.specs.Words.{value-zero}
use Rattle.record_lists.proofs.keys.none.Goals as goal

pub returns : goal.returns
returns c = let r = c.args.r.now in
    ap₂ ◌&&◌ (ap (λ (a : ℕ). eqb a 0) c.get64.ensures ∙ value-zero (part 16 8 r)) (ap (λ (a : ℕ). eqb a 0) c.get64-2.ensures
    ∙ value-zero (part 24 8 r))
