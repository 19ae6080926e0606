use Prim.Native.Nat.{ℕ}
use mathlib.Core.Path.{ap, ◌∙◌}
use mathlib.Core.Bool.{◌&&◌, ◌||◌}
use lib.Dec.{eqb, leb}
use lib.ListN.{get_or}
use Rattle.record_parts.specs.Kinds.{head_source}
use Rattle.record_parts.proofs.heads.source.Goals as goal

pub returns : goal.returns
returns c = let r = c.args.r.now in
    ap (λ (a : ℕ). ((leb 1 (get_or r 2 0) && leb (get_or r 2 0) 64) && (eqb (get_or r 3 0) 0 || eqb (get_or r 3 0) 4)) && eqb a 0) c.get64.ensures
    ∙ head_source r c.requires
