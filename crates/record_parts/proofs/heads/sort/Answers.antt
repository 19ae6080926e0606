use Prim.Native.Nat.{ℕ}
use mathlib.Core.Path.{ap, ◌∙◌}
use mathlib.Core.Bool.{◌&&◌}
use lib.Dec.{eqb, ltb}
use lib.ListN.{get_or}
use Rattle.record_parts.specs.Kinds.{head_sort}
use Rattle.record_parts.proofs.heads.sort.Goals as goal

pub returns : goal.returns
returns c = let r = c.args.r.now in ap (λ (a : ℕ). (eqb (get_or r 2 0) 0 && ltb (get_or r 3 0) 2) && eqb a 0) c.get32.ensures ∙ head_sort r
