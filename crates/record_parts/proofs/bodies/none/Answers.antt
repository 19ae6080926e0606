use Prim.Native.Nat.{ℕ}
use mathlib.Core.Path.{ap, ◌∙◌}
use lib.Dec.{eqb}
use Rattle.record_parts.specs.Kinds.{body_none}
use Rattle.record_parts.proofs.bodies.none.Goals as goal

pub returns : goal.returns
returns c = ap (λ (a : ℕ). eqb a 0) c.get32.ensures ∙ body_none c.args.r.now
