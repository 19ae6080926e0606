use Prim.Native.Nat.{ℕ}
use mathlib.Core.Path.{ap, ◌∙◌}
use mathlib.Core.Bool.{not}
use lib.Dec.{leb}
use Rattle.record_parts.specs.Kinds.{body_noted}
use Rattle.record_parts.proofs.bodies.noted.Goals as goal

pub returns : goal.returns
returns c = ap (λ (a : ℕ). leb a 8) c.get32.ensures ∙ body_noted c.args.r.now
