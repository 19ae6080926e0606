use Prim.Native.Nat.{ℕ}
use mathlib.Core.Path.{ap, ◌∙◌}
use mathlib.Core.Bool.{◌&&◌}
use lib.Dec.{leb}
use Rattle.record_parts.specs.Kinds.{body_some_keys}
use Rattle.record_parts.proofs.bodies.some_keys.Goals as goal

pub returns : goal.returns
returns c = ap (λ (a : ℕ). leb a 8 && leb 1 a) c.get32-n.ensures ∙ body_some_keys c.args.r.now
