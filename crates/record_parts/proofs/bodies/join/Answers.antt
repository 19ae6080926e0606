use Prim.Native.Nat.{ℕ}
use mathlib.Core.Path.{ap, ap₂, ◌∙◌}
use mathlib.Core.Bool.{◌&&◌}
use lib.Dec.{leb}
use Rattle.record_parts.specs.Kinds.{body_join}
use Rattle.record_parts.proofs.bodies.join.Goals as goal

pub returns : goal.returns
returns c = ap₂ (λ (a b : ℕ). (leb a 8 && leb 1 a) && leb b 7) c.get16-n.ensures c.get16-t.ensures ∙ body_join c.args.r.now
