use Prim.Native.Nat.{ℕ}
use mathlib.Core.Path.{ap, ap₂, ◌∙◌}
use mathlib.Core.Bool.{◌&&◌}
use lib.Dec.{leb}
use Rattle.record_parts.specs.Kinds.{body_output_requirement}
use Rattle.record_parts.proofs.bodies.output_requirement.Goals as goal

pub returns : goal.returns
returns c = ap₂ (λ (a b : ℕ). leb a 8 && leb b 2) c.get16-n.ensures c.get16-d.ensures ∙ body_output_requirement c.args.r.now
