use Prim.Native.Nat.{ℕ}
use mathlib.Core.Path.{ap, ◌∙◌}
use lib.Dec.{eqb}
use Rattle.record_parts.specs.Kinds.{head_global_limit}
use Rattle.record_parts.proofs.heads.global_limit.Goals as goal

pub returns : goal.returns
returns c = ap (λ (a : ℕ). eqb a 0) c.get16.ensures ∙ head_global_limit c.args.r.now
