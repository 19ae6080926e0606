use Prim.Native.Nat.{ℕ}
use mathlib.Core.Path.{ap, ◌∙◌}
use Rattle.plan_format.specs.LastPass.{set_below}
use Rattle.column_rules.proofs.set_ok.Goals as goal

pub returns-then-f : goal.returns-then-f
returns-then-f c = rw c.if-f.true (c.set_below.ensures ∙ ap (λ (x : ℕ). set_below x c.args.limit) c.get32-x.ensures)

pub returns : goal.returns
returns c = rw c.if-f.false
