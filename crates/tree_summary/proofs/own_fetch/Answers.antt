use mathlib.Core.Path.{sym, ap, ◌∙◌}
use mathlib.Core.Bool.{cond}
use Rattle.scan.specs.Bytes.{le32}
use Rattle.plan.specs.Numbers.{no_fetch}
use Rattle.tree_summary.proofs.own_fetch.Goals as goal

pub returns-then-k : goal.returns-then-k
returns-then-k c = c.get32.ensures ∙ sym (ap (λ b. cond b (le32 c.args.r.now 4) no_fetch) c.if-k.true)

pub returns : goal.returns
returns c = sym (ap (λ b. cond b (le32 c.args.r.now 4) no_fetch) c.if-k.false)
