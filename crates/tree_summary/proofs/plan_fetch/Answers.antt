use mathlib.Core.Path.{sym, ap, ◌∙◌}
use mathlib.Core.Bool.{cond}
use borrow.Author.Tests.{eq-eqb, ne_eqb}
use Rattle.tree_summary.specs.Own.{fetch_in}
use Rattle.tree_summary.proofs.plan_fetch.Goals as goal

pub returns-then-r-eq3 : goal.returns-then-r-eq3
returns-then-r-eq3 c = sym (ap (λ b. cond b c.args.input (fetch_in c.args.r.now)) (eq-eqb _ 3 c.if-r-eq3.true))

pub returns : goal.returns
returns c = c.own_fetch.ensures ∙ sym (ap (λ b. cond b c.args.input (fetch_in c.args.r.now)) (ne_eqb _ 3 c.if-r-eq3.false))
