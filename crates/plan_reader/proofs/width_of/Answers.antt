use mathlib.Core.Path.{ap₂, ◌∙◌}
use native.Mathlib.Omega.{arith}
use lib.ListN.{get_or}
use Rattle.plan_format.specs.LastPass.{join_width}
use Rattle.plan_reader.proofs.width_of.Goals as goal

pub overflow_cast-result : goal.overflow_cast-result
overflow_cast-result c = omega (arith, c.type_inv.r 13)

pub returns-then-f : goal.returns-then-f
returns-then-f c = rw c.if-f.true

pub returns-then-f-2 : goal.returns-then-f-2
returns-then-f-2 c = rw (c.if-f.false, c.if-f-2.true) (c.join_width.ensures ∙ ap₂ (join_width (get_or c.args.r.now 14 0)) c.at_or_zero-a.ensures
    c.at_or_zero-b.ensures)

pub returns : goal.returns
returns c = rw (c.if-f.false, c.if-f-2.false) c.at_or_zero-a.ensures
