use mathlib.Core.Path.{◌∙◌}
use mathlib.Core.List.{[]}
use Rattle.sort_placement.specs.Checking.{check_number, check_writes, check_stays}
use Rattle.sort_placement.proofs.check_order.Goals as goal

pub returns-then-a-eq0 : goal.returns-then-a-eq0
returns-then-a-eq0 c = let f = c.args.plan.now in
    let y = c.call-a in let e = (y.ensures.0 ∙ check_number f _) in
    (e, check_writes f [] y.result.number e c.args.passes.now c.if-a-eq0.true y.result.passes y.ensures.1)

pub returns-else-a-eq0 : goal.returns-else-a-eq0
returns-else-a-eq0 c = let f = c.args.plan.now in let y = c.call-a in
    let e = (y.ensures.0 ∙ check_number f _) in (e, check_stays f [] y.result.number e c.args.passes.now c.if-a-eq0.false)
