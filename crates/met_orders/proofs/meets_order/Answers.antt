use Rattle.met_orders.specs.ListAnswers.{none-met, some_met}
use Rattle.met_orders.proofs.meets_order.Goals as goal

pub returns-in_default : goal.returns-in_default
returns-in_default c = let s = c.args in none-met s.b.now s.o c.in_default.is

pub returns : goal.returns
returns c = let s = c.args in
    some_met s.b.now s.o _ c.meets.result c.in-Some.is c.meets.ensures
