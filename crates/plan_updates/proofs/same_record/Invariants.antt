use Rattle.plan_updates.specs.Again.{Comparing}
use Rattle.plan_updates.proofs.same_record.Given as goal

abbrev pub invariant-loop-j : goal.invariant-loop-j
invariant-loop-j l = Comparing l.a l.b l.j l.all
