use Rattle.arena.specs.Arena.{slot}
use Rattle.plan_updates.specs.Again.{Comparing}
use Rattle.plan_updates.proofs.same_children.Given as goal

abbrev pub invariant-loop-j : goal.invariant-loop-j
invariant-loop-j l = Comparing l.ks (slot l.m l.i).kids l.j l.all
