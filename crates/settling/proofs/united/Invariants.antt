use Rattle.walks.specs.Marks.{known}
use Rattle.arena.specs.Arena.{slot}
use Rattle.plan_context.specs.View.{forest}
use Rattle.plan_context.specs.Facts.{United}
use Rattle.settling.proofs.united.Given as goal

abbrev pub invariant-loop-j : goal.invariant-loop-j
invariant-loop-j l = United (known (forest l.m (slot l.m l.i).kids)) l.j l.f
