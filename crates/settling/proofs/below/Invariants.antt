use Rattle.arena.specs.Arena.{slot}
use Rattle.plan_context.specs.Summaries.{Summing}
use Rattle.settling.proofs.below.Given as goal

abbrev pub invariant-loop-j : goal.invariant-loop-j
invariant-loop-j l = Summing l.m (slot l.m l.i).kids l.j l.s
