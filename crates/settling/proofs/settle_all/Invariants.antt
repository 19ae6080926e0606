use Rattle.settling.specs.Reading.{Settling}
use Rattle.settling.proofs.settle_all.Given as goal

abbrev pub invariant-loop-i : goal.invariant-loop-i
invariant-loop-i l = Settling l.initial.m l.u l.i l.m
