use Rattle.arena.specs.Held.{Numbers}
use Rattle.arena.proofs.put_numbers.Given as goal

abbrev pub invariant-loop-j : goal.invariant-loop-j
invariant-loop-j l = Numbers l.initial.d l.ks l.j l.d
