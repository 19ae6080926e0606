use Rattle.arena.specs.Arena.{slot}
use Rattle.arena_writer.specs.Flat.{Pushed}
use Rattle.arena_writer.proofs.push_children.Given as goal

abbrev pub invariant-loop-j : goal.invariant-loop-j
invariant-loop-j l = Pushed (slot l.m l.k).kids l.t l.initial.w l.j l.top l.w
