use Rattle.arena.specs.Arena.{slot}
use Rattle.call_parts.specs.PartialSorts.{Looking}
use Rattle.call_parts.proofs.+has_partial_sort.Given as goal

abbrev pub invariant-loop-j : goal.invariant-loop-j
invariant-loop-j l = Looking l.m (slot l.m l.i).kids l.j

abbrev pub decreases-has_partial_sort : goal.decreases-has_partial_sort
decreases-has_partial_sort l = l.i
