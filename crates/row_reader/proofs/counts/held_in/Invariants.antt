use mathlib.Core.Path.{◌≡◌}
use Rattle.row_reader.specs.Counts.{held_in}
use Rattle.row_reader.proofs.counts.held_in.Given as goal

abbrev pub invariant-loop-i : goal.invariant-loop-i
invariant-loop-i l = l.n ≡ held_in l.held l.g l.i
