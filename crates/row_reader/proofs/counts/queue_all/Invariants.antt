use mathlib.Core.Path.{◌≡◌}
use lib.ListN.{length}
use Rattle.row_reader.specs.Counts.{Queued}
use Rattle.row_reader.proofs.counts.queue_all.Given as goal

abbrev pub invariant-loop-j : goal.invariant-loop-j
invariant-loop-j l = (length l.queued ≡ length l.initial.queued) × Queued l.nodes l.held l.queued l.j
