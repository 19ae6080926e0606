use mathlib.Core.Path.{◌≡◌}
use lib.ListN.{length}
use Rattle.step_nodes.specs.Laying.{LayingKids}
use Rattle.step_nodes.proofs.+lay.Given as goal

abbrev pub invariant-loop-k : goal.invariant-loop-k
invariant-loop-k l =
    (length l.table ≡ length l.initial.table) × (length l.slots ≡ length l.initial.slots)
    × LayingKids l.m l.u l.i l.initial.table l.initial.slots l.above l.n l.a l.b l.k l.table l.slots l.next l.free l.out

abbrev pub decreases-lay : goal.decreases-lay
decreases-lay l = l.i
