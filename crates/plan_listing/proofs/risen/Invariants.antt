use mathlib.Core.Path.{◌≡◌}
use Prim.Native.Nat.{◌≤◌}
use Rattle.plan_listing.specs.Listing.{up}
use Rattle.plan_listing.specs.Laws.{pending}
use Rattle.plan_listing.proofs.risen.Given as goal

abbrev pub invariant-loop-d : goal.invariant-loop-d
invariant-loop-d l = (l.d ≤ l.depth) × (up (pending l.left l.d) ≡ up (pending l.left l.depth))

abbrev pub decreases-loop-d : goal.decreases-loop-d
decreases-loop-d l = l.d
