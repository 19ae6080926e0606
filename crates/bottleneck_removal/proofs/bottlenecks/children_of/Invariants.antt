use mathlib.Core.Path.{◌≡◌}
use Prim.Native.Nat.{◌-◌}
use lib.ListN.{length, take}
use Rattle.arena.specs.Arena.{slot}
use Rattle.bottleneck_removal.proofs.bottlenecks.children_of.Given as goal

abbrev pub invariant-loop-j : goal.invariant-loop-j
invariant-loop-j l = (l.n ≡ length (slot l.m l.i).kids) × (length l.kids ≡ 8) × (take l.j l.kids ≡ take l.j (slot l.m l.i).kids)
