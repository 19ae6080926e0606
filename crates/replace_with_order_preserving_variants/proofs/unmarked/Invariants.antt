use mathlib.Core.Path.{◌≡◌}
use mathlib.Core.Bool.{false}
use Prim.Native.Nat.{◌-◌}
use lib.ListN.{length}
use Rattle.arena.specs.Arena.{slot}
use Rattle.order_preservation_marks.specs.Marking.{Cutting}
use Rattle.replace_with_order_preserving_variants.proofs.unmarked.Given as goal

abbrev pub invariant-loop-j : goal.invariant-loop-j
invariant-loop-j l = (l.n ≡ length (slot l.m l.i).kids) × Cutting l.m l.i (λ k. false) l.j l.kids
