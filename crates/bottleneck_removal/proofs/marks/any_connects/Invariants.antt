use mathlib.Core.Bool.{not}
use Prim.Native.Nat.{◌-◌}
use Rattle.semantics.specs.Properties.{singles}
use Rattle.plan_codec.specs.Decode.{decode}
use Rattle.bottleneck_removal.specs.Connecting.{UnmarkedBefore}
use Rattle.bottleneck_removal.proofs.marks.any_connects.Given as goal

abbrev pub invariant-loop-j : goal.invariant-loop-j
invariant-loop-j l = UnmarkedBefore (λ i. not (singles (decode l.r) i)) l.ks l.j
