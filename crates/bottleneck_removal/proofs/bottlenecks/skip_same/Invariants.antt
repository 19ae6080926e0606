use Rattle.plan_codec.specs.Decode.{decode}
use Rattle.bottleneck_removal.specs.Skipping.{Skipping}
use Rattle.bottleneck_removal.proofs.bottlenecks.skip_same.Given as goal

abbrev pub invariant-loop-k : goal.invariant-loop-k
invariant-loop-k l = Skipping l.m (decode l.r) l.h l.k

abbrev pub decreases-loop-k : goal.decreases-loop-k
decreases-loop-k l = l.k
