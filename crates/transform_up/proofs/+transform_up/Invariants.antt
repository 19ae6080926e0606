use Rattle.transform_up.specs.Frame.{Walking}
use Rattle.transform_up.proofs.+transform_up.Given as goal

abbrev pub invariant-loop-j : goal.invariant-loop-j
invariant-loop-j l = Walking l.w l.initial.m l.v l.i l.n l.j l.u l.k l.kids l.m

abbrev pub decreases-transform_up : goal.decreases-transform_up
decreases-transform_up l = l.i
