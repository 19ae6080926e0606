use Rattle.plan_listing.specs.Laws.{Listed}
use Rattle.plan_listing.proofs.put_lines.Given as goal

abbrev pub invariant-loop-i : goal.invariant-loop-i
invariant-loop-i l = Listed l.m l.u l.at l.initial.out l.i l.left l.depth l.e l.out
