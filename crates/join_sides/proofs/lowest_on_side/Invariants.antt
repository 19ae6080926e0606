use Prim.Native.Nat.{◌+◌}
use lib.Dec.{eqb}
use Rattle.semantics.specs.Facts.{cl}
use Rattle.class_tables.specs.Lowest.{Nowhere}
use Rattle.asked_facts.specs.Asked.{told}
use Rattle.join_sides.proofs.lowest_on_side.Given as goal

abbrev pub invariant-loop-j : goal.invariant-loop-j
invariant-loop-j l = Nowhere (λ j'. eqb (cl (told l.own) (l.lo + j')) l.class) l.j
