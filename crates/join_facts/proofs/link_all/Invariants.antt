use Rattle.join_facts.specs.Linking.{Linking}
use Rattle.join_facts.proofs.link_all.Given as goal

abbrev pub invariant-loop-i : goal.invariant-loop-i
invariant-loop-i l = Linking l.w l.initial.g l.lefts l.rights l.g l.i
