use Rattle.semantics.specs.Facts.{facts}
use Rattle.step_nodes.specs.Laying.{below_in, Summed}
use Rattle.step_nodes.proofs.inputs.Given as goal

abbrev pub invariant-loop-k : goal.invariant-loop-k
invariant-loop-k l = Summed (facts (below_in l.m l.i)) l.k l.s
