use Rattle.source_rows.specs.Files.{Taken}
use Rattle.source_rows.specs.Nodes.{Stepped}
use Rattle.source_rows.proofs.first_unstepped.Given as goal

abbrev pub invariant-loop-j : goal.invariant-loop-j
invariant-loop-j l = Taken l.plan l.n × Stepped l.plan l.j
