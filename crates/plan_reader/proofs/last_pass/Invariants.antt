use Prim.Native.Nat.{◌-◌}
use Rattle.plan_reader.specs.Laws.{Late}
use Rattle.plan_reader.proofs.last_pass.Given as goal

abbrev pub invariant-loop-j : goal.invariant-loop-j
invariant-loop-j l = Late l.s l.m l.j l.t l.widths
