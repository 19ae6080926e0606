use mathlib.Core.Path.{◌≡◌}
use lib.ListN.{length}
use Rattle.plan_arena.specs.Fill.{Filled}
use Rattle.plan_arena.proofs.fill.Given as goal

abbrev pub invariant-loop-j : goal.invariant-loop-j
invariant-loop-j l = (length l.m ≡ length l.initial.m) × Filled l.s l.c l.j l.u l.t l.w l.m
