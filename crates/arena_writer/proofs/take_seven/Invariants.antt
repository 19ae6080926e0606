use mathlib.Core.Path.{◌≡◌}
use lib.ListN.{length, drop}
use Rattle.arena_writer.specs.Flat.{rows_of, Taking}
use Rattle.arena_writer.proofs.take_seven.Given as goal

abbrev pub invariant-loop-c : goal.invariant-loop-c
invariant-loop-c l = (length l.w ≡ length l.initial.w) × Taking l.m l.u (rows_of l.m l.u (drop l.t l.initial.w)) l.c l.top l.w l.rs
