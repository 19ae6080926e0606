use mathlib.Core.Path.{◌≡◌}
use Prim.Native.Nat.{◌-◌}
use lib.ListN.{length}
use Rattle.arena.specs.Arena.{index, slot}
use Rattle.ensure_sorting.specs.Loop.{Going}
use Rattle.ensure_sorting.proofs.ensure_children.Given as goal

abbrev pub invariant-loop-j : goal.invariant-loop-j
invariant-loop-j l = (l.n ≡ length (slot l.initial.m (index l.h)).kids) × Going l.initial.m l.u l.h l.j l.w l.kids l.m
