use Prim.Native.Nat.{◌-◌}
use Rattle.call_memory.proofs.+climb_pushing.Given as goal

abbrev pub decreases-climb_pushing : goal.decreases-climb_pushing
decreases-climb_pushing l = 64 - l.slots
