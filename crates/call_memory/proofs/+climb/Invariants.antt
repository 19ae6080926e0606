use Prim.Native.Nat.{◌-◌}
use Rattle.call_memory.proofs.+climb.Given as goal

abbrev pub decreases-climb : goal.decreases-climb
decreases-climb l = 383 - l.slots
