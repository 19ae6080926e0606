use Rattle.key_lists.specs.Keys.{keys_left, keys_of}
use Rattle.step_nodes.specs.Moves.{Unpacking}
use Rattle.step_nodes.proofs.unpacked.Given as goal

abbrev pub invariant-loop-j : goal.invariant-loop-j
invariant-loop-j l = Unpacking (keys_of l.k) l.j l.items (keys_left l.key-iterator)
