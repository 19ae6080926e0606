use Prim.Native.Nat.{◌+◌, ◌≤◌}
use lib.ListN.{length}
use Rattle.key_lists.specs.Keys.{keys_left, keys_of, Tight}
use Rattle.facts.specs.Projecting.{Projecting}
use Rattle.facts.proofs.projection_order.Given as goal

abbrev pub invariant-loop-key : goal.invariant-loop-key
invariant-loop-key l = (l.out.len + length (keys_left l.key-iterator) ≤ 8) × Tight l.out
    × Projecting l.table l.cols (keys_of l.fn.keys) l.out (keys_left l.key-iterator)
