use mathlib.Core.List.{map}
use Prim.Native.Nat.{◌+◌, ◌≤◌}
use lib.ListN.{length}
use Rattle.row_order.specs.Lists.{All}
use Rattle.key_lists.specs.Keys.{keys_left, keys_of, Movable, moved_by}
use Rattle.key_lists.specs.Lists.{Building}
use Rattle.key_list_algebra.proofs.move_keys.Given as goal

abbrev pub invariant-loop-key : goal.invariant-loop-key
invariant-loop-key l = (l.out.len + length (keys_left l.key-iterator) ≤ 8) × All (Movable l.by) (keys_left l.key-iterator)
    × Building (map (moved_by l.by) (keys_of l.fn.k)) l.out (map (moved_by l.by) (keys_left l.key-iterator))
