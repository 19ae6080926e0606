use mathlib.Core.List.{map}
use Prim.Native.Nat.{◌+◌, ◌≤◌}
use lib.ListN.{get_or, length}
use Rattle.key_lists.specs.Keys.{keys_left, keys_of, Tight}
use Rattle.key_lists.specs.Lists.{Building}
use Rattle.walks.specs.SortPushdown.{at_column}
use Rattle.moved_requirements.proofs.at_child_columns.Given as goal

abbrev pub invariant-loop-key : goal.invariant-loop-key
invariant-loop-key l = (l.out.len + length (keys_left l.key-iterator) ≤ 8) × Tight l.out
    × Building (map (at_column (λ d. get_or l.cols d 0)) (keys_of l.fn.keys)) l.out (map (at_column (λ d. get_or l.cols d 0)) (keys_left l.key-iterator))
