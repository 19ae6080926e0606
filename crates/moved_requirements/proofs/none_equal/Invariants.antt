use mathlib.Core.Path.{◌≡◌}
use Rattle.key_lists.specs.Keys.{keys_left, keys_of}
use Rattle.walks.specs.SortPushdown.{none_equal}
use Rattle.moved_requirements.proofs.none_equal.Given as goal

abbrev pub invariant-loop-a : goal.invariant-loop-a
invariant-loop-a l = none_equal (keys_left l.a-iterator) (keys_left l.others) ≡ none_equal (keys_of l.fn.p) (keys_of l.fn.q)
