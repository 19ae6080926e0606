use mathlib.Core.Path.{◌≡◌}
use Rattle.semantics.specs.Facts.{prefixb}
use Rattle.key_lists.specs.Keys.{keys_left, keys_of}
use Rattle.key_list_algebra.proofs.prefix.Given as goal

abbrev pub invariant-loop-a : goal.invariant-loop-a
invariant-loop-a l = prefixb (keys_left l.a-iterator) (keys_left l.others) ≡ prefixb (keys_of l.fn.p) (keys_of l.fn.q)
