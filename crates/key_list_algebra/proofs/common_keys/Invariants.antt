use Rattle.std.specs.Iterator.Adapters.{zip_first, zip_second}
use Rattle.key_lists.specs.Keys.{keys_left, keys_of}
use Rattle.key_list_algebra.specs.Comparing.{Sharing}
use Rattle.key_list_algebra.proofs.common_keys.Given as goal

abbrev pub invariant-loop-a : goal.invariant-loop-a
invariant-loop-a l = Sharing l.p (keys_of l.fn.q) l.n (keys_left (zip_first l.a-iterator)) (keys_left (zip_second l.a-iterator))
