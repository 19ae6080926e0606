use Rattle.key_lists.specs.Keys.{keys_left, keys_of}
use Rattle.asked_facts.specs.Asked.{told}
use Rattle.join_sides.proofs.Searching.{Siding}
use Rattle.join_sides.proofs.on_side.Given as goal

abbrev pub invariant-loop-key : goal.invariant-loop-key
invariant-loop-key l = Siding (told l.own) l.lo l.n (keys_of l.fn.keys) l.out (keys_left l.key-iterator)
