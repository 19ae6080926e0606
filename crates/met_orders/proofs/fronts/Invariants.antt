use Rattle.key_lists.specs.Keys.{keys_left, keys_of}
use Rattle.asked_facts.specs.Asked.{told}
use Rattle.met_orders.specs.Meeting.{Fronting}
use Rattle.met_orders.proofs.fronts.Given as goal

abbrev pub invariant-loop-key : goal.invariant-loop-key
invariant-loop-key l = Fronting (told l.b) (keys_of l.fn.order) (keys_of l.fn.k) l.seen (keys_left l.known) (keys_left l.key-iterator) l.i
