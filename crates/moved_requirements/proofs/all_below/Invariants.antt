use mathlib.Core.Path.{◌≡◌}
use Rattle.std.specs.Prelude.{ltb}
use Rattle.plan.specs.WellFormed.{every}
use Rattle.key_lists.specs.Keys.{keys_left, keys_of}
use Rattle.moved_requirements.proofs.all_below.Given as goal

abbrev pub invariant-loop-key : goal.invariant-loop-key
invariant-loop-key l = every (λ k. ltb k.col l.n) (keys_left l.key-iterator) ≡ every (λ k. ltb k.col l.n) (keys_of l.fn.keys)
