use mathlib.Core.Path.{◌≡◌}
use mathlib.Core.Bool.{false}
use Prim.Native.Nat.{◌-◌}
use lib.ListN.{length, get_or}
use Rattle.arena.specs.Arena.{index, marked, slot}
use Rattle.walks.specs.Marks.{any_below}
use Rattle.sort_connection.proofs.update_sort_ctx_children_data.any_marked.Given as goal

abbrev pub invariant-loop-j : goal.invariant-loop-j
invariant-loop-j l = (l.n ≡ length (slot l.m (index l.h)).kids) × (any_below l.j (λ i'. marked (get_or (slot l.m (index l.h)).kids i' 0)) ≡ false)
