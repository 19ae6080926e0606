use mathlib.Core.Path.{◌≡◌}
use mathlib.Core.Bool.{false}
use Prim.Native.Nat.{◌-◌}
use lib.ListN.{length}
use Rattle.arena.specs.Arena.{index, slot}
use Rattle.walks.specs.Marks.{any_below}
use Rattle.plan_context.specs.View.{tree_of}
use Rattle.sort_connection.specs.Connection.{maintains_unasked}
use Rattle.sort_connection.proofs.update_sort_ctx_children_data.any_maintained.Given as goal

abbrev pub invariant-loop-j : goal.invariant-loop-j
invariant-loop-j l = (l.n ≡ length (slot l.m (index l.h)).kids) × (any_below l.j (maintains_unasked (tree_of l.m l.h)) ≡ false)
