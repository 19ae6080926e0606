-- An open node: a step of a walk works on its record and on its children's handles, and puts it into a slot once, when it is final. These are definitions.
use Rattle.std.specs.Prelude.{◌≡◌, false, List, ℕ, suc, ◌+◌, ◌*◌, ◌≤◌, ◌<◌, length}
use Rattle.plan.specs.Forest.{size}
use Rattle.plan_codec.specs.Decode.{decode}
use Rattle.plan_codec.specs.Encode.{encode}
use Rattle.walks.specs.Marks.{node}
use Rattle.walks.specs.Trees.{OkT}
use Rattle.arena.specs.Arena.{slot_size, Below}
use Rattle.plan_context.specs.View.{forest, most_slots, Arena}

-- The slots that a step at a tree of n nodes may use
abbrev pub step_room : ℕ → ℕ
step_room n = 2 * n + 10

-- What a step asks: the record r over the children ks; slot i holds the node as it was read
pub record Opened (m : List ℕ) (u : ℕ) (r ks : List ℕ) (i : ℕ) : Type 0 where
  pub arena : Arena m u
  pub room : (u + step_room (suc (size (forest m ks)))) * slot_size ≤ length m
  pub small : u + step_room (suc (size (forest m ks))) ≤ most_slots
  pub below : Below (2 * u) ks
  pub canon : r ≡ encode (length ks) (decode r)
  pub ok : OkT (node (decode r) false (forest m ks))
  pub few : suc (size (forest m ks)) ≤ 126
  pub hint : i < u
