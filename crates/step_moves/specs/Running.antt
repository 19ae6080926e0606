-- A stepping on the way: what the tables hold. These are definitions.
use Rattle.std.specs.Prelude.{◌≡◌, List, ℕ, ◌+◌, ◌<◌, ◌≤◌, ℤ, length, get_or}
use Rattle.plan.specs.Forest.{Forest, size}
use Rattle.plan.specs.Op.{Plan}
use Rattle.semantics.specs.Facts.{facts}
use Rattle.stepping.specs.Outlets.{Outlet}
use Rattle.stepping.proofs.Theorems.Formed.{Steppable}
use Rattle.step_tables.specs.Places.{total, inner, nodes_at, Tables, Shows, Once}
use Rattle.step_tables.specs.Passes.{Listed}
use Rattle.step_tables.specs.declared.StepNode.{StepNode}
use Rattle.step_tables.specs.Found.{Known}
use Rattle.step_tables.specs.Rows.{row_in, Room}
use Rattle.step_tables.specs.Complete.{Complete}
use Rattle.step_tables.specs.Counting.{tally_in}
use Rattle.step_tables.specs.Holding.{HeldAre}
use Rattle.step_tables.specs.Queueing.{QueuedAre}
use Rattle.plan_context.specs.View.{Arena}
use Rattle.step_nodes.specs.Layout.{Slotted}

-- All tables of the rows. By row: 32 numbers, null set, width, place; by arrival: row numbers; by place: how many rows came, how many wait; by node:
-- how many wait at its inputs
pub record Book : Type 0 where
  pub cells : List ℤ
  pub nulls : List ℕ
  pub widths : List ℕ
  pub places : List ℕ
  pub order : List ℕ
  pub counts : List ℕ
  pub held : List ℕ
  pub queued : List ℕ

abbrev pub tables_of : Book → Tables
tables_of B = record { rows = row_in B.cells B.nulls B.widths; places = B.places; order = B.order; counts = B.counts }

-- The plan f stands in the arena and in the table of nodes; len: the length of the tables by place, in which the last is for rows that were cut
pub record Seated (m : List ℕ) (u : ℕ) (slots : List ℕ) (nodes : List StepNode) (f : Plan) (len : ℕ) : Type 0 where
  pub arena : Arena m u
  pub slotted : Slotted m u slots f
  pub listed : Listed nodes (nodes_at (size f) 0 0 (total (facts f)) f)
  pub formed : Steppable f
  pub past : total (facts f) + inner f < len
  pub few : len < 1000000000

-- The tables hold the state st; done: how many steps were made at most
pub record Running (f : Plan) (nodes : List StepNode) (len done : ℕ) (B : Book) (st : Forest Outlet) : Type 0 where
  pub shows : Shows (tables_of B) 0 0 (total (facts f)) f st
  pub once : Once B.order
  pub known : Known B.order (length B.places)
  pub complete : Complete B.order (length B.places)
  pub room : Room (length B.places) B.cells B.nulls B.widths
  pub narrow : (r : ℕ) → get_or B.widths r 0 ≤ 32
  pub held_are : HeldAre B.held B.places
  pub queued_are : QueuedAre nodes (size f) B.queued B.places
  pub ends : get_or B.queued (size f) 0 ≤ tally_in 0 (total (facts f)) B.places
  pub counted : (x : ℕ) → get_or B.counts x 0 ≤ done
  pub few_rows : length B.places ≤ 256
  pub counts_long : length B.counts ≡ len
  pub held_long : length B.held ≡ len
  pub queued_long : size f < length B.queued
