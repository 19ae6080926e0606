-- What is asked before a dry run steps, and what it answers. These are definitions.
use Rattle.std.specs.Prelude.{◌≡◌, Bool, true, cond, not, ◌&&◌, List, ℕ, ◌+◌, ◌*◌, ◌≤◌, ◌<◌, ℤ, length}
use Rattle.step_tables.specs.declared.StepNode.{StepNode}
use Rattle.plan.specs.Numbers.{number_of}
use Rattle.plan.specs.Op.{Plan}
use Rattle.plan.specs.WellFormed.{well_formed}
use Rattle.plan_format.specs.Blocks.{record_count}
use Rattle.plan_format.specs.Reading.{refusal_of}
use Rattle.plan_codec.specs.Reading.{plan_of}
use Rattle.plan_context.specs.View.{Arena, tree_of}
use Rattle.plan_context.specs.Records.{plan_t}
use Rattle.settling.specs.Reading.{Loaded}
use Rattle.semantics.specs.Facts.{facts}
use Rattle.stepping.specs.Answers.{Answer, first_unstepped, sources_ok, many_rows, fitted}
use Rattle.stepping.specs.RowBytes.{rows_in, form_ok, streams_bytes}
use Rattle.stepping.specs.Stepping.{can_step, delivered}
use Rattle.step_tables.specs.Places.{total, inner}
use Rattle.step_nodes.specs.Layout.{Slotted}
use Rattle.row_reader.specs.Plans.{row_count, NodesOf}
use Rattle.row_reader.specs.Counts.{Zeros}

-- 256 + n, 26 and 27, in this order; 0: none of them
abbrev pub rows_refusal : Plan → List ℕ → ℕ
rows_refusal f rows =
    cond (not (can_step f)) (256 + first_unstepped f) (cond (not (form_ok f rows && sources_ok (rows_in f rows) f)) 26 (cond (many_rows f rows) 27 0))

-- The answer of a plan that has none of these
abbrev pub last_answer : Plan → List ℕ → List ℕ → ℕ → Answer
last_answer f rows bytes room = fitted room (streams_bytes (delivered f (rows_in f rows) bytes))

-- The file s of n records is accepted and steps, and its rows have the form; there are k of them
pub record Given (s : List ℕ) (n : ℕ) (rows : List ℕ) (k : ℕ) : Type 0 where
  pub fine : number_of (refusal_of s) ≡ 0
  pub count : n ≡ record_count s
  pub steps : can_step (plan_of s) ≡ true
  pub well : well_formed (plan_of s) ≡ true
  pub form : form_ok (plan_of s) rows ≡ true
  pub rows_are : k ≡ row_count (plan_of s) rows
  pub few_rows : k ≤ 256

-- The plan f stands in the arena and in the table of nodes, with so many places
pub record Stands (m : List ℕ) (u : ℕ) (slots : List ℕ) (nodes : List StepNode) (gone : ℕ) (f : Plan) : Type 0 where
  pub arena : Arena m u
  pub slotted : Slotted m u slots f
  pub listed : NodesOf f nodes
  pub past : gone ≡ total (facts f) + inner f

-- The tree at h of the arena is the file's; its slots are not yet settled
pub record Stored (s m : List ℕ) (u h : ℕ) : Type 0 where
  pub loaded : Loaded m u
  pub here : h < 2 * u
  pub is : plan_t (tree_of m h) ≡ plan_of s

-- The tables by row: as long as there are rows
pub record ByRow (k : ℕ) (cells : List ℤ) (nulls widths places order : List ℕ) : Type 0 where
  pub numbers : k * 32 ≤ length cells
  pub sets : k ≤ length nulls
  pub widths_long : length widths ≡ k
  pub places_long : length places ≡ k
  pub order_long : length order ≡ k

-- Those of the counts: by place, longer than there are places, and by node. Nothing is counted yet
pub record ByPlace (n gone : ℕ) (held queued : List ℕ) : Type 0 where
  pub past : gone < length held
  pub few : length held < 1000000000
  pub nodes : n < length queued
  pub held_none : Zeros held
  pub queued_none : Zeros queued

pub record AsLong (counts : List ℕ) (len other : ℕ) : Type 0 where
  pub none : Zeros counts
  pub same : length counts ≡ len
  pub flags : other ≡ len

-- The tables by place, all of one length, nothing counted
pub record Counters (gone : ℕ) (counts held : List ℕ) (len : ℕ) : Type 0 where
  pub past : gone < len
  pub few : len < 1000000000
  pub counts_long : length counts ≡ len
  pub held_long : length held ≡ len
  pub counts_none : Zeros counts
  pub held_none : Zeros held

-- How many places a plan has
abbrev pub places_of : Plan → ℕ
places_of f = total (facts f) + inner f
