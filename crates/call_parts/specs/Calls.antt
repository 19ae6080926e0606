-- What a call answers, in an arena of any size. These are definitions.
use Rattle.std.specs.Prelude as std
use Rattle.std.specs.Prelude.{◌≡◌, Bool, true, false, List, ℕ, ◌*◌, ◌-◌, ◌≤◌, ◌<◌, Ok, Err, length}
use Rattle.plan.specs.Forest.{size}
use Rattle.plan.specs.Numbers.{Accepted}
use Rattle.plan.specs.WellFormed.{well_formed}
use Rattle.plan.specs.declared.Refusal.TheVariants.{TooManyNodes}
use Rattle.plan_format.specs.Blocks.{block_count}
use Rattle.walks.specs.Marks.{size_t}
use Rattle.arena.specs.Arena.{slot_size}
use Rattle.plan_arena.specs.ReadFile.{block_slots}
use Rattle.plan_context.specs.View.{tree_of, Arena}
use Rattle.plan_context.specs.Records.{plan_t}
use Rattle.settling.specs.Reading.{Loaded}
use Rattle.step_ends.specs.declared.Stop as walk
use Rattle.step_ends.specs.declared.Stop.TheVariants as walk_stops
use Rattle.step_ends.specs.Tidying.{full_slots}
use Rattle.call_parts.specs.declared.Stop.{Stop}
use Rattle.call_parts.specs.declared.Stop.TheVariants.{Refused, NoRoom}
use Rattle.call_parts.specs.PartialSorts.{partial_t}
use Rattle.call_answers.specs.Answers.{Result, refusal_in, output_in, passes_in}

-- What a call answers: whether the plan passes, where that was asked, or why it ended
abbrev pub Called : Type 0
Called = std.Result Bool Stop

-- What a call answers and leaves in the output: all that the result settles, or that the memory, which is so many bytes short of what is always enough,
-- was too small
abbrev pub CalledAs : Called → Result → List ℕ → List ℕ → ℕ → Type 0
CalledAs (Ok b) R out out' short = (Accepted ≡ refusal_in R out) × (b ≡ passes_in R) × (out' ≡ output_in R out)
CalledAs (Err (Refused x)) R out out' short = (Err x ≡ refusal_in R out) × (false ≡ passes_in R) × (out' ≡ output_in R out)
CalledAs (Err NoRoom) R out out' short = (out' ≡ out) × (0 < short)

-- the bytes that an arena is short of the slots that every walk can do with
abbrev pub short_of : List ℕ → ℕ
short_of m = full_slots * slot_size - length m

-- and of those that push can do with for the plan that it makes: three for each of 126 nodes
abbrev pub push_short : List ℕ → ℕ
push_short b = 378 * slot_size - length b

-- as a walk stops
abbrev pub stopped_as : walk.Stop → Called
stopped_as walk_stops.TooManyNodes = Err (Refused TooManyNodes)
stopped_as walk_stops.NoRoom = Err NoRoom

-- What push and partial sorting ask: the tree at h is a plan's; its slots are not yet settled
pub record Formed (m : List ℕ) (u h : ℕ) : Type 0 where
  pub loaded : Loaded m u
  pub here : h < 2 * u
  pub plan : well_formed (plan_t (tree_of m h)) ≡ true
  pub size : size_t (tree_of m h) ≤ 126

-- or they are, it has n nodes, and none is a partial sort
pub record Pushable (m : List ℕ) (u h n : ℕ) : Type 0 where
  pub arena : Arena m u
  pub here : h < 2 * u
  pub plan : well_formed (plan_t (tree_of m h)) ≡ true
  pub count : n ≡ size_t (tree_of m h)
  pub few : n ≤ 126
  pub whole : partial_t (tree_of m h) ≡ false

-- What a call asks of the plan that was read: the tree at h, its slots not yet settled
pub record Loads (m : List ℕ) (u h : ℕ) (c : List ℕ) : Type 0 where
  pub loaded : Loaded m u
  pub here : h < 2 * u
  pub few : u ≤ 126
  pub count : u ≡ size_t (tree_of m h)
  pub plan : well_formed (plan_t (tree_of m h)) ≡ true
  pub scratch : full_slots * slot_size ≤ length m → 126 * slot_size ≤ length c

-- and of the memory: slots for all records that the file's blocks can hold
pub record Memory (s m c : List ℕ) : Type 0 where
  pub room : block_slots * block_count s ≤ length m
  pub scratch : full_slots * slot_size ≤ length m → 126 * slot_size ≤ length c
