-- The end of a step: what is asked of the tree that it left, and what the count and the tidying leave.
use Rattle.std.specs.Prelude.{◌≡◌, List, ℕ, ◌+◌, ◌*◌, ◌-◌, ◌≤◌, ◌<◌, Result, Ok, Err, length}
use Rattle.walks.specs.Marks.{size_t}
use Rattle.arena.specs.Arena.{slot_size}
use Rattle.arena.specs.declared.At.{At}
use Rattle.plan_context.specs.View.{tree_of, Arena}
use Rattle.step_ends.specs.declared.Walked.{Walked}
use Rattle.step_ends.specs.declared.Stop.{Stop}
use Rattle.step_ends.specs.declared.Stop.TheVariants.{TooManyNodes, NoRoom}
use Rattle.step_ends.specs.Tidying.{tidy_from, Tidied}

-- The tree of s, in an arena with v slots of others; where it may be copied together there is room for that
pub record Ending (m : List ℕ) (v : ℕ) (s : At) (n before : ℕ) (c : List ℕ) : Type 0 where
  pub arena : Arena m s.used
  pub more : v ≤ s.used
  pub here : s.root < 2 * s.used
  pub many : n ≤ 126
  pub part : before ≤ n
  pub room : tidy_from < s.used → ((v + 126) * slot_size ≤ length m) × (126 * slot_size ≤ length c)
  pub small : v + 126 ≤ 32768

-- the nodes of the whole plan after the step
abbrev pub after : List ℕ → At → ℕ → ℕ → ℕ
after m s n before = (n + size_t (tree_of m s.root)) - before

abbrev pub Ended : Result Walked Stop → List ℕ → ℕ → At → ℕ → ℕ → List ℕ → Type 0
Ended (Ok w) m v s n before m' = (w.total ≡ after m s n before) × (w.total ≤ 126)
    × Tidied m v m' (record { used = w.used; root = w.root }) (tree_of m s.root)
Ended (Err TooManyNodes) m v s n before m' = 126 < after m s n before
Ended (Err NoRoom) m v s n before m' = ⊥
