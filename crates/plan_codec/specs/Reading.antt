-- Reading: a refusal, or the plan that the file holds. These are definitions.
use Rattle.std.specs.Prelude.{List, ℕ, Ok, Err}
use Rattle.plan.specs.Forest.{map_f}
use Rattle.plan.specs.Op.{Plan}
use Rattle.plan.specs.Numbers.{Verdict}
use Rattle.plan.specs.declared.Refusal.{Refusal}
use Rattle.plan_format.specs.Reading.{refusal_of}
use Rattle.plan_format.specs.Tree.{tree_of}
use Rattle.plan_codec.specs.Decode.{decode}

pub data PlanOrRefusal : Type 0 where
  refused : Refusal → PlanOrRefusal
  plan : Plan → PlanOrRefusal

-- "Records stand parent first, then each child's subtree in order": the tree of the records, each read as an operator
abbrev pub plan_of : List ℕ → Plan
plan_of s = map_f decode (tree_of s)

-- A plan, unless its file is refused
abbrev pub unless_refused : Verdict → Plan → PlanOrRefusal
unless_refused (Ok x) f = plan f
unless_refused (Err r) f = refused r

-- "An accepted call returns 0": a file that gets no number from 1 to 8 is its plan
unfoldable pub reading : List ℕ → PlanOrRefusal
reading s = unless_refused (refusal_of s) (plan_of s)
