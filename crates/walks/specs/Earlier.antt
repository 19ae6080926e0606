-- Partial sorting as it answered before a sort with nothing left to do stayed: the earlier definition, of document 01, which stands in this file alone; and
-- what is answered now in its place. These are definitions.
use Rattle.std.specs.Prelude.{Bool, true, false, cond, List, [], ℕ, zero, suc, ◌-◌, eqb, length, Option}
use Rattle.row_order.specs.Iso.{Key}
use Rattle.plan.specs.Forest.{none, tree}
use Rattle.plan.specs.Op.{Op, partial_sort, Plan, sort_op}
use Rattle.plan.specs.declared.Refusal.TheVariants.{NoSuchNode}
use Rattle.semantics.specs.Facts.{at0, facts, met}
use Rattle.semantics.specs.Properties.{any_of, endless}
use Rattle.walks.specs.Marks.{Shape, shape, if_sort}
use Rattle.walks.specs.PartialSort.{common_prefix_length, from_node, set_node}
use Rattle.walks.specs.Counted.{Answer, answered, refused}

-- What a node became; or that its child meets all its keys: "The Rust indexes past the end there" (22)
pub data EarlierNode : Type 0 where
  past_the_end : EarlierNode
  became : Op → EarlierNode

-- n: the keys met. With none the sort stayed
abbrev pub earlier_prefix : Bool → List Key → Option ℕ → ℕ → Op
earlier_prefix p ks f zero = sort_op p ks f
earlier_prefix p ks f (suc n) = partial_sort p ks (suc n) f

abbrev pub earlier_of : Bool → List Key → Option ℕ → ℕ → EarlierNode
earlier_of p ks f n = cond (eqb n (length ks)) past_the_end (became (earlier_prefix p ks f n))

abbrev pub earlier_by : Shape → Op → Plan → EarlierNode
earlier_by s o c = if_sort s (λ p ks f. cond (any_of (endless c)) (earlier_of p ks f (common_prefix_length (at0 (facts c)) [] ks)) (became o)) (became o)

-- What the call answered: 22, or an answer that there still is
pub data EarlierAnswer : Type 0 where
  twenty_two : EarlierAnswer
  gave : Answer → EarlierAnswer

abbrev pub earlier_set : ℕ → Plan → EarlierNode → EarlierAnswer
earlier_set n f past_the_end = twenty_two
earlier_set n f (became o) = gave (answered (set_node n o f))

abbrev pub earlier_at : ℕ → Plan → Plan → EarlierAnswer
earlier_at n f none = gave (refused NoSuchNode)
earlier_at n f (tree o c r) = earlier_set n f (earlier_by (shape o) o c)

abbrev pub earlier_answer : ℕ → Plan → EarlierAnswer
earlier_answer n f = earlier_at n f (from_node n f)

-- What it becomes now, by what it became
abbrev pub now_of : Op → EarlierNode → Op
now_of o past_the_end = o
now_of o (became p) = p

-- What is answered now, by what was
abbrev pub now_answers : Plan → EarlierAnswer → Answer
now_answers f twenty_two = answered f
now_answers f (gave a) = a

abbrev pub is_past : EarlierNode → Bool
is_past past_the_end = true
is_past (became o) = false
