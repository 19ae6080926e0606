-- The walks as they are called: 21 for a tree with a partial sort, then 23 and 25 as reached; for partial sorting 20.
-- These are definitions.
use Rattle.std.specs.Prelude.{Bool, true, false, cond, not, ◌&&◌, ◌||◌, ℕ, suc, ◌+◌, ◌-◌, eqb, ltb, length}
use Rattle.plan.specs.Forest.{Forest, none, tree, size}
use Rattle.plan.specs.Op.{Op, Plan}
use Rattle.plan.specs.Numbers.{code}
use Rattle.plan.specs.declared.Refusal.{Refusal}
use Rattle.plan.specs.declared.Refusal.TheVariants.{NoSuchNode, HasPartialSort, TooManyNodes, ConstantSort}
use Rattle.semantics.specs.Facts.{is_nil, facts_op, facts, known_order}
use Rattle.walks.specs.Marks.{Marked, Tree, strip, plant, size_t, rebuild}
use Rattle.walks.specs.Utils.{is_sort}
use Rattle.walks.specs.EnsureSorting.{ensure_sorting}
use Rattle.walks.specs.ParallelizeSorts.{parallelize_sorts}
use Rattle.walks.specs.OrderPreserving.{Settings, replace_with_order_preserving_variants}
use Rattle.walks.specs.PushdownSorts.{Visit, at_root, Decision, pushdown_sorts_helper, carry_out}
use Rattle.walks.specs.PartialSort.{replace_with_partial_sort, from_node, set_node}

-- ---- what a call answers

pub data Answer : Type 0 where
  refused : Refusal → Answer
  answered : Plan → Answer

-- On the way: a result, and how many nodes the whole plan has
pub data Counted (A : Type 0) : Type 0 where
  stopped : Refusal → Counted A
  counted : A → ℕ → Counted A

abbrev pub bind : {A B : Type 0} → Counted A → (A → ℕ → Counted B) → Counted B
bind (stopped e) g = stopped e
bind (counted x n) g = g x n

-- 23: "after some node's step, by the definition, more than 126 nodes"
abbrev pub too_many : ℕ → Bool
too_many n = ltb 126 n

-- ---- children before parents: one call on a node is a step, and after it the nodes of the whole plan are counted (reading 4)

-- A node o over walked children d, in a plan of m nodes: the step, then what is left to do
abbrev pub stepped : {A : Type 0} → (Tree → Tree) → Op → Forest Marked → ℕ → (Tree → ℕ → Counted A) → Counted A
stepped step o d m next =
    let t : Tree = rebuild o false d in
    let n : ℕ = (m + size_t (step t)) - size_t t in
    cond (too_many n) (stopped TooManyNodes) (next (step t) n)

abbrev pub count_up : (Tree → Tree) → ℕ → Plan → Counted (Forest Marked)
count_up step n none = counted none n
count_up step n (tree o c r) =
    bind (count_up step n c) (λ d m. stepped step o d m (λ t k. bind (count_up step k r) (λ s l. counted (plant t s) l)))

-- ---- parents before children: one call of the helper with its calls to itself is a step (reading 4). The decisions of PushdownSorts say how many
-- nodes a visit's steps reach; that these are the Rust's steps is proved in crate push_literal: SameAnswers

abbrev pub one : Bool → ℕ
one true = 1
one false = 0

-- 25: "pushing meets a sort whose keys are all constant"
abbrev pub constant_sort : Op → Plan → Bool
constant_sort o c = is_sort o && is_nil (known_order (facts_op o (facts c)))

-- The nodes of the plan after a decision, n before it
abbrev pub afterwards : Decision → ℕ → ℕ
afterwards D n = (n + length D.tops) - one D.gone

abbrev pub overflows : Decision → ℕ → Bool
overflows D n = not D.quiet && too_many (afterwards D n + D.peak)

abbrev pub count_down : (ℕ → Visit) → ℕ → Plan → Counted (Forest Marked)
count_down q n none = counted none n
count_down q n (tree o c r) =
    let D : Decision = pushdown_sorts_helper (q 0) o c in
    cond (constant_sort o c) (stopped ConstantSort)
    (cond (overflows D n) (stopped TooManyNodes)
    (bind (count_down D.reqs (afterwards D n) c) (λ d m. bind (count_down (λ i. q (suc i)) m r) (λ s l. counted (plant (carry_out D d) s) l))))

-- ---- the calls

-- 21: "a tree rewrite on a tree with a partial sort"
abbrev pub has_partial_sort : Plan → Bool
has_partial_sort none = false
has_partial_sort (tree o c r) = eqb (code o) 14 || (has_partial_sort c || has_partial_sort r)

abbrev pub answer_of : Counted (Forest Marked) → Answer
answer_of (stopped e) = refused e
answer_of (counted x n) = answered (strip x)

-- "Several at once: 20, 21, then 22, 23 or 25 as reached"; 22 isn't given any more (02, P2)
abbrev pub answer_to : Plan → Counted (Forest Marked) → Answer
answer_to f w = cond (has_partial_sort f) (refused HasPartialSort) (answer_of w)

abbrev pub ensured : Plan → Answer
ensured f = answer_to f (count_up ensure_sorting (size f) f)

abbrev pub parallelized : Plan → Answer
parallelized f = answer_to f (count_up parallelize_sorts (size f) f)

abbrev pub preserved : Settings → Plan → Answer
preserved s f = answer_to f (count_up (replace_with_order_preserving_variants s) (size f) f)

abbrev pub pushed : Plan → Answer
pushed f = answer_to f (count_down (λ i. at_root) (size f) f)

-- 20: "a call on one node whose number isn't in the tree"; partial sorting gives no 21 (reading 12)
abbrev pub partial_at : ℕ → Plan → Plan → Answer
partial_at n f none = refused NoSuchNode
partial_at n f (tree o c r) = answered (set_node n (replace_with_partial_sort o c) f)

abbrev pub partially_sorted : ℕ → Plan → Answer
partially_sorted n f = partial_at n f (from_node n f)
