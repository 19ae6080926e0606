-- The walk of push in the arena: what its functions ask and leave. These are definitions.
use Rattle.std.specs.Prelude.{◌≡◌, cond, List, ℕ, ◌+◌, ◌*◌, ◌≤◌, ◌<◌, length, take, drop, Result, Ok, Err}
use Rattle.plan.specs.Forest.{size}
use Rattle.plan.specs.Op.{Plan}
use Rattle.plan.specs.declared.Refusal.{Refusal}
use Rattle.plan.specs.declared.Refusal.TheVariants.{TooManyNodes, ConstantSort}
use Rattle.arena.specs.Arena.{slot_size}
use Rattle.walks.specs.Marks.{Tree, strip, op_t, size_t}
use Rattle.walks.specs.Terms.{◌⊕◌}
use Rattle.walks.specs.PushdownSorts as walk
use Rattle.walks.specs.Counted.{Answer, refused, answered, answer_of, Counted, stopped, counted, bind, constant_sort, overflows, afterwards, count_down}
use Rattle.plan_context.specs.View.{tree_of, forest, most_slots, Arena, Grown}
use Rattle.plan_context.specs.Records.{plan_t}
use Rattle.plan_updates.specs.Kids.{Kids}
use Rattle.sort_pushdown.specs.declared.Visit.{Visit}
use Rattle.sort_pushdown.specs.declared.Decision.{Decision}
use Rattle.push_visits.specs.Carried.{Visits}
use Rattle.pushdown_sorts.specs.declared.Walked.{Walked}

-- ---- one tree

abbrev pub decided : walk.Visit → Tree → walk.Decision
decided q t = walk.pushdown_sorts_helper q (op_t t) (strip t.kids)

-- The tree t visited with q, pushed
abbrev pub pushed_t : walk.Visit → Tree → Tree
pushed_t q t = walk.carry_out (decided q t) (walk.pushdown_sorts (decided q t).reqs (strip t.kids))

-- The same with the nodes counted, n before it
abbrev pub counted_t : walk.Visit → ℕ → Tree → Counted Tree
counted_t q n t =
    cond (constant_sort (op_t t) (strip t.kids)) (stopped ConstantSort)
    (cond (overflows (decided q t) n) (stopped TooManyNodes)
    (bind (count_down (decided q t).reqs (afterwards (decided q t) n) (strip t.kids)) (λ d m. counted (walk.carry_out (decided q t) d) m)))

-- ---- the walk

-- Three slots for each visited node: the node and two new ones; the counts stay in range
pub record Pushes (a : List ℕ) (ua h : ℕ) (b : List ℕ) (v : ℕ) (visit : Visit) (n : ℕ) : Type 0 where
  pub visits : Visits a ua h visit
  pub arena : Arena b v
  pub room : (v + 3 * size_t (tree_of a h)) * slot_size ≤ length b
  pub small : v + 3 * size_t (tree_of a h) ≤ most_slots
  pub low : size_t (tree_of a h) ≤ n
  pub high : n + 2 * size_t (tree_of a h) ≤ 1000

-- The walk of t ends with x
pub record Ended (q : walk.Visit) (n : ℕ) (t : Tree) (b : List ℕ) (v : ℕ) (b' : List ℕ) (x : Walked) : Type 0 where
  pub is : counted_t q n t ≡ counted (pushed_t q t) x.count
  pub grown : Grown b v b' (record { used = x.used; root = x.root }) (pushed_t q t) (v + 3 * size_t t)
  pub few : size_t (pushed_t q t) ≤ 3 * size_t t
  pub low : n ≤ x.count + size_t t
  pub high : x.count ≤ n + 2 * size_t t

-- It is refused, or it ends
abbrev pub Ends : walk.Visit → ℕ → Tree → List ℕ → ℕ → List ℕ → Result Walked Refusal → Type 0
Ends q n t b v b' (Err e) = counted_t q n t ≡ stopped e
Ends q n t b v b' (Ok x) = Ended q n t b v b' x

-- ---- a whole plan

-- The plan at h, of 126 nodes at most, and room in b for three slots for each
pub record Rooted (a : List ℕ) (ua h : ℕ) (b : List ℕ) : Type 0 where
  pub arena : Arena a ua
  pub here : h < 2 * ua
  pub few : size_t (tree_of a h) ≤ 126
  pub room : 3 * size_t (tree_of a h) * slot_size ≤ length b

-- What push answers to a plan without partial sorts: `pushed` is this after 21
abbrev pub answer_in : Plan → Answer
answer_in f = answer_of (count_down (λ i. walk.at_root) (size f) f)

-- The answer to f stands at x in b
pub record PushedTo (f : Plan) (b : List ℕ) (x : Walked) : Type 0 where
  pub is : answer_in f ≡ answered (plan_t (tree_of b x.root))
  pub arena : Arena b x.used
  pub here : x.root < 2 * x.used
  pub room : x.used ≤ 3 * size f

abbrev pub AnswersPush : Plan → List ℕ → Result Walked Refusal → Type 0
AnswersPush f b (Err e) = answer_in f ≡ refused e
AnswersPush f b (Ok x) = PushedTo f b x

-- What child number j and those after it are visited with
abbrev pub from : (ℕ → walk.Visit) → ℕ → ℕ → walk.Visit
from q j i = q (j + i)

-- The first j of the children ks are walked: b₀ with v nodes has become b with w, and the plan has m nodes, n before them
pub record Visiting (a ks : List ℕ) (q : ℕ → walk.Visit) (n : ℕ) (b₀ : List ℕ) (v j w m : ℕ) (kids b : List ℕ) : Type 0 where
  pub made : Kids b₀ v j w kids b
  pub is : count_down q n (strip (forest a ks)) ≡ bind (count_down (from q j) m (strip (forest a (drop j ks))))
      (λ s l. counted (forest b (take j kids) ⊕ s) l)
  pub pure : forest b (take j kids) ⊕ walk.pushdown_sorts (from q j) (strip (forest a (drop j ks))) ≡ walk.pushdown_sorts q (strip (forest a ks))
  pub left : w + 3 * size (forest a (drop j ks)) ≤ v + 3 * size (forest a ks)
  pub low : n + size (forest a (drop j ks)) ≤ m + size (forest a ks)
  pub high : m + 2 * size (forest a (drop j ks)) ≤ n + 2 * size (forest a ks)
  pub few : size (forest b (take j kids)) + 3 * size (forest a (drop j ks)) ≤ 3 * size (forest a ks)
