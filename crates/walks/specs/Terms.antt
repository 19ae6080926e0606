-- The words that the theorems on the walks are stated in: skeletons, limits added, what cuts nothing off, sorts of all-constant keys, the sizes after
-- each step, sorts that have nothing left to do, answers.
-- These are definitions.
use Rattle.std.specs.Prelude.{◌≡◌, Bool, true, false, cond, not, ◌&&◌, ◌||◌, List, [], ◌∷◌, ◌++◌, ℕ, suc, ◌+◌, ◌-◌, leb, length, Option}
use Rattle.row_order.specs.Iso.{Key}
use Rattle.plan.specs.Forest.{Forest, none, size, tree}
use Rattle.plan.specs.Op.{Op, Plan, sort_op}
use Rattle.plan.specs.Numbers.{code}
use Rattle.plan.specs.WellFormed.{every, width}
use Rattle.plan.specs.declared.Refusal.TheVariants.{ConstantSort, HasPartialSort, TooManyNodes}
use Rattle.semantics.specs.Facts.{at0, Facts, facts, met}
use Rattle.semantics.specs.Properties.{any_of, endless, is_limit, simple_op}
use Rattle.walks.specs.Marks.{rebuild, size_t, strip, transform_up, Tree}
use Rattle.walks.specs.PartialSort.{from_node}
use Rattle.walks.specs.PushdownSorts.{at_root, carry_out, Decision, push, pushdown_sorts, pushdown_sorts_helper, Visit}
use Rattle.walks.specs.Counted.{afterwards, Answer, answered, constant_sort, has_partial_sort, one, refused}

-- ---- forests one after the other
infixr 60 ◌⊕◌
abbrev pub ◌⊕◌ : {A : Type 0} → Forest A → Forest A → Forest A
none ⊕ g = g
(tree a c r) ⊕ g = tree a c (r ⊕ g)

-- ---- some kinds taken out
abbrev pub bone : (Op → Bool) → Op → Plan → Plan
bone p o s = cond (p o) s (tree o s none)

abbrev pub prune : (Op → Bool) → Plan → Plan
prune p none = none
prune p (tree o c r) = bone p o (prune p c) ⊕ prune p r

-- Kinds 5 to 8: repartition, coalesce, sort, merge
abbrev pub passing : Op → Bool
passing o = leb 5 (code o) && leb (code o) 8

-- These and the limits: kinds 5 to 10
abbrev pub easing : Op → Bool
easing o = leb 5 (code o) && leb (code o) 10

abbrev pub skel : Plan → Plan
skel f = prune passing f

-- ---- the second plan is the first with limits added; where none may be added, it is the first
pub data Added (a : Bool) : Plan → Plan → Type 0 where
  add_none : Added a none none
  add_tree : {o : Op} {c d r s : Plan} → Added a c d → Added a r s → Added a (tree o c r) (tree o d s)
  add_limit : {o : Op} {f d s : Plan} → a ≡ true → is_limit o ≡ true → Added a f (d ⊕ s) → Added a f (tree o d s)

-- ---- width, constants and classes: facts without order and streams
abbrev pub blank : Facts → Facts
blank F = record { width = F.width; streams = 0; consts = F.consts; cls = F.cls; order = [] }

-- ---- no join, no aggregate, no limit, no fetch
abbrev pub clear_op : Op → Bool
clear_op o = simple_op o && not (is_limit o)

abbrev pub clear : Plan → Bool
clear none = true
clear (tree o c r) = clear_op o && (clear c && clear r)

-- ---- no sort has all-constant keys; some sort has
abbrev pub Live : Plan → Type 0
Live none = Unit {0}
Live (tree o c r) = (constant_sort o c ≡ false) × Live c × Live r

abbrev pub has_constant_sort : Plan → Bool
has_constant_sort none = false
has_constant_sort (tree o c r) = constant_sort o c || (has_constant_sort c || has_constant_sort r)

-- ---- the steps of a walk, children before parents
-- The nodes of the whole plan after each step of the pure walk: a of them stand elsewhere, and the siblings to the right are still as they were
abbrev pub sizes_up : (Tree → Tree) → ℕ → Plan → List ℕ
sizes_up step a none = []
sizes_up step a (tree o c r) =
    let t : Tree = step (rebuild o false (transform_up step c)) in
    sizes_up step (a + suc (size r)) c ++ (((a + size_t t) + size r) ∷ sizes_up step (a + size_t t) r)

-- 23: "more than 126 nodes" are too many
abbrev pub small : ℕ → Bool
small n = leb n 126

-- ---- the steps of pushing, parents before children
-- The nodes of a plan that the steps of a visit reach, n before it: none where no step ends
abbrev pub reaches : Decision → ℕ → List ℕ
reaches D n = cond D.quiet [] ((afterwards D n + D.peak) ∷ [])

-- The nodes of the whole plan that the steps of each visit reach, up to the first sort whose keys are all constant: a of them stand elsewhere
abbrev pub sizes_down : ℕ → (ℕ → Visit) → Plan → List ℕ
sizes_down a q none = []
sizes_down a q (tree o c r) =
    let D : Decision = pushdown_sorts_helper (q 0) o c in
    let below : List ℕ = sizes_down ((a + size r) + (suc (length D.tops) - one D.gone)) D.reqs c in
    let right : List ℕ = sizes_down (a + size_t (carry_out D (pushdown_sorts D.reqs c))) (λ i. q (suc i)) r in
    cond (constant_sort o c) [] (reaches D (a + size (tree o c r)) ++ (below ++ cond (has_constant_sort c) [] right))

-- ---- partial sorting
-- Node number n is "a sort over an unbounded child that already meets all its keys": 01's refusal 22, since 02, P2, no refusal
pub record SortedAlready (n : ℕ) (f : Plan) : Type 0 where
  pub preserve : Bool
  pub keys : List Key
  pub fetch : Option ℕ
  pub child : Plan
  pub right : Plan
  pub here : from_node n f ≡ tree (sort_op preserve keys fetch) child right
  pub unbounded : any_of (endless child) ≡ true
  pub meets : met (at0 (facts child)) keys ≡ true

-- ---- answers
-- What a walk that goes children before parents answers
abbrev pub answer_up : (Tree → Tree) → Plan → Answer
answer_up step f = cond (has_partial_sort f) (refused HasPartialSort) (cond (every small (sizes_up step 0 f)) (answered (strip (transform_up step f)))
    (refused TooManyNodes))

-- What pushing answers: 23 if a step before the first sort of all-constant keys leaves too many nodes, 25 if there is such a sort
abbrev pub answer_down : Plan → Answer
answer_down f =
    cond (has_partial_sort f) (refused HasPartialSort)
    (cond (every small (sizes_down 0 (λ i. at_root) f)) (cond (has_constant_sort f) (refused ConstantSort) (answered (push f))) (refused TooManyNodes))
