-- sort_pushdown.rs, second part, as the Rust has it: assign_initial_requirements; pushdown_sorts_helper, on a PlanContext whose children hold
-- their ParentRequirements as data; and pushdown_sorts: transform_down applies the helper to a node and then goes into the children of
-- what it returned, new nodes included. After each step the nodes of the whole plan are counted (reading 4). These are definitions.
-- This is what a reader has to believe of push. `accepted_is_literal` (SameAnswers) proves that `pushed`, by the structural recursion of
-- PushdownSorts and Counted, answers the same for every plan, 23 and 25 included; and that the number that bounds the recursion here, the
-- fuel, is enough, and no index passes the end.
use Rattle.std.specs.Prelude.{◌≡◌, Bool, true, false, cond, not, ◌&&◌, List, [], ℕ, zero, suc, ◌+◌, Option}
use Rattle.row_order.specs.Iso.{Key}
use Rattle.plan.specs.Forest.{Forest, none, tree, size}
use Rattle.plan.specs.Op.{Op, Plan}
use Rattle.plan.specs.declared.Distribution.{Distribution}
use Rattle.plan.specs.declared.Distribution.TheVariants.{Unspecified}
use Rattle.plan.specs.declared.Refusal.{Refusal}
use Rattle.plan.specs.declared.Refusal.TheVariants.{ConstantSort, HasPartialSort, TooManyNodes}
use Rattle.semantics.specs.Facts.{compatible, Facts, facts, facts_op, is_nil, known_order, met}
use Rattle.semantics.specs.Properties.{dist_of, fetches, fetch_op, wanted}
use Rattle.walks.specs.Marks.{at, marked, node, Noted, op_t, PlanContext, plant, rebuild, set_mark, size_t, strip}
use Rattle.walks.specs.Utils.{add_sort_above_with_distribution, is_sort}
use Rattle.walks.specs.SortPushdown.{default_requirements, goes, min_fetch, ParentRequirements, pushdown_requirement_to_children, Pushed, stop, stronger_distribution, child_count, effective_dist}
use Rattle.walks.specs.Counted.{Answer, answered, has_partial_sort, refused, too_many}

-- ---- SortPushDown = PlanContext<ParentRequirements>

abbrev pub Required : Type 0
Required = Noted ParentRequirements

abbrev pub SortPushDown : Type 0
SortPushDown = PlanContext ParentRequirements

-- sort_push_down.data
abbrev pub required : SortPushDown → ParentRequirements
required t = t.top.mark

-- update_plan_from_children: reading 1
abbrev pub update_plan_from_children : SortPushDown → SortPushDown
update_plan_from_children t = rebuild (op_t t) (required t) t.kids

-- for (idx, child) in children.iter_mut().enumerate() { child.data = g idx child.data }
abbrev pub each_child : (ℕ → ParentRequirements → ParentRequirements) → Forest Required → Forest Required
each_child g none = none
each_child g (tree m c r) = tree (record { op = m.op; mark = g 0 m.mark }) c (each_child (λ i. g (suc i)) r)

-- ---- assign_initial_requirements: ks and ds are what the node wants of its children, orders and distributions

abbrev pub initial_from : (ℕ → List Key) → (ℕ → Distribution) → Forest Required → Forest Required
initial_from ks ds none = none
initial_from ks ds (tree m c r) =
    let first : ParentRequirements = record { order = ks 0; fetch = fetch_op m.op (fetches (strip c)); dist = ds 0 } in
    tree (record { op = m.op; mark = first }) c (initial_from (λ i. ks (suc i)) (λ i. ds (suc i)) r)

abbrev pub assign_initial : SortPushDown → SortPushDown
assign_initial t = node (op_t t) (required t) (initial_from (wanted (op_t t)) (dist_of (op_t t)) t.kids)

-- ---- pushdown_sorts_helper

-- What one call does: panics at an index past the end; gives its internal error; calls itself, as the last thing it does, and gives
-- what that call gives; or returns
pub data Call : Type 0 where
  panics : Call
  internal_error : Call
  calls_itself : SortPushDown → Call
  returns : SortPushDown → Call

-- sort_push_down.children.swap_remove(0)
abbrev pub swap_remove : Forest Required → (SortPushDown → Call) → Call
swap_remove none g = panics
swap_remove (tree m c r) g = g (at m c)

-- sort_push_down.children[0].data = d, of a node o that holds e
abbrev pub of_first_child : ParentRequirements → Op → ParentRequirements → Forest Required → Call
of_first_child d o e none = panics
of_first_child d o e (tree m c r) = returns (node o e (tree (record { op = m.op; mark = d }) c r))

abbrev pub first_child_data : ParentRequirements → SortPushDown → Call
first_child_data d t = of_first_child d (op_t t) (required t) t.kids

-- Below, t is the context, and c the children of its plan

-- "If there are no ordering requirements from the parent, nothing to do unless we have a sort." Its child u keeps its own distribution
abbrev pub sort_unrequired : Plan → SortPushDown → Call
sort_unrequired c t =
    let ordering : List Key = known_order (facts_op (op_t t) (facts c)) in
    let fetch : Option ℕ = min_fetch (fetch_op (op_t t) (fetches c)) (required t).fetch in
    cond (is_nil ordering) internal_error
    (swap_remove t.kids (λ u. calls_itself (set_mark (record { order = ordering; fetch = fetch; dist = (required u).dist }) (update_plan_from_children u))))

-- "No ordering is being pushed; use each child's own distribution requirement"
abbrev pub node_unrequired : SortPushDown → Call
node_unrequired t =
    returns (node (op_t t) (required t) (each_child (λ i r. record { order = r.order; fetch = r.fetch; dist = dist_of (op_t t) i }) t.kids))

-- "The sort was imposing a different ordering than the one being pushed down." u is its child, children[0] what add_sort_above put there
abbrev pub different_sort : List Key → Option ℕ → ParentRequirements → SortPushDown → Call
different_sort ordering fetch parent u =
    first_child_data (record { order = ordering; fetch = fetch; dist = Unspecified })
    (add_sort_above_with_distribution default_requirements parent.order parent.fetch parent.dist (update_plan_from_children u))

-- "Sort was unnecessary, just propagate the stricter fetch and ordering requirements. Reset distribution to Unspecified"; F: the sort's facts
abbrev pub unnecessary_sort : Facts → List Key → Option ℕ → ParentRequirements → SortPushDown → Call
unnecessary_sort F ordering fetch parent u =
    let stricter : List Key = cond (compatible F ordering parent.order) ordering parent.order in
    calls_itself (set_mark (record { order = stricter; fetch = min_fetch fetch parent.fetch; dist = Unspecified }) (update_plan_from_children u))

abbrev pub sort_required : Plan → SortPushDown → Call
sort_required c t =
    let F : Facts = facts_op (op_t t) (facts c) in
    let parent : ParentRequirements = required t in
    let ordering : List Key = known_order F in
    let fetch : Option ℕ = fetch_op (op_t t) (fetches c) in
    let satisfy_parent : Bool = met F parent.order in
    let parent_is_stricter : Bool = compatible F parent.order ordering in
    cond (is_nil ordering) internal_error (swap_remove t.kids
    (λ u. cond (not satisfy_parent && not parent_is_stricter) (different_sort ordering fetch parent u) (unnecessary_sort F ordering fetch parent u)))

-- "For non-sort operators which satisfy ordering"
abbrev pub node_satisfies : Plan → SortPushDown → Call
node_satisfies c t =
    let o : Op = op_t t in
    let parent : ParentRequirements = required t in
    let effective : Distribution = effective_dist (facts_op o (facts c)) parent.dist in
    let dist : ℕ → Distribution = λ i. stronger_distribution effective (dist_of o i) in
    returns (node o parent (each_child (λ i r. record { order = wanted o i; fetch = min_fetch parent.fetch r.fetch; dist = dist i }) t.kids))

-- "For operators that can take a sort pushdown, continue with updated requirements." Else "add new SortExec (distribution-aware)"
abbrev pub node_pushes : Pushed → Plan → SortPushDown → Call
node_pushes (goes adjusted) c t =
    let o : Op = op_t t in
    let parent : ParentRequirements = required t in
    let fetch : Option ℕ = min_fetch (fetch_op o (fetches c)) parent.fetch in
    let effective : Distribution = effective_dist (facts_op o (facts c)) parent.dist in
    let dist : ℕ → Distribution = λ i. stronger_distribution effective (dist_of o i) in
    returns (node o (record { order = []; fetch = parent.fetch; dist = parent.dist })
    (each_child (λ i r. record { order = adjusted i; fetch = fetch; dist = dist i }) t.kids))
node_pushes stop c t =
    returns (assign_initial (add_sort_above_with_distribution default_requirements (required t).order (required t).fetch (required t).dist t))

abbrev pub node_required : Plan → SortPushDown → Call
node_required c t =
    let o : Op = op_t t in
    let parent : ParentRequirements = required t in
    cond (met (facts_op o (facts c)) parent.order) (node_satisfies c t)
    (node_pushes (pushdown_requirement_to_children o (fetch_op o (fetches c)) (child_count c) (facts c) parent.order parent.fetch) c t)

abbrev pub helper_on : Plan → SortPushDown → Call
helper_on c t =
    cond (is_nil (required t).order) (cond (is_sort (op_t t)) (sort_unrequired c t) (node_unrequired t))
    (cond (is_sort (op_t t)) (sort_required c t) (node_required c t))

abbrev pub helper : SortPushDown → Call
helper t = helper_on (strip t.kids) t

-- ---- transform_down

-- No answer: the fuel is spent, or a panic; else a refusal, or what it gives
pub data Outcome (A : Type 0) : Type 0 where
  spent : Outcome A
  panicked : Outcome A
  failed : Refusal → Outcome A
  done : A → Outcome A

abbrev pub and_then : {A B : Type 0} → Outcome A → (A → Outcome B) → Outcome B
and_then spent g = spent
and_then panicked g = panicked
and_then (failed e) g = failed e
and_then (done x) g = g x

-- The children, left to right, each by g. k: the nodes of the whole plan that stand elsewhere than here; those to the right of a
-- child are still as they were
abbrev pub map_children : (ℕ → SortPushDown → Outcome SortPushDown) → ℕ → Forest Required → Outcome (Forest Required)
map_children g k none = done none
map_children g k (tree m c r) =
    and_then (g (size r + k) (at m c)) (λ t. and_then (map_children g (size_t t + k) r) (λ s. done (plant t s)))

-- After a call of the helper. full: so many nodes of the whole plan are too many. The call and its calls to itself are one step: the
-- nodes are counted when it returns. Then its children, and with_new_children, which updates the plan from them
abbrev pub after_call : (ℕ → Bool) → (ℕ → SortPushDown → Outcome SortPushDown) → ℕ → Call → Outcome SortPushDown
after_call full again k panics = panicked
after_call full again k internal_error = failed ConstantSort
after_call full again k (calls_itself u) = again k u
after_call full again k (returns u) =
    cond (full (size_t u + k)) (failed TooManyNodes)
    (and_then (map_children again (suc k) u.kids) (λ d. done (rebuild (op_t u) (required u) d)))

-- The first number is the fuel
abbrev pub transform_down : (ℕ → Bool) → ℕ → ℕ → SortPushDown → Outcome SortPushDown
transform_down full zero k t = spent
transform_down full (suc n) k t = after_call full (λ j u. transform_down full n j u) k (helper t)

-- ---- assign_initial_requirements of the root, then pushdown_sorts

-- A plan is a forest of one root; of several, the same for each
abbrev pub initial : Plan → Forest Required
initial none = none
initial (tree o c r) = plant (assign_initial (node o default_requirements (marked default_requirements c))) (initial r)

abbrev pub pushdown_sorts_by : (ℕ → Bool) → ℕ → Plan → Outcome (Forest Required)
pushdown_sorts_by full n f = map_children (λ k t. transform_down full n k t) 0 (initial f)

-- ---- as it is called

pub data Given : Type 0 where
  no_answer : Given
  gives : Answer → Given

abbrev pub given_by : Outcome (Forest Required) → Given
given_by spent = no_answer
given_by panicked = no_answer
given_by (failed e) = gives (refused e)
given_by (done x) = gives (answered (strip x))

-- Without refusal 23; n is the fuel
abbrev pub literal_push : ℕ → Plan → Given
literal_push n f = given_by (pushdown_sorts_by (λ m. false) n f)

-- 21, then 23 or 25 as reached
abbrev pub literal_pushed : ℕ → Plan → Given
literal_pushed n f = cond (has_partial_sort f) (gives (refused HasPartialSort)) (given_by (pushdown_sorts_by too_many n f))

-- ---- what is asked of a plan

-- Every sort has one child: all that is asked of a plan. Without it the Rust panics at a sort that has none
abbrev pub OneChild : Plan → Type 0
OneChild none = Unit {0}
OneChild (tree o c r) = (is_sort o ≡ true → child_count c ≡ 1) × OneChild c × OneChild r
