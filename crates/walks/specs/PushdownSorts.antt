-- sort_pushdown.rs, second part, as a structural recursion, parents first: assign_initial_requirements, pushdown_sorts_helper, pushdown_sorts
-- (reading 8). The helper's decision at a node says which nodes come on top, whether the node (a sort) goes, and what is required of its
-- children; the visits of the nodes that a step adds, two at most, are written out in it. These are definitions.
-- That this is the Rust's transform_down is proved: crate push_literal has the Rust's own form, and `accepted_is_literal` (SameAnswers) says
-- that the two answer the same, 23 and 25 included. So `peak` and `quiet`, by which Counted counts a visit's steps, need not be believed.
use Rattle.std.specs.Prelude.{Bool, true, false, cond, ◌||◌, List, [], ◌++◌, ℕ, suc, get_or, Option, None}
use Rattle.row_order.specs.Iso.{Key}
use Rattle.plan.specs.Forest.{Forest, none, tree}
use Rattle.plan.specs.Op.{Op, Plan, sort_op}
use Rattle.plan.specs.declared.Distribution.{Distribution}
use Rattle.plan.specs.declared.Distribution.TheVariants.{Unspecified}
use Rattle.semantics.specs.Facts.{at0, compatible, Facts, facts, facts_op, is_nil, met, nf, known_order}
use Rattle.semantics.specs.Properties.{dist_of, fetches, fetch_op, fresh_keys, rebuilt, sort_dist, wanted}
use Rattle.walks.specs.Marks.{cover, if_sort, kid0, Marked, node, plant, rebuild, Shape, shape, strip, Tree}
use Rattle.walks.specs.Utils.{merge_above, needs_merge, sort_above_with_distribution}
use Rattle.walks.specs.SortPushdown.{child_count, default_requirements, effective_dist, goes, min_fetch, ParentRequirements, pushdown_requirement_to_children, Pushed, stop, stronger_distribution}

-- ---- what a node is visited with

-- req: the ParentRequirements. touch: it is rebuilt before it is looked at (update_plan_from_children of a removed sort's child,
-- reading 1). root: its children have the requirements of assign_initial_requirements
pub record Visit : Type 0 where
  pub req : ParentRequirements
  pub touch : Bool
  pub root : Bool

abbrev pub asked : ParentRequirements → Visit
asked r = record { req = r; touch = false; root = false }

abbrev pub below_sort : ParentRequirements → Visit
below_sort r = record { req = r; touch = true; root = false }

-- 01: the default, "used at the root and under new sorts"
abbrev pub at_root : Visit
at_root = record { req = default_requirements; touch = false; root = true }

-- Child number i of a node that no order is required of, as under a new sort: "use each child's own distribution requirement"
abbrev pub with_own_distribution : Op → ℕ → Visit
with_own_distribution o i = asked (record { order = default_requirements.order; fetch = default_requirements.fetch; dist = dist_of o i })

-- assign_initial_requirements, of child number i of a node o over c
abbrev pub assign_initial_requirements : Op → Plan → ℕ → Visit
assign_initial_requirements o c i = asked (record { order = wanted o i; fetch = get_or (fetches c) i None; dist = dist_of o i })

-- "child.data.distribution_requirement = stronger_distribution(..)": orders ks, fetch f and distribution d for the children of o
abbrev pub hand_down : (ℕ → List Key) → Option ℕ → Distribution → Op → ℕ → Visit
hand_down ks f d o i = asked (record { order = ks i; fetch = f; dist = stronger_distribution d (dist_of o i) })

-- ---- a decision

-- tops: the new nodes, outermost first. gone: the node goes. op: the node, if it stays. reqs: what its children are visited with.
-- For the proof that the steps are the Rust's, peak: how many nodes more than the decision leaves they reach on the way; quiet: no step ends
-- here, for the helper calls itself
pub record Decision : Type 0 where
  pub tops : List Op
  pub gone : Bool
  pub op : Op
  pub reqs : ℕ → Visit
  pub peak : ℕ
  pub quiet : Bool

abbrev pub stays : Op → (ℕ → Visit) → Decision
stays o g = record { tops = []; gone = false; op = o; reqs = g; peak = 0; quiet = false }

abbrev pub covered : List Op → ℕ → Op → (ℕ → Visit) → Decision
covered ts n o g = record { tops = ts; gone = false; op = o; reqs = g; peak = n; quiet = false }

abbrev pub removed : Op → Visit → Decision
removed o q = record { tops = []; gone = true; op = o; reqs = λ i. q; peak = 0; quiet = true }

abbrev pub replaced : List Op → Op → Visit → Decision
replaced ts o q = record { tops = ts; gone = true; op = o; reqs = λ i. q; peak = 0; quiet = false }

-- The order of a new sort, of an order ks over facts F, as the visit of the sort reads it: in normal form (reading 7)
abbrev pub new_ordering : Facts → List Key → List Key
new_ordering F ks = nf F [] (fresh_keys F [] ks)

-- ---- pushdown_sorts_helper at a sort p ks f over c, visited with q

-- sort_ordering: in normal form (reading 7)
abbrev pub sort_ordering : Bool → List Key → Option ℕ → Plan → List Key
sort_ordering p ks f c = known_order (facts_op (sort_op p ks f) (facts c))

-- No order is required: "just propagate the stricter fetch and ordering requirements". Its child's distribution stays: of the root's
-- child what assign_initial_requirements gave it, else none
abbrev pub sort_unasked : Bool → List Key → Option ℕ → Visit → Plan → Decision
sort_unasked p ks f q c =
    removed (sort_op p ks f)
    (below_sort (record { order = sort_ordering p ks f c; fetch = min_fetch f q.req.fetch; dist = cond q.root (sort_dist p) Unspecified }))

-- "Sort was unnecessary, just propagate the stricter fetch and ordering requirements. Reset distribution to Unspecified"
abbrev pub sort_unnecessary : Bool → List Key → Option ℕ → Visit → Plan → Decision
sort_unnecessary p ks f q c =
    let own : List Key = sort_ordering p ks f c in
    let stricter : List Key = cond (compatible (at0 (facts c)) own q.req.order) own q.req.order in
    removed (sort_op p ks f) (below_sort (record { order = stricter; fetch = min_fetch f q.req.fetch; dist = Unspecified }))

-- "The sort was imposing a different ordering": a sort of the required order in its place, and the old order goes on
abbrev pub sort_replaced : Bool → List Key → Option ℕ → Visit → Plan → Decision
sort_replaced p ks f q c =
    replaced (sort_above_with_distribution (at0 (facts c)) q.req.order q.req.fetch q.req.dist) (sort_op p ks f)
    (below_sort (record { order = sort_ordering p ks f c; fetch = f; dist = Unspecified }))

-- The same where a merge comes too: `children[0]` is the new sort there (reading 8). Its visit finds another order required again,
-- the old one: it puts a sort of that in its place, and its own order goes on
abbrev pub sort_replaced_twice : Bool → List Key → Option ℕ → Visit → Plan → Decision
sort_replaced_twice p ks f q c =
    let C : Facts = at0 (facts c) in
    replaced (merge_above C q.req.order q.req.fetch ++ sort_above_with_distribution C (sort_ordering p ks f c) f Unspecified) (sort_op p ks f)
    (below_sort (record { order = new_ordering C q.req.order; fetch = q.req.fetch; dist = Unspecified }))

abbrev pub sort_differs : Bool → List Key → Option ℕ → Visit → Plan → Decision
sort_differs p ks f q c = cond (needs_merge (at0 (facts c)) q.req.dist) (sort_replaced_twice p ks f q c) (sort_replaced p ks f q c)

-- satisfy_parent, or parent_is_stricter
abbrev pub sort_asked : Bool → List Key → Option ℕ → Visit → Plan → Decision
sort_asked p ks f q c =
    let F : Facts = facts_op (sort_op p ks f) (facts c) in
    cond (met F q.req.order || compatible F q.req.order (known_order F)) (sort_unnecessary p ks f q c) (sort_differs p ks f q c)

abbrev pub decide_sort : Bool → List Key → Option ℕ → Visit → Plan → Decision
decide_sort p ks f q c = cond (is_nil q.req.order) (sort_unasked p ks f q c) (sort_asked p ks f q c)

-- ---- pushdown_sorts_helper at another node o over c, visited with q

-- pushdown_requirement_to_children, for an order ks
abbrev pub push_down : List Key → Visit → Op → Plan → Pushed
push_down ks q o c = pushdown_requirement_to_children o (fetch_op o (fetches c)) (child_count c) (facts c) ks q.req.fetch

-- "If there are no ordering requirements from the parent, nothing to do"
abbrev pub unasked : Visit → Op → Plan → Decision
unasked q o c = stays o (cond q.root (assign_initial_requirements o c) (with_own_distribution o))

-- "For non-sort operators which satisfy ordering"
abbrev pub satisfied : Visit → Op → Plan → Decision
satisfied q o c = stays o (hand_down (wanted o) q.req.fetch (effective_dist (facts_op o (facts c)) q.req.dist) o)

-- "Can not push down requirements, add new SortExec"
abbrev pub sort_added : Visit → Op → Plan → Decision
sort_added q o c = covered (sort_above_with_distribution (facts_op o (facts c)) q.req.order q.req.fetch q.req.dist) 0 o (with_own_distribution o)

-- Where a merge comes too, "the sort is visited, removed, and the node tried once more with the sort's normal form and no
-- distribution" (reading 8): what that try gives comes first
abbrev pub after_merge : Pushed → Visit → Op → Plan → Decision
after_merge (goes ks) q o c =
    covered (merge_above (facts_op o (facts c)) q.req.order q.req.fetch) 1 o
    (hand_down ks (min_fetch (fetch_op o (fetches c)) q.req.fetch) Unspecified o)
after_merge stop q o c =
    let F : Facts = facts_op o (facts c) in
    covered (merge_above F q.req.order q.req.fetch ++ sort_above_with_distribution F (new_ordering F q.req.order) q.req.fetch Unspecified) 0 o
    (with_own_distribution o)

abbrev pub tried_again : Visit → Op → Plan → Pushed
tried_again q o c = push_down (new_ordering (facts_op o (facts c)) q.req.order) q (rebuilt o (facts c)) c

abbrev pub merge_added : Visit → Op → Plan → Decision
merge_added q o c = after_merge (tried_again q o c) q (rebuilt o (facts c)) c

abbrev pub after_try : Pushed → Visit → Op → Plan → Decision
after_try (goes ks) q o c = stays o (hand_down ks (min_fetch (fetch_op o (fetches c)) q.req.fetch) (effective_dist (facts_op o (facts c)) q.req.dist) o)
after_try stop q o c = cond (needs_merge (facts_op o (facts c)) q.req.dist) (merge_added q o c) (sort_added q o c)

abbrev pub unsatisfied : Visit → Op → Plan → Decision
unsatisfied q o c = after_try (push_down q.req.order q o c) q o c

abbrev pub node_asked : Visit → Op → Plan → Decision
node_asked q o c = cond (met (facts_op o (facts c)) q.req.order) (satisfied q o c) (unsatisfied q o c)

abbrev pub decide_node : Visit → Op → Plan → Decision
decide_node q o c = cond (is_nil q.req.order) (unasked q o c) (node_asked q o c)

-- ---- pushdown_sorts_helper

abbrev pub decide_by : Shape → Visit → Op → Plan → Decision
decide_by s q o c = if_sort s (λ p ks f. decide_sort p ks f q c) (decide_node q o c)

abbrev pub pushdown_sorts_helper : Visit → Op → Plan → Decision
pushdown_sorts_helper q o c = decide_by (shape o) q (cond q.touch (rebuilt o (facts c)) o) c

-- ---- pushdown_sorts: transform_down

-- What a decision makes of the visited children d: first below the new nodes
abbrev pub below_tops : Decision → Forest Marked → Tree
below_tops D d = cond D.gone (kid0 (node D.op false d) d) (rebuild D.op false d)

abbrev pub carry_out : Decision → Forest Marked → Tree
carry_out D d = cover D.tops (below_tops D d)

-- q n: root n is visited with it
abbrev pub pushdown_sorts : (ℕ → Visit) → Plan → Forest Marked
pushdown_sorts q none = none
pushdown_sorts q (tree o c r) =
    plant (carry_out (pushdown_sorts_helper (q 0) o c) (pushdown_sorts (pushdown_sorts_helper (q 0) o c).reqs c)) (pushdown_sorts (λ i. q (suc i)) r)

-- 01, 'The four walks': push
abbrev pub push : Plan → Plan
push f = strip (pushdown_sorts (λ i. at_root) f)
