-- What a visit decides, as the code answers. These are definitions.
use Rattle.std.specs.Prelude.{◌≡◌, Bool, true, false, cond, ◌||◌, List, [], ◌++◌, ℕ, zero, suc, ◌<◌, get_or, Option, None}
use Rattle.row_order.specs.Iso.{Key}
use Rattle.row_order.specs.Lists.{All}
use Rattle.plan.specs.Op.{Op, sort_op, sort_merge_join, hash_join, Plan}
use Rattle.plan.specs.WellFormed.{join_width}
use Rattle.plan.specs.declared.JoinType.{JoinType}
use Rattle.plan.specs.declared.Distribution.TheVariants.{Unspecified}
use Rattle.plan_codec.specs.Decode.{decode}
use Rattle.record_fields.specs.Proper.{pairs_of, Proper}
use Rattle.semantics.specs.Facts.{Facts, facts, compatible, is_nil, met, nf, known_order}
use Rattle.semantics.specs.Properties.{fresh_keys, sort_dist, fetches, rebuilt}
use Rattle.key_lists.specs.declared.Keys.{Keys}
use Rattle.key_lists.specs.Keys.{order_of, Real}
use Rattle.asked_facts.specs.Asked.{told, FactRow}
use Rattle.push_requirements.specs.declared.ParentRequirements.{ParentRequirements as Coded}
use Rattle.push_requirements.specs.Pushing.{required, JoinRows}
use Rattle.walks.specs.Utils.{needs_merge, new_merge, new_sort, sort_above_with_distribution}
use Rattle.walks.specs.SortPushdown.{child_count, ParentRequirements, min_fetch}
use Rattle.walks.specs.PushdownSorts as walk
use Rattle.walks.specs.Counted.{one}
use Rattle.sort_pushdown.specs.declared.Visit.{Visit}
use Rattle.sort_pushdown.specs.declared.NewNodes.{NewNodes}
use Rattle.sort_pushdown.specs.declared.ChildRequirements.{ChildRequirements}
use Rattle.sort_pushdown.specs.declared.Decision.{Decision}

abbrev pub visit_of : Visit → walk.Visit
visit_of v = record { req = required v.req; touch = v.touch; root = v.root }

-- The new nodes, outermost first
abbrev pub tops_of : NewNodes → List Op
tops_of r = new_merge (order_of r.merge) r.mfetch ++ new_sort r.preserve (order_of r.sort) r.sfetch

pub record Adds (ts : List Op) (r : NewNodes) : Type 0 where
  pub is : tops_of r ≡ ts
  pub merge : Real r.merge
  pub sort : Real r.sort

abbrev pub with_fetch : Bool → Option ℕ → ParentRequirements → ParentRequirements
with_fetch b f P = record { order = P.order; fetch = cond b f P.fetch; dist = P.dist }

abbrev pub of_child : ChildRequirements → ℕ → Coded
of_child r zero = r.first
of_child r (suc i) = r.rest

-- What child number i is required; ts: the children's fetches
abbrev pub req_for : ChildRequirements → List (Option ℕ) → ℕ → ParentRequirements
req_for r ts i = with_fetch r.initial (get_or ts i None) (required (of_child r i))

-- r says what m children are required
pub record Asks (m : ℕ) (ts : List (Option ℕ)) (g : ℕ → ParentRequirements) (r : ChildRequirements) : Type 0 where
  pub is : (i : ℕ) → i < m → req_for r ts i ≡ g i
  pub first : Real r.first.order
  pub rest : Real r.rest.order

abbrev pub visit_for : Decision → List (Option ℕ) → ℕ → walk.Visit
visit_for r ts i = record { req = req_for r.reqs ts i; touch = r.gone; root = false }

-- r says the decision D at a node o over c. What the children are visited with is compared below their number only: nobody reads more
pub record Decides (o : Op) (c : Plan) (D : walk.Decision) (r : Decision) : Type 0 where
  pub tops : Adds D.tops r.tops
  pub gone : r.gone ≡ D.gone
  pub op : cond r.rebuilt (rebuilt o (facts c)) o ≡ D.op
  pub reqs : (i : ℕ) → i < child_count c → visit_for r (fetches c) i ≡ D.reqs i
  pub first : Real r.reqs.first.order
  pub rest : Real r.reqs.rest.order
  pub peak : one r.peak ≡ D.peak
  pub quiet : r.quiet ≡ D.quiet

-- A node with the record r and the facts own over a and b, visited with an order
pub record Visited (r own a b : List ℕ) (requirement : Option Keys) : Type 0 where
  pub proper : Proper r
  pub here : FactRow own
  pub first : FactRow a
  pub second : FactRow b
  pub real : Real requirement
  pub inside : All (λ k. k.col < (told own).width) (order_of requirement)
  pub merged : (t : JoinType) → decode r ≡ sort_merge_join t (pairs_of r) → JoinRows t r own a b
  pub hashed : (t : JoinType) → decode r ≡ hash_join t (pairs_of r) → (told own).width ≡ join_width t (told a).width (told b).width

-- ---- decisions as the code makes them

abbrev pub removed_by : NewNodes → Coded → Bool → Decision
removed_by ts req q = record { tops = ts; gone = true; rebuilt = false; reqs = record { first = req; rest = req; initial = false }; peak = false; quiet = q }

abbrev pub stays_by : Bool → NewNodes → ChildRequirements → Bool → Decision
stays_by b ts reqs k = record { tops = ts; gone = false; rebuilt = b; reqs = reqs; peak = k; quiet = false }

abbrev pub rebuilt_by : Decision → Decision
rebuilt_by d = record { tops = d.tops; gone = d.gone; rebuilt = true; reqs = d.reqs; peak = d.peak; quiet = d.quiet }

-- ---- the definitions of walks at a sort, over its facts F and its child's C in the place of the child: equal by computation

abbrev pub unasked_on : Bool → List Key → Option ℕ → walk.Visit → Facts → walk.Decision
unasked_on p ks f q F = walk.removed (sort_op p ks f)
    (walk.below_sort (record { order = known_order F; fetch = min_fetch f q.req.fetch; dist = cond q.root (sort_dist p) Unspecified }))

abbrev pub unnecessary_on : Bool → List Key → Option ℕ → walk.Visit → Facts → Facts → walk.Decision
unnecessary_on p ks f q F C =
    walk.removed (sort_op p ks f)
    (walk.below_sort (record {
      order = cond (compatible C (known_order F) q.req.order) (known_order F) q.req.order;
      fetch = min_fetch f q.req.fetch;
      dist = Unspecified;
    }))

abbrev pub replaced_on : Bool → List Key → Option ℕ → walk.Visit → Facts → Facts → walk.Decision
replaced_on p ks f q F C =
    walk.replaced (sort_above_with_distribution C q.req.order q.req.fetch q.req.dist) (sort_op p ks f)
    (walk.below_sort (record { order = known_order F; fetch = f; dist = Unspecified }))

abbrev pub twice_on : Bool → List Key → Option ℕ → walk.Visit → Facts → Facts → walk.Decision
twice_on p ks f q F C =
    let new : List Key = fresh_keys C [] q.req.order in
    walk.replaced (new_merge new q.req.fetch ++ sort_above_with_distribution C (known_order F) f Unspecified) (sort_op p ks f)
    (walk.below_sort (record { order = nf C [] new; fetch = q.req.fetch; dist = Unspecified }))

abbrev pub sort_on : Bool → List Key → Option ℕ → walk.Visit → Facts → Facts → walk.Decision
sort_on p ks f q F C =
    cond (is_nil q.req.order) (unasked_on p ks f q F)
    (cond (met F q.req.order || compatible F q.req.order (known_order F)) (unnecessary_on p ks f q F C)
    (cond (needs_merge C q.req.dist) (twice_on p ks f q F C) (replaced_on p ks f q F C)))
