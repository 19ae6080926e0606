-- In every state of a stepping the rows that wait at an operator are rows of the run's streams there, in their order: `every_state`. So where the
-- plan passes the order check, they stand in the order that the operator wants: `never_out_of_order`.
-- Definitions: Plan, well_formed (plan); Run, Sources, Wanted, Everywhere, check (semantics); unfiltered, stepping, waits, delivered, can_step (Stepping).
use Rattle.std.specs.Prelude.{◌≡◌, refl, Bool, true, false, List, [], ◌∷◌, ◌++◌, ℕ, zero, suc, length, get_or}
use Rattle.std.proofs.Common.{sym, ap, ◌∙◌, subst, arith}
use Rattle.row_order.specs.Iso.{Row}
use Rattle.row_order.specs.Lists.{All, all_nil, all_cons, tab}
use Rattle.row_order.specs.ListLaws.{all_map}
use Rattle.row_order.specs.RowLists.{Sorted}
use Rattle.plan.specs.Forest.{Forest, none, tree, roots}
use Rattle.plan.specs.Op.{Op, Plan}
use Rattle.plan.specs.WellFormed.{well_formed}
use Rattle.semantics.specs.Facts.{facts_op, facts}
use Rattle.semantics.specs.Properties.{Cut, cuts, wanted}
use Rattle.semantics.specs.Check.{check}
use Rattle.semantics.specs.Runs.{Streams, Each, each_nil, each_cons, Run, Sources}
use Rattle.semantics.specs.Holds.{Wanted, Everywhere, nowhere, node, Good}
use Rattle.semantics.proofs.Theorems.Common.Streams.{each_at}
use Rattle.semantics.proofs.Theorems.Sound.Sound.{sound}
use Rattle.stepping.specs.Outlets.{Outlet, on, tally}
use Rattle.stepping.specs.Moves.{moves}
use Rattle.stepping.specs.Stepping.{chosen, unfiltered, start, after, states, work, stepping, waits, finished, delivered, can_step}
use Rattle.stepping.specs.Coming.{cut_from, joined, Ahead, ahead_none, ahead_tree}
use Rattle.stepping.proofs.Theorems.Thinning.{Sub, sub_front, each_pw, Thinner, thin_none, thin_tree, thin_trans, thin_roots}
use Rattle.stepping.proofs.Theorems.Formed.{Steppable}
use Rattle.stepping.proofs.Theorems.Backwards.{Earlier, StepBack, step_back}
use Rattle.stepping.proofs.Theorems.Beginning.{begun}
use Rattle.stepping.proofs.Theorems.Ending.{ended}
use Rattle.stepping.proofs.Theorems.Delivered.{here, chosen_all, formed, rests, root_streams_lem}

-- ---- what waits is the front of what comes
front_joined : (k : Cut) (w : ℕ → List Row) (t : ℕ → ℕ) (n : ℕ) (raw : Streams) → length raw ≡ n → Each Sub (tab n w) (joined k w t raw)
front_joined k w t zero [] e = each_nil
front_joined k w t zero (l ∷ raw) e = absurd (omega arith)
front_joined k w t (suc n) [] e = absurd (omega arith)
front_joined k w t (suc n) (l ∷ raw) e =
    each_cons (sub_front (w zero) (cut_from k (t zero) l)) (front_joined k (λ i. w (suc i)) (λ i. t (suc i)) n raw (omega arith))

waits_thin : {f : Plan} {st : Forest Outlet} {out : Forest Streams} → Ahead f st out → Thinner (waits f st) out
waits_thin ahead_none = thin_none
waits_thin (ahead_tree {o = o} {c = c} {d = d} h a b) =
    thin_tree (subst (Each Sub (tab (facts_op o (facts c)).streams (λ k. on k d.waiting))) (sym h.is)
    (front_joined (cuts o) (λ k. on k d.waiting) (λ k. tally k d.came) (facts_op o (facts c)).streams h.raw h.many)) (waits_thin a) (waits_thin b)

-- ---- all states
record Path (f : Plan) (st : Forest Outlet) (all : List (Forest Outlet)) (out' : Forest Streams) : Type 0 where
  out : Forest Streams
  ahead : Ahead f st out
  same : roots out ≡ roots out'
  seen : All (λ x. Thinner (waits f x) out) all

path : (f : Plan) (bytes : List ℕ) (n i : ℕ) (st : Forest Outlet) → Steppable f → (out' : Forest Streams) → Ahead f (after f bytes n i st) out' →
    Path f st (states f bytes n i st) out'
path f bytes zero i st s out' a = record { out = out'; ahead = a; same = refl; seen = all_cons (waits_thin a) all_nil }
path f bytes (suc n) i st s out' a =
    let m = chosen bytes i st (moves f st) in
    let p = path f bytes n m.next m.value s out' a in
    let e = chosen_all {P = StepBack f st} bytes i st (moves f st) (here f st) (step_back f st s) p.out p.ahead in
    record {
      out = e.out;
      ahead = e.ahead;
      same = e.same ∙ p.same;
      seen = all_cons (waits_thin e.ahead) (all_map (λ x h. thin_trans h e.thin) p.seen);
    }

pub every_state : (f : Plan) (rows : ℕ → ℕ → List Row) (bytes : List ℕ) → well_formed f ≡ true → can_step f ≡ true →
    (out : Forest Streams) × Run (unfiltered rows) 0 0 f out × (roots out ≡ delivered f rows bytes ∷ []) ×
    All (λ x. Thinner (waits f x) out) (stepping f rows bytes)
every_state f rows bytes e j =
    let s = formed f e j in
    let q = rests f rows bytes e j in
    let p = path f bytes (work 0 (start rows 0 f)) 0 (start rows 0 f) s _ (ended s q) in
    (p.out, begun rows 0 0 f p.ahead, p.same ∙ root_streams_lem f rows bytes e j, p.seen)

-- ---- in the order that is wanted
thin_wanted : {f : Plan} {a out : Forest Streams} → Thinner a out → Good f out → Everywhere (λ o c css s. Wanted o css) f a
thin_wanted thin_none nowhere = nowhere
thin_wanted (thin_tree t k l) (node {o = o} g c r) =
    node (λ i. each_pw (each_at {R = Each Sub} [] [] each_nil (thin_roots k) i) (g.1 i)) (thin_wanted k c) (thin_wanted l r)

pub never_out_of_order : (f : Plan) (rows : ℕ → ℕ → List Row) (bytes : List ℕ) → well_formed f ≡ true → can_step f ≡ true → check f ≡ true →
    Sources (unfiltered rows) 0 f → All (λ x. Everywhere (λ o c children own. Wanted o children) f (waits f x)) (stepping f rows bytes)
never_out_of_order f rows bytes e j c d =
    let r = every_state f rows bytes e j in all_map (λ x t. thin_wanted t (sound r.1 d c)) r.3
