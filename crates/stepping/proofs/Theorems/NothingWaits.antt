-- While a row waits at an operator, some operator can move: `some_can_move`. When the stepping is finished, no row waits at any operator and none can
-- move (`stops`, of Delivered): the rows that are left are the root's, which are delivered. `nothing_waits`.
use Rattle.std.specs.Prelude.{◌≡◌, refl, Bool, true, cond, List, [], ◌∷◌, ℕ, zero, suc, ◌+◌, ◌≤◌, ◌<◌, length}
use Rattle.std.proofs.Common.{sym, ap, ◌∙◌, arith, eq-eqb}
use Rattle.row_order.specs.Iso.{Row}
use Rattle.row_order.specs.Lists.{All, all_nil, all_cons, tab}
use Rattle.row_order.specs.ListLaws.{all_left, all_right}
use Rattle.plan.specs.Forest.{Forest, none, tree, roots}
use Rattle.plan.specs.Op.{Plan}
use Rattle.plan.specs.WellFormed.{well_formed}
use Rattle.semantics.specs.Facts.{facts_op, facts}
use Rattle.stepping.specs.Outlets.{Placed, Outlet, on, by_stream, inputs}
use Rattle.stepping.specs.Moves.{States, moves}
use Rattle.stepping.specs.Stepping.{chosen, start, after, states, work, finished, stepping, can_step}
use Rattle.stepping.proofs.Theorems.Formed.{Steppable}
use Rattle.stepping.proofs.Theorems.Ending.{Rested, rested_none, rested_tree}
use Rattle.stepping.proofs.Theorems.Lessening.{Shaped, shaped-none, shaped-tree, never_nil}
use Rattle.stepping.proofs.Theorems.Progress.{stuck}
use Rattle.stepping.proofs.Theorems.Delivered.{chosen_all, formed, rests}
use Rattle.stepping.specs.StepCount.{waiting}
use Rattle.stepping.proofs.Theorems.Ranges.{Ranged, ranged_none, ranged_tree, start_ranged, moves_ranged}

-- All rows that wait at operators: those of all outlets but the roots'
abbrev pub at_operators : Forest Outlet → ℕ
at_operators none = 0
at_operators (tree d c r) = waiting c + at_operators r

all_of_tab : {A : Type 0} {P : A → Type 0} (n : ℕ) (f : ℕ → A) → All P (tab n f) → (k : ℕ) → k < n → P (f k)
all_of_tab zero f h k l = absurd (omega arith)
all_of_tab (suc n) f (all_cons h hs) zero l = h
all_of_tab (suc n) f (all_cons h hs) (suc k) l = all_of_tab n (λ i. f (suc i)) hs k (omega arith)

-- a row in an outlet is on one of the node's streams
no_row : (n : ℕ) (l : List Placed) → All (λ p. p.stream < n) l → All (λ m. m ≡ []) (by_stream n l) → length l ≡ 0
no_row n [] h e = refl
no_row n (p ∷ l) (all_cons h hs) e =
    absurd (never_nil (sym (ap (λ (b : Bool). cond b (p.row ∷ on p.stream l) (on p.stream l)) (eq-eqb p.stream p.stream refl))
    ∙ all_of_tab n (λ k. on k (p ∷ l)) e p.stream h))

none_wait : {f : Plan} {st : Forest Outlet} → Ranged f st → Rested f st → All (λ l. l ≡ []) (inputs (facts f) (roots st)) → waiting st ≡ 0
none_wait ranged_none rested_none e = refl
none_wait (ranged_tree {o = o} {c = c} {r = r} {d = d} {sr = sr} h a b) (rested_tree i x y) e =
    let n : ℕ = (facts_op o (facts c)).streams in
    let own = all_left (by_stream n d.waiting) (inputs (facts r) (roots sr)) e in
    let others = all_right (by_stream n d.waiting) (inputs (facts r) (roots sr)) e in
    omega (arith, no_row n d.waiting h own, none_wait a x i, none_wait b y others)

rested_empty : {f : Plan} {st : Forest Outlet} → Ranged f st → Rested f st → at_operators st ≡ 0
rested_empty ranged_none rested_none = refl
rested_empty (ranged_tree h a b) (rested_tree i x y) = omega (arith, none_wait a x i, rested_empty b y)

ranged_shaped : {f : Plan} {st : Forest Outlet} → Ranged f st → Shaped f st
ranged_shaped ranged_none = shaped-none
ranged_shaped (ranged_tree h a b) = shaped-tree (ranged_shaped a) (ranged_shaped b)

-- ---- one state
can_move : {f : Plan} {st : Forest Outlet} → Steppable f → Ranged f st → 0 < at_operators st → 1 ≤ length (moves f st)
can_move {f} {st} s a h = go (moves f st) refl
  where
    go : (ms : List (List States)) → moves f st ≡ ms → 1 ≤ length ms
    go [] e = absurd (omega (arith, rested_empty a (stuck s (ranged_shaped a) e)))
    go (m ∷ ms) e = omega arith

next_ranged : {f : Plan} {st : Forest Outlet} (bytes : List ℕ) (i : ℕ) → Steppable f → Ranged f st → Ranged f (chosen bytes i st (moves f st)).value
next_ranged {f} {st} bytes i s a = chosen_all {P = Ranged f} bytes i st (moves f st) a (moves_ranged s a)

-- ---- all states
states_move : (f : Plan) (bytes : List ℕ) (n i : ℕ) (st : Forest Outlet) → Steppable f → Ranged f st →
    All (λ x. 0 < at_operators x → 1 ≤ length (moves f x)) (states f bytes n i st)
states_move f bytes zero i st s a = all_cons (can_move s a) all_nil
states_move f bytes (suc n) i st s a =
    let m = chosen bytes i st (moves f st) in all_cons (can_move s a) (states_move f bytes n m.next m.value s (next_ranged bytes i s a))

pub some_can_move : (f : Plan) (rows : ℕ → ℕ → List Row) (bytes : List ℕ) → well_formed f ≡ true → can_step f ≡ true →
    All (λ st. 0 < at_operators st → 1 ≤ length (moves f st)) (stepping f rows bytes)
some_can_move f rows bytes e j = states_move f bytes (work 0 (start rows 0 f)) 0 (start rows 0 f) (formed f e j) (start_ranged rows 0 f)

-- ---- the last state
after_ranged : (f : Plan) (bytes : List ℕ) (n i : ℕ) (st : Forest Outlet) → Steppable f → Ranged f st → Ranged f (after f bytes n i st)
after_ranged f bytes zero i st s a = a
after_ranged f bytes (suc n) i st s a =
    let m = chosen bytes i st (moves f st) in after_ranged f bytes n m.next m.value s (next_ranged bytes i s a)

pub nothing_waits : (f : Plan) (rows : ℕ → ℕ → List Row) (bytes : List ℕ) → well_formed f ≡ true → can_step f ≡ true →
    at_operators (finished f rows bytes) ≡ 0
nothing_waits f rows bytes e j =
    rested_empty (after_ranged f bytes (work 0 (start rows 0 f)) 0 (start rows 0 f) (formed f e j) (start_ranged rows 0 f)) (rests f rows bytes e j)
