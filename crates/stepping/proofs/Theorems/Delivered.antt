-- What a finished stepping delivers is a run in document 01's sense: `delivers`. So a plan that passes the order check shows no row out of order
-- in it: `delivered_holds`, `every-input`.
-- Definitions: Plan, well_formed (plan); Env, Run, Sources, Holds, Good, check (semantics); unfiltered, delivered, finished, can_step (Stepping).
use Rattle.std.specs.Prelude.{◌≡◌, refl, Bool, true, false, cond, List, [], ◌∷◌, ◌++◌, map, ℕ, zero, suc, ◌+◌, ◌%◌, ◌≤◌, leb, length, get_or}
use Rattle.std.proofs.Common.{sym, ap, ◌∙◌, subst, arith, eqb-true}
use Rattle.row_order.specs.Iso.{Row}
use Rattle.row_order.specs.Lists.{All, all_nil, all_cons}
use Rattle.row_order.specs.RowLists.{Sorted}
use Rattle.plan.specs.Forest.{Forest, none, tree, roots}
use Rattle.plan.specs.Op.{Op, Plan}
use Rattle.plan.specs.WellFormed.{well_formed}
use Rattle.semantics.specs.Facts.{Facts, nothing, at0, facts}
use Rattle.semantics.specs.Check.{check}
use Rattle.semantics.specs.Runs.{Streams, Env, Run, Sources, in0}
use Rattle.semantics.specs.Holds.{Holds, Good}
use Rattle.semantics.proofs.Theorems.Common.Bools.{and_left, and_right}
use Rattle.semantics.proofs.Theorems.Common.Streams.{all_at}
use Rattle.semantics.proofs.Theorems.Sound.Sound.{sound, good_roots, child_holds}
use Rattle.stepping.specs.Outlets.{Outlet}
use Rattle.stepping.specs.Moves.{States, moves}
use Rattle.stepping.specs.Stepping.{byte_at, Drawn, draw, chosen, unfiltered, start, after, work, finished, waits, root_streams, delivered, can_step}
use Rattle.stepping.specs.Coming.{Ahead}
use Rattle.stepping.proofs.Theorems.Thinning.{thin_refl, thin_trans}
use Rattle.stepping.proofs.Theorems.Formed.{Steppable, steppable}
use Rattle.stepping.proofs.Theorems.Backwards.{Earlier, StepBack, step_back}
use Rattle.stepping.proofs.Theorems.Beginning.{begun}
use Rattle.stepping.proofs.Theorems.Ending.{Rested, rested_none, rested_tree, ends_roots, ended}
use Rattle.stepping.proofs.Theorems.Lessening.{Shaped, start-shaped}
use Rattle.stepping.proofs.Theorems.Progress.{rested_stuck, finishes}

-- ---- all steps, backwards
draw_all : {A : Type 0} {P : A → Type 0} (bytes : List ℕ) (i : ℕ) (d : A) (l : List A) → P d → All P l → P (draw bytes i d l).value
draw_all {A} {P} bytes i d l z h = go (leb (length l) 1)
  where
    go : (b : Bool) →
        P (cond {A = Drawn A} b (record { value = get_or l 0 d; next = i }) (record { value = get_or l (byte_at bytes i % length l) d; next = suc i })).value
    go true = all_at d z h 0
    go false = all_at d z h (byte_at bytes i % length l)

pub chosen_all : {P : Forest Outlet → Type 0} (bytes : List ℕ) (i : ℕ) (st : Forest Outlet) (ms : List (List States)) → P st → All (All (All P)) ms →
    P (chosen bytes i st ms).value
chosen_all {P} bytes i st ms z h =
    let p = draw bytes i [] ms in
    let q = draw bytes p.next [] p.value in
    draw_all {P = P} bytes q.next st q.value z (draw_all {P = All P} bytes p.next [] p.value all_nil
    (draw_all {P = All (All P)} bytes i [] ms all_nil h))

pub here : (f : Plan) (st : Forest Outlet) → StepBack f st st
here f st out a = record { out = out; ahead = a; same = refl; thin = thin_refl out }

then : {f : Plan} {st st' : Forest Outlet} {out'' : Forest Streams} → StepBack f st st' → Earlier f st' out'' → Earlier f st out''
then g e = let d = g e.out e.ahead in record { out = d.out; ahead = d.ahead; same = d.same ∙ e.same; thin = thin_trans e.thin d.thin }

pub steps_back : (f : Plan) (bytes : List ℕ) (n i : ℕ) (st : Forest Outlet) → Steppable f → StepBack f st (after f bytes n i st)
steps_back f bytes zero i st s = here f st
steps_back f bytes (suc n) i st s = λ out a.
    let m = chosen bytes i st (moves f st) in
    then (chosen_all {P = StepBack f st} bytes i st (moves f st) (here f st) (step_back f st s)) (steps_back f bytes n m.next m.value s out a)

-- ---- the run
one_only : (l : List Streams) → length l ≡ 1 → l ≡ get_or l 0 [] ∷ []
one_only [] e = absurd (omega arith)
one_only (x ∷ []) e = refl
one_only (x ∷ y ∷ l) e = absurd (omega arith)

rested_length : {f : Plan} {st : Forest Outlet} → Rested f st → length (root_streams (facts f) (roots st)) ≡ length (roots f)
rested_length rested_none = refl
rested_length (rested_tree h a b) = ap suc (rested_length b)

pub formed : (f : Plan) → well_formed f ≡ true → can_step f ≡ true → Steppable f
formed f e j = steppable f (search (and_left, and_right)) j

-- no row waits at the end
pub rests : (f : Plan) (rows : ℕ → ℕ → List Row) (bytes : List ℕ) → well_formed f ≡ true → can_step f ≡ true → Rested f (finished f rows bytes)
rests f rows bytes e j = finishes f bytes (work 0 (start rows 0 f)) 0 (start rows 0 f) (formed f e j) (start-shaped rows 0 f) (omega arith)

-- and no operator can move: the stepping is finished
pub stops : (f : Plan) (rows : ℕ → ℕ → List Row) (bytes : List ℕ) → well_formed f ≡ true → can_step f ≡ true → moves f (finished f rows bytes) ≡ []
stops f rows bytes e j = rested_stuck (rests f rows bytes e j)

pub root_streams_lem : (f : Plan) (rows : ℕ → ℕ → List Row) (bytes : List ℕ) → well_formed f ≡ true → can_step f ≡ true →
    roots (waits f (finished f rows bytes)) ≡ delivered f rows bytes ∷ []
root_streams_lem f rows bytes e j =
    let q = rests f rows bytes e j in
    ends_roots q ∙ one_only (root_streams (facts f) (roots (finished f rows bytes)))
    (rested_length q ∙ eqb-true (length (roots f)) 1 (search (and_left, and_right)))

pub delivers : (f : Plan) (rows : ℕ → ℕ → List Row) (bytes : List ℕ) → well_formed f ≡ true → can_step f ≡ true →
    (out : Forest Streams) × Run (unfiltered rows) 0 0 f out × (roots out ≡ delivered f rows bytes ∷ [])
delivers f rows bytes e j =
    let s = formed f e j in
    let q = rests f rows bytes e j in
    let b = steps_back f bytes (work 0 (start rows 0 f)) 0 (start rows 0 f) s _ (ended s q) in
    (b.out, begun rows 0 0 f b.ahead, b.same ∙ root_streams_lem f rows bytes e j)

-- ---- a plan that passes the check: the root's facts hold of what is delivered, so it is in the root's known order; and every operator of
-- the run is fed in the orders that it wants
pub passes : (f : Plan) (rows : ℕ → ℕ → List Row) (bytes : List ℕ) → well_formed f ≡ true → can_step f ≡ true → check f ≡ true →
    Sources (unfiltered rows) 0 f → (out : Forest Streams) × Run (unfiltered rows) 0 0 f out × (roots out ≡ delivered f rows bytes ∷ []) × Good f out
passes f rows bytes e j c d = let r = delivers f rows bytes e j in (r.0, r.1, r.2, sound r.1 d c)

pub delivered_holds : (f : Plan) (rows : ℕ → ℕ → List Row) (bytes : List ℕ) → well_formed f ≡ true → can_step f ≡ true → check f ≡ true →
    Sources (unfiltered rows) 0 f → Holds (at0 (facts f)) (delivered f rows bytes)
delivered_holds f rows bytes e j c d =
    let r = passes f rows bytes e j c d in
    subst (λ (l : List Streams). Holds (at0 (facts f)) (in0 l)) r.2 (child_holds (good_roots r.3) 0)
