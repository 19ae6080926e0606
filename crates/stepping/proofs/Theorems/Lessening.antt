-- Every move takes a row nearer to the root, or away: `work` falls. And where an operator has a choice, it takes a row. `moves_lessen`.
use Rattle.std.specs.Prelude.{◌≡◌, refl, Bool, true, false, cond, ◌⊎◌, List, [], ◌∷◌, ◌++◌, map, ℕ, zero, suc, ◌+◌, ◌*◌, ◌-◌, ◌<◌, ◌≤◌, eqb, ltb, length, get_or}
use Rattle.std.proofs.Common.{sym, ap, ap₂, ◌∙◌, subst, inl, inr, append-nil, mul-suc, mul-le-mul_left, arith, eqb-true, eq-eqb, ltb-true, ltb-false, lt-ltb, get_or-append-add, length-append}
use Rattle.std.proofs.lemmas.List.{length-map}
use Rattle.std.proofs.Math.ListN.{get_or-append, get_or-eq_default}
use Rattle.row_order.specs.Iso.{Row, Key}
use Rattle.row_order.proofs.Order.{no_bool}
use Rattle.row_order.specs.Lists.{concat, All, all_nil, all_cons, tab}
use Rattle.row_order.specs.ListLaws.{all_append, all_over, all_map, length-tab, get_or-tab}
use Rattle.plan.specs.Forest.{Forest, none, tree, roots}
use Rattle.plan.specs.Op.{Op, source, filter, projection, union, repartition, coalesce, sort_op, merge_op, global_limit, local_limit, sort_merge_join, hash_join, output_requirement, partial_sort, aggregate, Plan}
use Rattle.semantics.specs.Facts.{Facts, is_nil, facts_op, facts}
use Rattle.semantics.specs.Properties.{cuts, any_of}
use Rattle.semantics.specs.Runs.{Streams, next_s, past}
use Rattle.stepping.specs.Outlets.{Placed, place, Outlet, on, tally, keeps, put, by_stream, inputs}
use Rattle.stepping.specs.Moves.{Manner, still, passing, merging, sorting, manner, Way, straight, gathered, scattered, way, sort_way, outputs, shown, Picked, nobody, picked, least, Taken, nothing_taken, taken, left, beside, take_from, take_any, take_by, opens, with_rows, heads, of_picked, ready, once, choices, States, sent, own_moves, inside, moves}
use Rattle.stepping.specs.Stepping.{start, work}
use Rattle.stepping.proofs.Theorems.Picking.{Best, IsLeast, least_is, removed-length, removed_at, on_all}
use Rattle.stepping.proofs.Theorems.Formed.{Formed, Steppable, steppable-none, steppable-tree}
use Rattle.stepping.proofs.Theorems.Manners.{Lone, lone}

-- ---- an outlet for every node
pub data Shaped : Plan → Forest Outlet → Type 0 where
  shaped-none : Shaped none none
  shaped-tree : {o : Op} {c r : Plan} {d : Outlet} {sc sr : Forest Outlet} → Shaped c sc → Shaped r sr → Shaped (tree o c r) (tree d sc sr)

pub start-shaped : (rows : ℕ → ℕ → List Row) (i : ℕ) (f : Plan) → Shaped f (start rows i f)
start-shaped rows i none = shaped-none
start-shaped rows i (tree o c r) = shaped-tree (start-shaped rows (next_s o i) c) (start-shaped rows (past next_s c (next_s o i)) r)

-- ---- a row taken is one row less to carry, from one operator further
abbrev Lesser : Plan → Forest Outlet → Taken → Type 0
Lesser c sc nothing_taken = Unit {0}
Lesser c sc (taken x sc') = Shaped c sc' × ((k : ℕ) → work k sc ≡ k + work k sc')

left_less : (o : Op) {c r : Plan} (d : Outlet) {sc sr : Forest Outlet} (ks : List Key) (p : ℕ → Bool) → Shaped c sc → Shaped r sr → (q : Picked) →
    IsLeast ks p d.waiting q → Lesser (tree o c r) (tree d sc sr) (left d sc sr q)
left_less o d ks p a b nobody l = tt
left_less o d {sc} {sr} ks p a b (picked x m) l =
    (shaped-tree a b, λ k. omega (arith, ap (λ (n : ℕ). k * n) (removed-length l.removed), mul-suc k (length m)))

beside-less : (o : Op) {c : Plan} (r : Plan) (d : Outlet) {sc : Forest Outlet} (sr : Forest Outlet) → Shaped c sc → (t : Taken) → Lesser r sr t →
    Lesser (tree o c r) (tree d sc sr) (beside d sc t)
beside-less o r d sr a nothing_taken h = tt
beside-less o r d sr a (taken x sr') h = (shaped-tree a h.0, λ k. omega (arith, h.1 k))

from_less : (ks : List Key) {c : Plan} {sc : Forest Outlet} (i : ℕ) → Shaped c sc → Lesser c sc (take_from ks (facts c) i sc)
from_less ks i shaped-none = tt
from_less ks i (shaped-tree {o = o} {c = c} {r = r} {d = d} {sc = sc} {sr = sr} a b) =
    go (ltb i (facts_op o (facts c)).streams) (from_less ks (i - (facts_op o (facts c)).streams) b)
  where
    go : (q : Bool) → Lesser r sr (take_from ks (facts r) (i - (facts_op o (facts c)).streams) sr) → Lesser (tree o c r) (tree d sc sr)
        (cond q (left d sc sr (least ks (λ s. eqb s i) d.waiting)) (beside d sc (take_from ks (facts r) (i - (facts_op o (facts c)).streams) sr)))
    go true h = left_less o d ks (λ s. eqb s i) a b (least ks (λ s. eqb s i) d.waiting) (least_is ks (λ s. eqb s i) d.waiting)
    go false h = beside-less o r d sr a (take_from ks (facts r) (i - (facts_op o (facts c)).streams) sr) h

any-less : (ks : List Key) {c : Plan} {sc : Forest Outlet} → Shaped c sc → Lesser c sc (take_any ks (facts c) sc)
any-less ks shaped-none = tt
any-less ks (shaped-tree {o = o} {c = c} {d = d} a b) =
    left_less o d ks (λ s. ltb s (facts_op o (facts c)).streams) a b (least ks (λ s. ltb s (facts_op o (facts c)).streams) d.waiting)
    (least_is ks (λ s. ltb s (facts_op o (facts c)).streams) d.waiting)

by_less : (m : Manner) {c : Plan} {sc : Forest Outlet} (i : ℕ) → Shaped c sc → Lesser c sc (take_by m (facts c) i sc)
by_less still i a = tt
by_less passing i a = from_less [] i a
by_less (merging ks) i a = from_less [] i a
by_less (sorting true ks) i a = from_less ks i a
by_less (sorting false ks) i a = any-less ks a

-- ---- where a stream has a row, one is taken
abbrev pub Has : Streams → ℕ → Type 0
Has ss i = get_or ss i [] ≡ [] → ⊥

abbrev Found : Taken → Type 0
Found nothing_taken = ⊥
Found (taken x sc) = Unit {0}

pub never_nil : {x : Row} {l : List Row} → x ∷ l ≡ [] → ⊥
never_nil e = let z = ap length e in absurd (omega arith)

pub with_rows_lem : (k : ℕ) (ss : Streams) → All (λ i. (j : ℕ) × (i ≡ k + j) × Has ss j) (with_rows k ss)
with_rows_lem k [] = all_nil
with_rows_lem k ([] ∷ ss) = all_map (λ i h. (suc h.0, omega (arith, h.1), h.2)) (with_rows_lem (suc k) ss)
with_rows_lem k ((x ∷ l) ∷ ss) = all_cons {x = k} (0, omega arith, λ e. never_nil e) (all_map (λ i h. (suc h.0, omega (arith, h.1), h.2)) (with_rows_lem (suc k) ss))

pub head_rows : (k : ℕ) (ss : Streams) → All (λ h. (j : ℕ) × (h.stream ≡ k + j) × Has ss j) (heads k ss)
head_rows k [] = all_nil
head_rows k ([] ∷ ss) = all_map (λ i h. (suc h.0, omega (arith, h.1), h.2)) (head_rows (suc k) ss)
head_rows k ((x ∷ l) ∷ ss) =
    all_cons {x = record { stream = k; row = x }} (0, omega arith, λ e. never_nil e)
    (all_map (λ i h. (suc h.0, omega (arith, h.1), h.2)) (head_rows (suc k) ss))

at_zero : (ss : Streams) (i : ℕ) → (j : ℕ) × (i ≡ 0 + j) × Has ss j → Has ss i
at_zero ss i h = subst (Has ss) (omega (arith, h.1)) h.2

-- no row on the streams asked for
on_none : (i : ℕ) {l : List Placed} → All (λ y. eqb y.stream i ≡ true → ⊥) l → on i l ≡ []
on_none i all_nil = refl
on_none i (all_cons {x = y} {l = l} h hs) = go (eqb y.stream i) refl (on_none i hs)
  where
    go : (b : Bool) → eqb y.stream i ≡ b → on i l ≡ [] → cond b (y.row ∷ on i l) (on i l) ≡ []
    go true e ih = absurd (h e)
    go false e ih = ih

left-found : (d : Outlet) (sc sr : Forest Outlet) (ks : List Key) (p : ℕ → Bool) (i : ℕ) → p i ≡ true → (on i d.waiting ≡ [] → ⊥) → (q : Picked) →
    IsLeast ks p d.waiting q → Found (left d sc sr q)
left-found d sc sr ks p i e h nobody l =
    h (on_none i (all_map (λ y f g. no_bool {A = ⊥} (sym f ∙ ap p (eqb-true y.stream i g) ∙ e)) l))
left-found d sc sr ks p i e h (picked x m) l = tt

beside-found : (d : Outlet) (sc : Forest Outlet) (t : Taken) → Found t → Found (beside d sc t)
beside-found d sc nothing_taken h = h
beside-found d sc (taken x sr) h = tt

from_found : (ks : List Key) {c : Plan} {sc : Forest Outlet} (i : ℕ) → Shaped c sc → Has (inputs (facts c) (roots sc)) i → Found (take_from ks (facts c) i sc)
from_found ks i shaped-none h = h refl
from_found ks i (shaped-tree {o = o} {c = c} {r = r} {d = d} {sc = sc} {sr = sr} a b) h =
    go (ltb i n) refl (λ g. from_found ks (i - n) b g)
  where
    n : ℕ
    n = (facts_op o (facts c)).streams

    own : Streams
    own = by_stream (facts_op o (facts c)).streams d.waiting

    many : length (by_stream (facts_op o (facts c)).streams d.waiting) ≡ (facts_op o (facts c)).streams
    many = length-tab (facts_op o (facts c)).streams (λ k. on k d.waiting)

    go : (q : Bool) → ltb i (facts_op o (facts c)).streams ≡ q → (Has (inputs (facts r) (roots sr)) (i - (facts_op o (facts c)).streams) →
        Found (take_from ks (facts r) (i - (facts_op o (facts c)).streams) sr)) →
        Found (cond q (left d sc sr (least ks (λ s. eqb s i) d.waiting)) (beside d sc (take_from ks (facts r) (i - (facts_op o (facts c)).streams) sr)))
    go true e f =
        let q : i < (facts_op o (facts c)).streams = ltb-true i (facts_op o (facts c)).streams e in
        left-found d sc sr ks (λ s. eqb s i) i (eq-eqb i i refl)
        (λ z. h (get_or-append (by_stream (facts_op o (facts c)).streams d.waiting) (inputs (facts r) (roots sr)) [] i (omega (arith, many))
        ∙ get_or-tab (facts_op o (facts c)).streams (λ k. on k d.waiting) [] i q ∙ z))
        (least ks (λ s. eqb s i) d.waiting) (least_is ks (λ s. eqb s i) d.waiting)
    go false e f =
        let q : (facts_op o (facts c)).streams ≤ i = ltb-false i (facts_op o (facts c)).streams e in
        let p : length (by_stream (facts_op o (facts c)).streams d.waiting) + (i - (facts_op o (facts c)).streams) ≡ i = omega (arith, many) in
        beside-found d sc (take_from ks (facts r) (i - (facts_op o (facts c)).streams) sr)
        (f (λ z. h (ap (λ (k : ℕ). get_or (by_stream (facts_op o (facts c)).streams d.waiting ++ inputs (facts r) (roots sr)) k []) (sym p)
        ∙ get_or-append-add (by_stream (facts_op o (facts c)).streams d.waiting) (inputs (facts r) (roots sr)) (i - (facts_op o (facts c)).streams) [] ∙ z)))

one_has : (c : Plan) (sc : Forest Outlet) (i : ℕ) → Shaped c sc → length (roots c) ≡ 1 → Has (inputs (facts c) (roots sc)) i → (ks : List Key) →
    Found (take_any ks (facts c) sc)
one_has none sc i a e h ks = absurd (omega arith)
one_has (tree o c (tree p c' r)) st i a e h ks = absurd (omega arith)
one_has (tree o c none) none i a e h ks = h refl
one_has (tree o c none) (tree d sc sr) i a e h ks =
    left-found d sc sr ks (λ s. ltb s (facts_op o (facts c)).streams) i (lt-ltb i (facts_op o (facts c)).streams small)
    (λ z. h (ap (λ (ss : Streams). get_or ss i []) (append-nil (by_stream (facts_op o (facts c)).streams d.waiting))
    ∙ get_or-tab (facts_op o (facts c)).streams (λ k. on k d.waiting) [] i small ∙ z))
    (least ks (λ s. ltb s (facts_op o (facts c)).streams) d.waiting) (least_is ks (λ s. ltb s (facts_op o (facts c)).streams) d.waiting)
  where
    small : i < (facts_op o (facts c)).streams
    small = go (ltb i (facts_op o (facts c)).streams) refl
      where
        go : (b : Bool) → ltb i (facts_op o (facts c)).streams ≡ b → i < (facts_op o (facts c)).streams
        go true q = ltb-true i (facts_op o (facts c)).streams q
        go false q = absurd (h (ap (λ (ss : Streams). get_or ss i []) (append-nil (by_stream (facts_op o (facts c)).streams d.waiting))
            ∙ get_or-eq_default (by_stream (facts_op o (facts c)).streams d.waiting) [] {n = i} (omega (
              arith,
              length-tab (facts_op o (facts c)).streams (λ k. on k d.waiting),
              ltb-false i (facts_op o (facts c)).streams q,
            ))))

-- by manners
found : (m : Manner) (c : Plan) (sc : Forest Outlet) → Shaped c sc → Lone m (length (roots c)) → (bs : List Bool) →
    All (λ i. Found (take_by m (facts c) i sc)) (choices m bs (inputs (facts c) (roots sc)))
found still c sc a n bs = all_nil
found passing c sc a n bs = all_map (λ i h. from_found [] i a (at_zero (inputs (facts c) (roots sc)) i h)) (with_rows_lem 0 (inputs (facts c) (roots sc)))
found (merging ks) c sc a n bs = go (ready bs (inputs (facts c) (roots sc)))
    (pick (least ks (λ s. true) (heads 0 (inputs (facts c) (roots sc)))) (least_is ks (λ s. true) (heads 0 (inputs (facts c) (roots sc)))))
  where
    pick : (q : Picked) → IsLeast ks (λ s. true) (heads 0 (inputs (facts c) (roots sc))) q → All (λ i. Found (take_from [] (facts c) i sc)) (of_picked q)
    pick nobody l = all_nil
    pick (picked y m) l =
        all_cons (from_found [] y.stream a (at_zero (inputs (facts c) (roots sc)) y.stream
        (removed_at l.removed (head_rows 0 (inputs (facts c) (roots sc)))))) all_nil

    go : (b : Bool) → All (λ i. Found (take_from [] (facts c) i sc)) (of_picked (least ks (λ s. true) (heads 0 (inputs (facts c) (roots sc))))) →
        All (λ i. Found (take_from [] (facts c) i sc)) (cond b (of_picked (least ks (λ s. true) (heads 0 (inputs (facts c) (roots sc))))) [])
    go true h = h
    go false h = all_nil
found (sorting true ks) c sc a n bs = go (any_of bs)
  where
    go : (b : Bool) → All (λ i. Found (take_from ks (facts c) i sc)) (cond b [] (with_rows 0 (inputs (facts c) (roots sc))))
    go true = all_nil
    go false = all_map (λ i h. from_found ks i a (at_zero (inputs (facts c) (roots sc)) i h)) (with_rows_lem 0 (inputs (facts c) (roots sc)))
found (sorting false ks) c sc a n bs = go (any_of bs)
  where
    any : (l : List ℕ) → All (λ i. (j : ℕ) × (i ≡ 0 + j) × Has (inputs (facts c) (roots sc)) j) l → All (λ i. Found (take_any ks (facts c) sc)) (once l)
    any [] h = all_nil
    any (i ∷ l) (all_cons h hs) = all_cons (one_has c sc i a n (at_zero (inputs (facts c) (roots sc)) i h) ks) all_nil

    go : (b : Bool) → All (λ i. Found (take_any ks (facts c) sc)) (cond b [] (once (with_rows 0 (inputs (facts c) (roots sc)))))
    go true = all_nil
    go false = any (with_rows 0 (inputs (facts c) (roots sc))) (with_rows_lem 0 (inputs (facts c) (roots sc)))

-- ---- moves: none is idle, each leaves less work
abbrev pub Some : {A : Type 0} → (A → Type 0) → List A → Type 0
Some P l = (1 ≤ length l) × All P l

pub record Less (f : Plan) (st st' : Forest Outlet) : Type 0 where
  pub shaped : Shaped f st'
  pub less : (k : ℕ) → work k st' < work k st

some_over : {A B : Type 0} {P : A → Type 0} {Q : B → Type 0} (g : A → B) → ((x : A) → P x → Q (g x)) → {l : List A} → Some P l → Some Q (map g l)
some_over g h {l} s = (omega (arith, s.0, length-map l g), all_over g h s.1)

inside_some : {P Q : Forest Outlet → Type 0} (g : Forest Outlet → Forest Outlet) → ((x : Forest Outlet) → P x → Q (g x)) → {ms : List (List States)} →
    All (Some (Some P)) ms → All (Some (Some Q)) (inside g ms)
inside_some {P} {Q} g h = all_over (map (map g)) (λ l. some_over {P = Some P} {Q = Some Q} (map g) (λ m. some_over {P = P} {Q = Q} g h))

put-length : (b : Bool) (l : List Placed) (p : Placed) → length (cond b (l ++ (p ∷ [])) l) ≤ suc (length l)
put-length true l p = omega (arith, length-append l (p ∷ []))
put-length false l p = omega arith

-- an operator that can move has an output stream
outs : (o : Op) (n : ℕ) (fs : List Facts) (bs : List Bool) (ins : Streams) → Formed o n → (choices (manner o fs) bs ins ≡ []) ⊎ ((i : ℕ) → 1 ≤ length (outputs (way o) i))
outs (source s) n fs bs ins h = inl refl
outs filter n fs bs ins h = inr (λ i. omega arith)
outs (projection cols) n fs bs ins h = inr (λ i. omega arith)
outs union n fs bs ins h = inr (λ i. omega arith)
outs (repartition p m b ks) n fs bs ins h = inr (λ i. omega (arith, h.1, length-tab m (λ k. k)))
outs (coalesce f) n fs bs ins h = inr (λ i. omega arith)
outs (sort_op true ks f) n fs bs ins h = inr (λ i. omega arith)
outs (sort_op false ks f) n fs bs ins h = inr (λ i. omega arith)
outs (merge_op ks f) n fs bs ins h = inr (λ i. omega arith)
outs (global_limit s f note) n fs bs ins h = inr (λ i. omega arith)
outs (local_limit f note) n fs bs ins h = inr (λ i. omega arith)
outs (sort_merge_join t keys) n fs bs ins h = absurd h
outs (hash_join t keys) n fs bs ins h = absurd h
outs (output_requirement ks d f) n fs bs ins h = inr (λ i. omega arith)
outs (partial_sort true ks m f) n fs bs ins h = inr (λ i. omega arith)
outs (partial_sort false ks m f) n fs bs ins h = inr (λ i. omega arith)
outs (aggregate ks m) n fs bs ins h = absurd h

module _ (o : Op) (c r : Plan) (d : Outlet) (sc sr : Forest Outlet) (b : Shaped r sr) where
  sent-less : (i : ℕ) → 1 ≤ length (outputs (way o) i) → (t : Taken) → Found t → Lesser c sc t → Some (Less (tree o c r) (tree d sc sr)) (sent o d sr i t)
  sent-less i n nothing_taken f h = absurd f
  sent-less i n (taken x sc') f h = (
    omega (arith, n, length-map (outputs (way o) i) (λ k. tree (put (cuts o) k (shown o x) d) sc' sr)),
    each (outputs (way o) i),
  )
    where
      each : (l : List ℕ) → All (Less (tree o c r) (tree d sc sr)) (map (λ k. tree (put (cuts o) k (shown o x) d) sc' sr) l)
      each [] = all_nil
      each (k ∷ l) =
          all_cons (record {
            shaped = shaped-tree h.0 b;
            less = λ q. carried q (length (put (cuts o) k (shown o x) d).waiting)
                (put-length (keeps (cuts o) (tally k d.came)) d.waiting (place k (shown o x)));
          }) (each l)
        where
          carried : (q m : ℕ) → m ≤ suc (length d.waiting) → q * m + (work (suc q) sc' + work q sr) < q * length d.waiting + (work (suc q) sc + work q sr)
          carried q m e = omega (arith, h.1 (suc q), mul-suc q (length d.waiting), mul-le-mul_left q e)

  own-less : Formed o (length (roots c)) → Shaped c sc → (bs : List Bool) →
      All (Some (Some (Less (tree o c r) (tree d sc sr)))) (own_moves o (facts c) d sc sr (choices (manner o (facts c)) bs (inputs (facts c) (roots sc))))
  own-less n a bs =
      go (choices (manner o (facts c)) bs (inputs (facts c) (roots sc))) (outs o (length (roots c)) (facts c) bs (inputs (facts c) (roots sc)) n)
      (found (manner o (facts c)) c sc a (lone o (facts c) (length (roots c)) n) bs)
    where
      go : (can : List ℕ) → (can ≡ []) ⊎ ((i : ℕ) → 1 ≤ length (outputs (way o) i)) → All (λ i. Found (take_by (manner o (facts c)) (facts c) i sc)) can →
          All (Some (Some (Less (tree o c r) (tree d sc sr)))) (own_moves o (facts c) d sc sr can)
      go [] h f = all_nil
      go (i ∷ can) (inl e) f = let z = ap length e in absurd (omega arith)
      go (i ∷ can) (inr h) f =
          all_cons (some_over {P = λ j. Found (take_by (manner o (facts c)) (facts c) j sc)} {Q = Some (Less (tree o c r) (tree d sc sr))}
          (λ j. sent o d sr j (take_by (manner o (facts c)) (facts c) j sc))
          (λ j g. sent-less j (h j) (take_by (manner o (facts c)) (facts c) j sc) g (by_less (manner o (facts c)) j a)) (omega arith, f)) all_nil

pub moves_lessen : {f : Plan} {st : Forest Outlet} → Steppable f → Shaped f st → All (Some (Some (Less f st))) (moves f st)
moves_lessen s shaped-none = all_nil
moves_lessen (steppable-tree n s t) (shaped-tree {o = o} {c = c} {r = r} {d = d} {sc = sc} {sr = sr} a b) =
    all_append (own-less o c r d sc sr b n a (concat (opens c sc)))
    (all_append
    (inside_some {P = Less c sc} {Q = Less (tree o c r) (tree d sc sr)} (λ x. tree d x sr)
    (λ x h. record { shaped = shaped-tree h.shaped b; less = λ k. omega (arith, h.less (suc k)) }) (moves_lessen s a))
    (inside_some {P = Less r sr} {Q = Less (tree o c r) (tree d sc sr)} (λ x. tree d sc x)
    (λ x h. record { shaped = shaped-tree a h.shaped; less = λ k. omega (arith, h.less k) }) (moves_lessen t b)))
