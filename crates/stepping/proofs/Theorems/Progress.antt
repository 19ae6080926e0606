-- While a row waits at some operator, some operator can move: `stuck`. So after as many steps as `work` says nothing waits: `finishes`.
use Rattle.std.specs.Prelude.{◌≡◌, refl, Bool, true, false, cond, not, ◌&&◌, ◌||◌, ◌⊎◌, List, [], ◌∷◌, ◌++◌, map, ℕ, zero, suc, ◌+◌, ◌%◌, ◌<◌, ◌≤◌, leb, length, get_or}
use Rattle.std.proofs.Common.{sym, ap, ap₂, ◌∙◌, subst, inl, inr, mod-lt, arith, leb-false}
use Rattle.row_order.specs.Iso.{Row, Key}
use Rattle.row_order.proofs.Order.{no_bool}
use Rattle.row_order.specs.Lists.{concat, All, all_nil, all_cons, tab}
use Rattle.row_order.specs.ListLaws.{all_head}
use Rattle.plan.specs.Forest.{Forest, none, tree, roots}
use Rattle.plan.specs.Op.{Op, source, filter, projection, union, repartition, coalesce, sort_op, merge_op, global_limit, local_limit, sort_merge_join, hash_join, output_requirement, partial_sort, aggregate, Plan}
use Rattle.semantics.specs.Facts.{Facts, is_nil, counts, known_order, at0, facts}
use Rattle.semantics.specs.Properties.{any_of}
use Rattle.semantics.specs.Runs.{Streams}
use Rattle.semantics.proofs.Theorems.Common.Bools.{or_false}
use Rattle.stepping.specs.Outlets.{Placed, Outlet, inputs}
use Rattle.stepping.specs.Moves.{Manner, still, passing, merging, sorting, manner, Way, straight, gathered, scattered, way, reach, live, opens, Picked, nobody, picked, least, with_rows, heads, of_picked, ready, once, choices, States, own_moves, inside, moves}
use Rattle.stepping.specs.Stepping.{byte_at, Drawn, draw, chosen, after, work}
use Rattle.stepping.proofs.Theorems.Picking.{IsLeast, least_is}
use Rattle.stepping.proofs.Theorems.Formed.{Formed, Steppable, steppable-none, steppable-tree}
use Rattle.stepping.proofs.Theorems.Ending.{Rested, rested_none, rested_tree}
use Rattle.stepping.proofs.Theorems.Lessening.{Shaped, shaped-none, shaped-tree, Some, Less, moves_lessen}

-- ---- nothing waits below: no stream is open
any_none : (bs cs : List Bool) → any_of bs ≡ false → any_of cs ≡ false → any_of (bs ++ cs) ≡ false
any_none [] cs p q = q
any_none (true ∷ bs) cs p q = p
any_none (false ∷ bs) cs p q = any_none bs cs p q

live-none : (bs : List Bool) {ss : Streams} → any_of bs ≡ false → All (λ l. l ≡ []) ss → any_of (live bs ss) ≡ false
live-none [] e h = refl
live-none (b ∷ bs) e all_nil = refl
live-none (b ∷ bs) e (all_cons {x = l} {l = ss} z h) =
    let q = or_false b (any_of bs) e in
    ap₂ (λ (x y : Bool). x || y) (ap₂ (λ (x : Bool) (m : List Row). x || not (is_nil m)) q.0 z) (live-none bs q.1 h)

reach-none : (w : Way) (bs : List Bool) → any_of bs ≡ false → any_of (reach w bs) ≡ false
reach-none straight bs e = e
reach-none gathered bs e = ap (λ (b : Bool). b || false) e
reach-none (scattered n) bs e = go n
  where
    go : (n : ℕ) → any_of (tab n (λ k. any_of bs)) ≡ false
    go zero = refl
    go (suc n) = ap₂ (λ (x y : Bool). x || y) e (go n)

all_closed : {f : Plan} {st : Forest Outlet} → Rested f st → any_of (concat (opens f st)) ≡ false
all_closed rested_none = refl
all_closed (rested_tree {o = o} {c = c} {r = r} {sc = sc} {sr = sr} h a b) =
    any_none (reach (way o) (live (concat (opens c sc)) (inputs (facts c) (roots sc)))) (concat (opens r sr))
    (reach-none (way o) (live (concat (opens c sc)) (inputs (facts c) (roots sc))) (live-none (concat (opens c sc)) (all_closed a) h)) (all_closed b)

-- ---- no choice: no row waits
no_cons : {A : Type 0} {B : Type 0} {x : A} {l : List A} → x ∷ l ≡ [] → B
no_cons e = let z = ap length e in absurd (omega arith)

rows_none : (k : ℕ) (ss : Streams) → with_rows k ss ≡ [] → All (λ l. l ≡ []) ss
rows_none k [] e = all_nil
rows_none k ([] ∷ ss) e = all_cons refl (rows_none (suc k) ss e)
rows_none k ((x ∷ l) ∷ ss) e = no_cons e

heads-none : (k : ℕ) (ss : Streams) → All (λ (h : Placed). true ≡ false) (heads k ss) → All (λ l. l ≡ []) ss
heads-none k [] h = all_nil
heads-none k ([] ∷ ss) h = all_cons refl (heads-none (suc k) ss h)
heads-none k ((x ∷ l) ∷ ss) h = no_bool (sym (all_head h))

closed_ready : (bs : List Bool) (ss : Streams) → any_of bs ≡ false → ready bs ss ≡ true
closed_ready [] ss e = refl
closed_ready (b ∷ bs) [] e = refl
closed_ready (true ∷ bs) (l ∷ ss) e = no_bool (sym e)
closed_ready (false ∷ bs) (l ∷ ss) e = closed_ready bs ss e

once-none : (l : List ℕ) → once l ≡ [] → l ≡ []
once-none [] e = refl
once-none (i ∷ l) e = no_cons e

abbrev Active : Manner → Type 0
Active still = ⊥
Active passing = Unit {0}
Active (merging ks) = Unit {0}
Active (sorting p ks) = Unit {0}

choices-none : (m : Manner) (bs : List Bool) (ins : Streams) → Active m → any_of bs ≡ false → choices m bs ins ≡ [] → All (λ l. l ≡ []) ins
choices-none still bs ins a z e = absurd a
choices-none passing bs ins a z e = rows_none 0 ins e
choices-none (merging ks) bs ins a z e =
    go (least ks (λ s. true) (heads 0 ins)) (least_is ks (λ s. true) (heads 0 ins))
    (sym (ap (λ (b : Bool). cond b (of_picked (least ks (λ s. true) (heads 0 ins))) []) (closed_ready bs ins z)) ∙ e)
  where
    go : (q : Picked) → IsLeast ks (λ s. true) (heads 0 ins) q → of_picked q ≡ [] → All (λ l. l ≡ []) ins
    go nobody l f = heads-none 0 ins l
    go (picked x m) l f = no_cons f
choices-none (sorting true ks) bs ins a z e = rows_none 0 ins (sym (ap (λ (b : Bool). cond b [] (with_rows 0 ins)) z) ∙ e)
choices-none (sorting false ks) bs ins a z e =
    rows_none 0 ins (once-none (with_rows 0 ins) (sym (ap (λ (b : Bool). cond b [] (once (with_rows 0 ins))) z) ∙ e))

acts : (o : Op) (fs : List Facts) (n : ℕ) → Formed o n → (n ≡ 0) ⊎ Active (manner o fs)
acts (source s) fs n h = inl h
acts filter fs n h = inr tt
acts (projection cols) fs n h = inr tt
acts union fs n h = inr tt
acts (repartition p m b ks) fs n h = inr (go (counts p (at0 fs)))
  where
    go : (b : Bool) → Active (cond b (merging (known_order (at0 fs))) passing)
    go true = tt
    go false = tt
acts (coalesce f) fs n h = inr tt
acts (sort_op p ks f) fs n h = inr tt
acts (merge_op ks f) fs n h = inr tt
acts (global_limit s f note) fs n h = inr tt
acts (local_limit f note) fs n h = inr tt
acts (sort_merge_join t keys) fs n h = absurd h
acts (hash_join t keys) fs n h = absurd h
acts (output_requirement ks d f) fs n h = inr tt
acts (partial_sort p ks m f) fs n h = inr tt
acts (aggregate ks m) fs n h = absurd h

-- ---- no move
module _ {A : Type 0} where
  none_left : (l m : List A) → l ++ m ≡ [] → l ≡ []
  none_left [] m e = refl
  none_left (x ∷ l) m e = no_cons e

  none_right : (l m : List A) → l ++ m ≡ [] → m ≡ []
  none_right [] m e = e
  none_right (x ∷ l) m e = no_cons e

map-none : {A B : Type 0} (g : A → B) (l : List A) → map g l ≡ [] → l ≡ []
map-none g [] e = refl
map-none g (x ∷ l) e = no_cons e

own-none : (o : Op) (fs : List Facts) (d : Outlet) (c r : Forest Outlet) (can : List ℕ) → own_moves o fs d c r can ≡ [] → can ≡ []
own-none o fs d c r [] e = refl
own-none o fs d c r (i ∷ can) e = no_cons e

no_inputs : {c : Plan} {sc : Forest Outlet} → Shaped c sc → length (roots c) ≡ 0 → All (λ l. l ≡ []) (inputs (facts c) (roots sc))
no_inputs shaped-none e = all_nil
no_inputs (shaped-tree a b) e = absurd (omega arith)

pub stuck : {f : Plan} {st : Forest Outlet} → Steppable f → Shaped f st → moves f st ≡ [] → Rested f st
stuck s shaped-none e = rested_none
stuck (steppable-tree n s t) (shaped-tree {o = o} {c = c} {r = r} {d = d} {sc = sc} {sr = sr} a b) e =
    let can : List ℕ = choices (manner o (facts c)) (concat (opens c sc)) (inputs (facts c) (roots sc)) in
    let own : List (List States) = own_moves o (facts c) d sc sr can in
    let inner : List (List States) = inside (λ x. tree d x sr) (moves c sc) in
    let outer : List (List States) = inside (λ x. tree d sc x) (moves r sr) in
    let q : inner ++ outer ≡ [] = none_right own (inner ++ outer) e in
    let below : Rested c sc = stuck s a (map-none (map (map (λ x. tree d x sr))) (moves c sc) (none_left inner outer q)) in
    let beside : Rested r sr = stuck t b (map-none (map (map (λ x. tree d sc x))) (moves r sr) (none_right inner outer q)) in
    let z : can ≡ [] = own-none o (facts c) d sc sr can (none_left own (inner ++ outer) e) in
    rested_tree (go (acts o (facts c) (length (roots c)) n) (all_closed below) z) below beside
  where
    go : (length (roots c) ≡ 0) ⊎ Active (manner o (facts c)) → any_of (concat (opens c sc)) ≡ false →
        choices (manner o (facts c)) (concat (opens c sc)) (inputs (facts c) (roots sc)) ≡ [] → All (λ l. l ≡ []) (inputs (facts c) (roots sc))
    go (inl e) k z = no_inputs a e
    go (inr h) k z = choices-none (manner o (facts c)) (concat (opens c sc)) (inputs (facts c) (roots sc)) h k z

-- ---- and where no row waits at any operator, none can move
rows_empty : (k : ℕ) {ss : Streams} → All (λ l. l ≡ []) ss → with_rows k ss ≡ []
rows_empty k all_nil = refl
rows_empty k (all_cons {l = ss} e h) = ap (λ (l : List Row). cond (is_nil l) (with_rows (suc k) ss) (k ∷ with_rows (suc k) ss)) e ∙ rows_empty (suc k) h

heads_empty : (k : ℕ) {ss : Streams} → All (λ l. l ≡ []) ss → heads k ss ≡ []
heads_empty k all_nil = refl
heads_empty k (all_cons {l = ss} e h) = ap (λ (l : List Row). heads k (l ∷ ss)) e ∙ heads_empty (suc k) h

either : (b : Bool) → cond {A = List ℕ} b [] [] ≡ []
either true = refl
either false = refl

choices_empty : (m : Manner) (bs : List Bool) {ins : Streams} → All (λ l. l ≡ []) ins → choices m bs ins ≡ []
choices_empty still bs h = refl
choices_empty passing bs h = rows_empty 0 h
choices_empty (merging ks) bs {ins} h =
    ap (λ (l : List Placed). cond (ready bs ins) (of_picked (least ks (λ s. true) l)) []) (heads_empty 0 h) ∙ either (ready bs ins)
choices_empty (sorting true ks) bs h = ap (λ (l : List ℕ). cond (any_of bs) [] l) (rows_empty 0 h) ∙ either (any_of bs)
choices_empty (sorting false ks) bs h = ap (λ (l : List ℕ). cond (any_of bs) [] (once l)) (rows_empty 0 h) ∙ either (any_of bs)

pub rested_stuck : {f : Plan} {st : Forest Outlet} → Rested f st → moves f st ≡ []
rested_stuck rested_none = refl
rested_stuck (rested_tree {o = o} {c = c} {d = d} {sc = sc} {sr = sr} h a b) =
    ap₂ (λ (x y : List (List States)). x ++ y)
    (ap (own_moves o (facts c) d sc sr) (choices_empty (manner o (facts c)) (concat (opens c sc)) h))
    (ap₂ (λ (x y : List (List States)). inside (λ z. tree d z sr) x ++ inside (λ z. tree d sc z) y) (rested_stuck a) (rested_stuck b))

-- ---- draws
at_all : {A : Type 0} {P : A → Type 0} {l : List A} (d : A) (i : ℕ) → i < length l → All P l → P (get_or l i d)
at_all d i h all_nil = absurd (omega arith)
at_all d zero h (all_cons p ps) = p
at_all d (suc i) h (all_cons p ps) = at_all d i (omega arith) ps

pub draw_some : {A : Type 0} {P : A → Type 0} (bytes : List ℕ) (i : ℕ) (d : A) (l : List A) → Some P l → P (draw bytes i d l).value
draw_some {A} {P} bytes i d l h = go (leb (length l) 1) refl
  where
    go : (b : Bool) → leb (length l) 1 ≡ b →
        P (cond {A = Drawn A} b (record { value = get_or l 0 d; next = i }) (record { value = get_or l (byte_at bytes i % length l) d; next = suc i })).value
    go true e = at_all d 0 (omega (arith, h.0)) h.1
    go false e = at_all d (byte_at bytes i % length l) (mod-lt (byte_at bytes i) (omega (arith, h.0))) h.1

pub chosen_some : {P : Forest Outlet → Type 0} (bytes : List ℕ) (i : ℕ) (st : Forest Outlet) (ms : List (List States)) → Some (Some (Some P)) ms →
    P (chosen bytes i st ms).value
chosen_some {P} bytes i st ms h =
    let p = draw bytes i [] ms in
    let q = draw bytes p.next [] p.value in
    draw_some {P = P} bytes q.next st q.value (draw_some {P = Some P} bytes p.next [] p.value (draw_some {P = Some (Some P)} bytes i [] ms h))

-- ---- enough steps
pub stays : (f : Plan) (bytes : List ℕ) (n i : ℕ) (st : Forest Outlet) → moves f st ≡ [] → after f bytes n i st ≡ st
stays f bytes zero i st e = refl
stays f bytes (suc n) i st e =
    ap (λ (ms : List (List States)). after f bytes n (chosen bytes i st ms).next (chosen bytes i st ms).value) e ∙ stays f bytes n i st e

pub finishes : (f : Plan) (bytes : List ℕ) (n i : ℕ) (st : Forest Outlet) → Steppable f → Shaped f st → work 0 st ≤ n → Rested f (after f bytes n i st)
finishes f bytes zero i st s a h = go (moves f st) refl (moves_lessen s a)
  where
    go : (ms : List (List States)) → moves f st ≡ ms → All (Some (Some (Less f st))) ms → Rested f st
    go [] e l = stuck s a e
    go (m ∷ ms) e l = let z : Less f st (chosen bytes i st (m ∷ ms)).value = chosen_some {P = Less f st} bytes i st (m ∷ ms) (omega arith, l) in
        absurd (omega (arith, z.less 0))
finishes f bytes (suc n) i st s a h = go (moves f st) refl (moves_lessen s a) (λ j x b k. finishes f bytes n j x s b k)
  where
    go : (ms : List (List States)) → moves f st ≡ ms → All (Some (Some (Less f st))) ms →
        ((j : ℕ) (x : Forest Outlet) → Shaped f x → work 0 x ≤ n → Rested f (after f bytes n j x)) →
        Rested f (after f bytes n (chosen bytes i st (moves f st)).next (chosen bytes i st (moves f st)).value)
    go [] e l ih = subst (Rested f) (sym (stays f bytes (suc n) i st e)) (stuck s a e)
    go (m ∷ ms) e l ih =
        let z : Less f st (chosen bytes i st (m ∷ ms)).value = chosen_some {P = Less f st} bytes i st (m ∷ ms) (omega arith, l) in
        subst (λ (q : List (List States)). Rested f (after f bytes n (chosen bytes i st q).next (chosen bytes i st q).value)) (sym e)
        (ih (chosen bytes i st (m ∷ ms)).next (chosen bytes i st (m ∷ ms)).value z.shaped (omega (arith, z.less 0)))
