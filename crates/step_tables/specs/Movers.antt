-- Which operators can move, and how many. Assumes nothing.
use Rattle.std.specs.Prelude.{◌≡◌, refl, Bool, true, false, cond, not, ◌&&◌, ◌||◌, List, [], ◌∷◌, ◌++◌, map, ℕ, zero, suc, ◌+◌, ◌-◌, ◌<◌, ◌≤◌, length, get_or}
use Rattle.std.proofs.Common.{sym, ap, ap₂, ◌∙◌, subst, arith, length-append}
use Rattle.std.proofs.lemmas.List.{length-map}
use Rattle.row_order.specs.Iso.{Row, Key}
use Rattle.row_order.specs.RowLists.{le}
use Rattle.row_order.specs.Lists.{tab, concat}
use Rattle.plan.specs.Forest.{Forest, none, tree, roots, size}
use Rattle.plan.specs.Op.{Op, Plan}
use Rattle.semantics.specs.Facts.{Facts, is_nil, facts_op, facts}
use Rattle.semantics.specs.Properties.{any_of}
use Rattle.semantics.specs.Runs.{Streams}
use Rattle.stepping.specs.Outlets.{Placed, Outlet, inputs}
use Rattle.stepping.specs.Moves.{Manner, still, passing, merging, sorting, manner, Picked, nobody, picked, behind, earlier, least, with_rows, heads, of_picked, least_head, ready, once, choices, opens, States, sent, take_by, own_moves, inside, moves}
use Rattle.step_tables.specs.Places.{on_place, total, inner, Tables, Shows, shows_none, shows_tree}
use Rattle.step_tables.specs.Shown.{inputs_are}
use Rattle.step_tables.specs.Choosing.{waits_at, streams_at, flags_at, served_at, any_from, all_from, chosen_from, with_rows_are, any_is, ready_is}
use Rattle.step_tables.specs.Opened.{Opened, opened_none, opened_tree, opened_roots}

-- ---- an operator's test: it has a row, and what it waits for is there
-- w: whether a row waits at a place; some: whether one waits at its inputs, n places from g on
abbrev pub may_move : Manner → List Bool → (ℕ → Bool) → Bool → ℕ → ℕ → Bool
may_move still fl w some g n = false
may_move passing fl w some g n = some
may_move (merging ks) fl w some g n = all_from (served_at fl w) g n && some
may_move (sorting p ks) fl w some g n = not (any_from (λ x. get_or fl x false) g n) && some

some_chosen : (p : ℕ → Bool) (g k n : ℕ) → not (is_nil (chosen_from (λ i. p (g + i)) k n)) ≡ any_from p (g + k) n
some_chosen p g k zero = refl
some_chosen p g k (suc n) = go (p (g + k)) (some_chosen p g (suc k) n ∙ (let e : g + suc k ≡ suc (g + k) = omega arith in ap (λ (x : ℕ). any_from p x n) e))
  where
    go : (b : Bool) → not (is_nil (chosen_from (λ i. p (g + i)) (suc k) n)) ≡ any_from p (suc (g + k)) n →
        not (is_nil (cond b (k ∷ chosen_from (λ i. p (g + i)) (suc k) n) (chosen_from (λ i. p (g + i)) (suc k) n))) ≡ (b || any_from p (suc (g + k)) n)
    go true e = refl
    go false e = e

some_rows : (rows : ℕ → Row) (pl order : List ℕ) (g n : ℕ) → not (is_nil (with_rows 0 (streams_at rows pl order g n))) ≡ any_from (waits_at pl order) g n
some_rows rows pl order g n =
    ap (λ (l : List ℕ). not (is_nil l)) (with_rows_are rows pl order g n) ∙ some_chosen (waits_at pl order) g 0 n
    ∙ (let e : g + 0 ≡ g = omega arith in ap (λ (x : ℕ). any_from (waits_at pl order) x n) e)

earlier_some : (ks : List Key) (x : Placed) (l : List Placed) (q : Picked) → is_nil (of_picked (earlier ks x l q)) ≡ false
earlier_some ks x l nobody = refl
earlier_some ks x l (picked y m) = go (le ks x.row y.row)
  where
    go : (b : Bool) → is_nil (of_picked (cond b (picked x l) (picked y (x ∷ m)))) ≡ false
    go true = refl
    go false = refl

least_some : (ks : List Key) (l : List Placed) → is_nil (of_picked (least ks (λ s. true) l)) ≡ is_nil l
least_some ks [] = refl
least_some ks (x ∷ l) = earlier_some ks x l (least ks (λ s. true) l)

heads_some : (k : ℕ) (ss : Streams) → is_nil (heads k ss) ≡ is_nil (with_rows k ss)
heads_some k [] = refl
heads_some k ([] ∷ ss) = heads_some (suc k) ss
heads_some k ((x ∷ l) ∷ ss) = refl

once_some : (l : List ℕ) → is_nil (once l) ≡ is_nil l
once_some [] = refl
once_some (x ∷ l) = refl

gate : (b : Bool) (l : List ℕ) → not (is_nil (cond b l [])) ≡ b && not (is_nil l)
gate true l = refl
gate false l = refl

gate-not : (b : Bool) (l : List ℕ) → not (is_nil (cond b [] l)) ≡ not b && not (is_nil l)
gate-not true l = refl
gate-not false l = refl

pub may_move_lem : (m : Manner) (rows : ℕ → Row) (fl : List Bool) (pl order : List ℕ) (g n : ℕ) →
    not (is_nil (choices m (flags_at fl g n) (streams_at rows pl order g n))) ≡ may_move m fl (waits_at pl order) (any_from (waits_at pl order) g n) g n
may_move_lem still rows fl pl order g n = refl
may_move_lem passing rows fl pl order g n = some_rows rows pl order g n
may_move_lem (merging ks) rows fl pl order g n =
    gate (ready (flags_at fl g n) (streams_at rows pl order g n)) (least_head ks (streams_at rows pl order g n))
    ∙ ap₂ ◌&&◌ (ready_is rows fl pl order g n)
    (ap not (least_some ks (heads 0 (streams_at rows pl order g n)) ∙ heads_some 0 (streams_at rows pl order g n)) ∙ some_rows rows pl order g n)
may_move_lem (sorting true ks) rows fl pl order g n =
    gate-not (any_of (flags_at fl g n)) (with_rows 0 (streams_at rows pl order g n)) ∙ ap₂ (λ (a b : Bool). not a && b) (any_is fl g n) (some_rows rows pl order g n)
may_move_lem (sorting false ks) rows fl pl order g n =
    gate-not (any_of (flags_at fl g n)) (once (with_rows 0 (streams_at rows pl order g n)))
    ∙ ap₂ (λ (a b : Bool). not a && b) (any_is fl g n) (ap not (once_some (with_rows 0 (streams_at rows pl order g n))) ∙ some_rows rows pl order g n)

-- ---- in node order: who can move, and how many entries `moves` has
abbrev pub movers : List Bool → (ℕ → Bool) → ℕ → Plan → List Bool
movers fl w b none = []
movers fl w b (tree o c r) =
    may_move (manner o (facts c)) fl w (any_from w b (total (facts c))) b (total (facts c)) ∷
    (movers fl w (b + total (facts c)) c ++ movers fl w (b + total (facts c) + inner c) r)

abbrev pub trues : List Bool → ℕ
trues [] = 0
trues (b ∷ l) = cond b (suc (trues l)) (trues l)

trues_append : (l m : List Bool) → trues (l ++ m) ≡ trues l + trues m
trues_append [] m = omega arith
trues_append (true ∷ l) m = omega (arith, trues_append l m)
trues_append (false ∷ l) m = trues_append l m

own_length : (o : Op) (fs : List Facts) (d : Outlet) (c r : Forest Outlet) (can : List ℕ) → length (own_moves o fs d c r can) ≡ cond (not (is_nil can)) 1 0
own_length o fs d c r [] = refl
own_length o fs d c r (i ∷ can) = refl

pub moves_number : {T : Tables} {fl : List Bool} {n a b : ℕ} {f : Plan} {st : Forest Outlet} → Shows T n a b f st → Opened fl a b f st →
    length (moves f st) ≡ trues (movers fl (waits_at T.places T.order) b f)
moves_number shows_none opened_none = refl
moves_number {T} {fl} {n} {a} {b} (shows_tree {o = o} {c = c} {r = r} {d = d} {sc = sc} {sr = sr} y t p q) (opened_tree u oc or) =
    length-append (own_moves o (facts c) d sc sr can) (inside (λ x. tree d x sr) (moves c sc) ++ inside (λ x. tree d sc x) (moves r sr))
    ∙ ap₂ ◌+◌
    (own_length o (facts c) d sc sr can
    ∙ ap (λ (x : Bool). cond x 1 0) (ap₂ (λ (x : List Bool) (y : Streams). not (is_nil (choices (manner o (facts c)) x y))) (opened_roots oc) (inputs_are p)
    ∙ may_move_lem (manner o (facts c)) T.rows fl T.places T.order b (total (facts c))))
    (length-append (inside (λ x. tree d x sr) (moves c sc)) (inside (λ x. tree d sc x) (moves r sr))
    ∙ ap₂ ◌+◌ (length-map (moves c sc) (map (map (λ x. tree d x sr))) ∙ moves_number p oc) (length-map (moves r sr) (map (map (λ x. tree d sc x))) ∙ moves_number q or)
    ∙ sym (trues_append (movers fl w (b + total (facts c)) c) (movers fl w (b + total (facts c) + inner c) r)))
    ∙ add (may_move (manner o (facts c)) fl w (any_from w b (total (facts c))) b (total (facts c)))
    (trues (movers fl w (b + total (facts c)) c ++ movers fl w (b + total (facts c) + inner c) r))
  where
    w : ℕ → Bool
    w = waits_at T.places T.order

    can : List ℕ
    can = choices (manner o (facts c)) (concat (opens c sc)) (inputs (facts c) (roots sc))

    add : (x : Bool) (k : ℕ) → cond x 1 0 + k ≡ cond x (suc k) k
    add true k = omega arith
    add false k = omega arith
