-- A row taken from a node's inputs and put to its outlet, in the tables. Assumes nothing.
use Rattle.std.specs.Prelude.{◌≡◌, refl, Bool, true, false, cond, ◌⊎◌, List, [], ◌∷◌, ◌++◌, ℕ, zero, suc, ◌+◌, ◌-◌, ◌<◌, ◌≤◌, eqb, ltb, length, get_or, set}
use Rattle.std.proofs.Common.{sym, ap, ap₂, ◌∙◌, subst, inl, inr, arith, eqb-true, eq-eqb, ne_eqb, lt-ltb, le-ltb, ltb-true, get_or-set_same, get_or-set_other}
use Rattle.std.proofs.Math.Decide.{dec_lt, ℕ_discrete}
use Rattle.std.proofs.lemmas.Bool.{eqb-false}
use Rattle.row_order.specs.Iso.{Row, Key}
use Rattle.row_order.specs.RowLists.{le}
use Rattle.plan.specs.Forest.{Forest, none, tree, roots, size}
use Rattle.plan.specs.Op.{Op, Plan}
use Rattle.semantics.specs.Facts.{Facts, facts_op, facts}
use Rattle.semantics.specs.Properties.{cuts}
use Rattle.stepping.specs.Outlets.{Placed, place, Outlet, tally, keeps, put}
use Rattle.stepping.specs.Moves.{Picked, nobody, picked, least, Taken, taken, left, beside, take_from, take_any}
use Rattle.step_tables.specs.Places.{within, waiting_in, without, taken_out, total, inner, Tables, Shows, shows_none, shows_tree, Once}
use Rattle.step_tables.specs.Shown.{within-true, is_within, Only}
use Rattle.step_tables.specs.Found.{better, first_by, pick_at, least_first}
use Rattle.step_tables.specs.Turns.{one_place}
use Rattle.step_tables.proofs.Moved.{Moved, was, Outside, Apart, apart_own, apart_down, apart_right, counts_past, list_past, list_out, list_in, shows_past}

-- the row found is at one of the places
pub first_within : (ks : List Key) (rows : ℕ → Row) (pl : List ℕ) (g m : ℕ) (l : List ℕ) → first_by ks rows pl g m l < length l →
    within g m (get_or pl (get_or l (first_by ks rows pl g m l) 0) 0) ≡ true
first_within ks rows pl g m [] h = absurd (omega arith)
first_within ks rows pl g m (r ∷ l) h = go (within g m (get_or pl r 0)) refl h (first_within ks rows pl g m l)
  where
    F : ℕ
    F = first_by ks rows pl g m l

    by : (t : Bool) → ltb F (length l) ≡ t → (u : Bool) → within g m (get_or pl r 0) ≡ true → (F < length l → within g m (get_or pl (get_or l F 0) 0) ≡ true) →
        within g m (get_or pl (get_or (r ∷ l) (cond t (cond u 0 (suc F)) 0) 0) 0) ≡ true
    by true e true w i = w
    by true e false w i = i (ltb-true F (length l) e)
    by false e u w i = w

    go : (t : Bool) → within g m (get_or pl r 0) ≡ t → cond t (better ks rows r l F) (suc F) < suc (length l) → (F < length l → within g m (get_or pl (get_or l F 0) 0) ≡ true) →
        within g m (get_or pl (get_or (r ∷ l) (cond t (better ks rows r l F) (suc F)) 0) 0) ≡ true
    go true e k i = by (ltb F (length l)) refl (le ks (rows r) (rows (get_or l F 0))) e i
    go false e k i = i (omega arith)

pick_found : (rows : ℕ → Row) (pl : List ℕ) (a n : ℕ) (l : List ℕ) (i j : ℕ) → i ≡ j → i < length l →
    pick_at rows pl a n l j ≡ picked (place (get_or pl (get_or l i 0) 0 - a) (rows (get_or l i 0))) (waiting_in rows pl a n (without i l))
pick_found rows pl a n l i j e h =
    ap (pick_at rows pl a n l) (sym e)
    ∙ ap (λ (t : Bool). cond t (picked (place (get_or pl (get_or l i 0) 0 - a) (rows (get_or l i 0))) (waiting_in rows pl a n (without i l))) nobody) (lt-ltb i (length l) h)

stream_test : (a k s : ℕ) → eqb s k ≡ within (a + k) 1 (a + s)
stream_test a k s = go (eqb s k) refl ∙ sym (one_place (a + k) (a + s))
  where
    go : (t : Bool) → eqb s k ≡ t → eqb s k ≡ eqb (a + s) (a + k)
    go true e = e ∙ sym (eq-eqb (a + s) (a + k) (omega (arith, eqb-true s k e)))
    go false e = e ∙ sym (ne_eqb (a + s) (a + k) (λ z. eqb-false s k e (omega arith)))

-- The first by keys of input stream k is the row found at its place, and the tables after the move hold the forest without it
pub takes_from : {T T' : Tables} {i g q n a b : ℕ} {f : Plan} {st : Forest Outlet} (ks : List Key) (k : ℕ) → Moved T T' i g q → Shows T n a b f st → k < total (facts f) →
    i ≡ first_by ks T.rows T.places (a + k) 1 T.order → was T i ≡ a + k → Apart a b f g → Apart a b f q → a + total (facts f) ≤ b →
    (st' : Forest Outlet) × (take_from ks (facts f) k st ≡ taken (T.rows (get_or T.order i 0)) st') × Shows T' n a b f st'
takes_from ks k v shows_none l e u y z h = absurd (omega arith)
takes_from {T} {T'} {i} {g} {q} {n} {a} {b} ks k v (shows_tree {o = o} {c = c} {r = r} {d = d} {sc = sc} {sr = sr} w t p s) l e u y z h =
    go (dec_lt k S)
    (λ j. takes_from ks (k - S) v s (omega arith) (e ∙ ap (λ (x : ℕ). first_by ks T.rows T.places x 1 T.order) (there j)) (u ∙ there j)
    (right g y) (right q z) (omega arith))
  where
    S : ℕ
    S = (facts_op o (facts c)).streams

    there : S ≤ k → a + k ≡ a + S + (k - S)
    there j = omega arith

    right : (x : ℕ) → Apart a b (tree o c r) x → Apart (a + S) (b + total (facts c) + inner c) r x
    right x j = record { above = up j.above; under = lo j.under }
      where
        up : Outside a (S + total (facts r)) x → Outside (a + S) (total (facts r)) x
        up (inl b') = inl (omega arith)
        up (inr b') = inr (omega arith)

        lo : Outside b (total (facts c) + (inner c + inner r)) x → Outside (b + total (facts c) + inner c) (inner r) x
        lo (inl b') = inl (omega arith)
        lo (inr b') = inr (omega arith)

    down : (x : ℕ) → Apart a b (tree o c r) x → Apart b (b + total (facts c)) c x
    down x j = record { above = up j.under; under = lo j.under }
      where
        up : Outside b (total (facts c) + (inner c + inner r)) x → Outside b (total (facts c)) x
        up (inl b') = inl b'
        up (inr b') = inr (omega arith)

        lo : Outside b (total (facts c) + (inner c + inner r)) x → Outside (b + total (facts c)) (inner c) x
        lo (inl b') = inl (omega arith)
        lo (inr b') = inr (omega arith)

    own : (x : ℕ) → Apart a b (tree o c r) x → Outside a S x
    own x j = up j.above
      where
        up : Outside a (S + total (facts r)) x → Outside a S x
        up (inl b') = inl b'
        up (inr b') = inr (omega arith)

    came : (x : ℕ) → x < S → get_or T'.counts (a + x) 0 ≡ tally x d.came
    came x j = v.counts_else (a + x) (λ eq. off (own q z) eq) ∙ t x j
      where
        off : Outside a S q → a + x ≡ q → ⊥
        off (inl b') eq = omega arith
        off (inr b') eq = omega arith

    below : Shows T' (suc n) b (b + total (facts c)) c sc
    below = shows_past v p (record { above = inl (omega arith); under = inl (omega arith) }) (down g y) (down q z)

    go : Dec (k < S) →
        (S ≤ k → (sr' : Forest Outlet) × (take_from ks (facts r) (k - S) sr ≡ taken (T.rows (get_or T.order i 0)) sr') × Shows T' (suc n + size c) (a + S) (b + total (facts c) + inner c) r sr') →
        (st' : Forest Outlet) × (take_from ks (facts (tree o c r)) k (tree d sc sr) ≡ taken (T.rows (get_or T.order i 0)) st') × Shows T' n a b (tree o c r) st'
    go (yes j) rec = (
      tree (record { waiting = waiting_in T.rows T.places a S (without i T.order); came = d.came }) sc sr,
      ap (λ (x : Bool). cond x (left d sc sr (least ks (λ s. eqb s k) d.waiting)) (beside d sc (take_from ks (facts r) (k - S) sr))) (lt-ltb k S j)
          ∙ ap (left d sc sr)
          (ap (least ks (λ s. eqb s k)) w
          ∙ least_first ks T.rows T.places (a + k) 1 a S (λ s. eqb s k) (omega arith) (omega arith) (λ x o'. stream_test a k x) T.order
          ∙ pick_found T.rows T.places a S T.order i (first_by ks T.rows T.places (a + k) 1 T.order) e v.far),
      shows_tree (list_out v a S (own g y)) came below
          (shows_past v s (record { above = inl (omega arith); under = inl (omega arith) }) (right g y) (right q z)),
    )
    go (no j) rec =
        let x = rec (omega arith) in (
          tree d sc x.0,
          ap (λ (b' : Bool). cond b' (left d sc sr (least ks (λ s. eqb s k) d.waiting)) (beside d sc (take_from ks (facts r) (k - S) sr))) (le-ltb k S (omega arith))
              ∙ ap (beside d sc) x.1,
          shows_tree (w ∙ list_past v a S (inr (omega arith)) (own g y)) came below x.2,
        )

-- ---- the row comes to its node's outlet
tally-more : (k s : ℕ) (l : List ℕ) → (k ≡ s → ⊥) → tally s (k ∷ l) ≡ tally s l
tally-more k s l h = ap (λ (b : Bool). cond b (suc (tally s l)) (tally s l)) (ne_eqb k s h)

tally-one : (k s : ℕ) (l : List ℕ) → k ≡ s → tally s (k ∷ l) ≡ suc (tally s l)
tally-one k s l h = ap (λ (b : Bool). cond b (suc (tally s l)) (tally s l)) (eq-eqb k s h)

-- kept: it goes to its stream's place; cut: to a place that no node has
pub puts : {T T' : Tables} {i g n a b : ℕ} {o : Op} {c r : Plan} {d : Outlet} {sc sr sc' : Forest Outlet} (k gone : ℕ) (x : Row) → b + inner (tree o c r) ≤ gone → Moved T T' i g (a + k) → Shows T n a b (tree o c r) (tree d sc sr) →
    k < (facts_op o (facts c)).streams → T'.rows (get_or T.order i 0) ≡ x → b ≤ was T i → was T i < b + total (facts c) → a + total (facts (tree o c r)) ≤ b →
    get_or T'.counts (a + k) 0 ≡ suc (get_or T.counts (a + k) 0) →
    g ≡ cond (keeps (cuts o) (get_or T.counts (a + k) 0)) (a + k) gone →
    Shows T' (suc n) b (b + total (facts c)) c sc' → Shows T' n a b (tree o c r) (tree (put (cuts o) k x d) sc' sr)
puts {T} {T'} {i} {g} {n} {a} {b} {o} {c} {r} {d} {sc} {sr} {sc'} k gone x past v (shows_tree w t p s) l e lo hi h cs ge inn =
    shows_tree
    (go (keeps (cuts o) (get_or T.counts (a + k) 0)) refl ge)
    counts
    inn
    (shows_past v s (record { above = inr (omega arith); under = inl (omega arith) }) (away (keeps (cuts o) (get_or T.counts (a + k) 0)) ge)
    (record { above = inl (omega arith); under = inl (omega arith) }))
  where
    S : ℕ
    S = (facts_op o (facts c)).streams

    away : (y : Bool) → g ≡ cond y (a + k) gone → Apart (a + S) (b + total (facts c) + inner c) r g
    away true z = record { above = inl (omega arith); under = inl (omega arith) }
    away false z = record { above = inr (omega arith); under = inr (omega arith) }

    go : (y : Bool) → keeps (cuts o) (get_or T.counts (a + k) 0) ≡ y → g ≡ cond y (a + k) gone →
        cond (keeps (cuts o) (tally k d.came)) (d.waiting ++ (place k x ∷ [])) d.waiting ≡ waiting_in T'.rows T'.places a S T'.order
    go true f z =
        let j : g - a ≡ k = omega arith in
        ap (λ (y : Bool). cond y (d.waiting ++ (place k x ∷ [])) d.waiting) (ap (keeps (cuts o)) (sym (t k l)) ∙ f)
        ∙ ap₂ (λ (q : List Placed) (y : Placed). q ++ (y ∷ [])) w (ap₂ place (sym j) (sym e))
        ∙ list_in v a S (inr (omega arith)) (within-true a S g (omega arith) (omega arith))
    go false f z =
        ap (λ (y : Bool). cond y (d.waiting ++ (place k x ∷ [])) d.waiting) (ap (keeps (cuts o)) (sym (t k l)) ∙ f)
        ∙ w ∙ list_past v a S (inr (omega arith)) (inr (omega arith))

    counts : (y : ℕ) → y < S → get_or T'.counts (a + y) 0 ≡ tally y (k ∷ d.came)
    counts y j = by (ℕ_discrete k y)
      where
        by : Dec (k ≡ y) → get_or T'.counts (a + y) 0 ≡ tally y (k ∷ d.came)
        by (yes z) = ap (λ (u : ℕ). get_or T'.counts (a + u) 0) (sym z) ∙ cs ∙ ap suc (ap (λ (u : ℕ). get_or T.counts (a + u) 0) z ∙ t y j) ∙ sym (tally-one k y d.came z)
        by (no z) = v.counts_else (a + y) (λ u. z (omega arith)) ∙ t y j ∙ sym (tally-more k y d.came z)

-- The first by keys of all streams of the first child: a whole sort's
pub takes_any : {T T' : Tables} {i g q n a b : ℕ} {o : Op} {c r : Plan} {d : Outlet} {sc sr : Forest Outlet} (ks : List Key) → Moved T T' i g q → Shows T n a b (tree o c r) (tree d sc sr) →
    i ≡ first_by ks T.rows T.places a (facts_op o (facts c)).streams T.order → was T i < a + (facts_op o (facts c)).streams →
    Apart a b (tree o c r) g → Apart a b (tree o c r) q → a + total (facts (tree o c r)) ≤ b →
    (st' : Forest Outlet) × (take_any ks (facts (tree o c r)) (tree d sc sr) ≡ taken (T.rows (get_or T.order i 0)) st') × Shows T' n a b (tree o c r) st'
takes_any {T} {T'} {i} {g} {q} {n} {a} {b} {o} {c} {r} {d} {sc} {sr} ks v (shows_tree w t p s) e hi y z h = (
  tree (record { waiting = waiting_in T.rows T.places a S (without i T.order); came = d.came }) sc sr,
  ap (left d sc sr)
      (ap (least ks (λ x. ltb x S)) w
      ∙ least_first ks T.rows T.places a S a S (λ x. ltb x S) (omega arith) (omega arith) (λ x l. lt-ltb x S l ∙ sym (within-true a S (a + x) (omega arith) (omega arith))) T.order
      ∙ pick_found T.rows T.places a S T.order i (first_by ks T.rows T.places a S T.order) e v.far),
  shows_tree (list_out v a S (apart_own a b g o c r y)) (counts_past v a S d (apart_own a b q o c r z) t)
      (shows_past v p (record { above = inl (omega arith); under = inl (omega arith) }) (apart_down a b g o c r y.under) (apart_down a b q o c r z.under))
      (shows_past v s (record { above = inl (omega arith); under = inl (omega arith) }) (apart_right a b g o c r y) (apart_right a b q o c r z)),
)
  where
    S : ℕ
    S = (facts_op o (facts c)).streams
