-- What the tables say of a node's inputs, and what a moved row changes. Assumes nothing.
use Rattle.std.specs.Prelude.{◌≡◌, refl, Bool, true, false, cond, ◌&&◌, List, [], ◌∷◌, ◌++◌, ℕ, zero, suc, ◌+◌, ◌-◌, ◌<◌, ◌≤◌, eqb, ltb, leb, length, get_or, set}
use Rattle.std.proofs.Common.{sym, ap, ap₂, ◌∙◌, subst, append_assoc, arith, ltb-true, ltb-false, leb-true, leb-false, eqb-true, eq-eqb, ne_eqb, lt-ltb, le-ltb, le-leb, get_or-set_same, get_or-set_other}
use Rattle.std.proofs.lemmas.Bool.{eqb-false, lt-leb}
use Rattle.row_order.specs.Iso.{Row}
use Rattle.row_order.proofs.Order.{no_bool}
use Rattle.row_order.specs.Lists.{tab}
use Rattle.plan.specs.Forest.{Forest, none, tree, roots, size}
use Rattle.plan.specs.Op.{Op, Plan}
use Rattle.semantics.specs.Facts.{Facts, facts_op, facts}
use Rattle.semantics.specs.Runs.{Streams}
use Rattle.stepping.specs.Outlets.{Placed, place, Outlet, on, by_stream, inputs}
use Rattle.step_tables.specs.Places.{on_place, within, waiting_in, without, taken_out, total, inner, Tables, Shows, shows_none, shows_tree, Absent, Once}

pub within-true : (a m g : ℕ) → a ≤ g → g < a + m → within a m g ≡ true
within-true a m g h l = ap₂ ◌&&◌ (le-leb a g h) (lt-ltb g (a + m) l)

pub within_below : (a m g : ℕ) → g < a → within a m g ≡ false
within_below a m g h = ap (λ (b : Bool). b && ltb g (a + m)) (lt-leb a g h)

and_no : (b : Bool) → b && false ≡ false
and_no true = refl
and_no false = refl

pub within_above : (a m g : ℕ) → a + m ≤ g → within a m g ≡ false
within_above a m g h = ap (λ (b : Bool). leb a g && b) (le-ltb g (a + m) h) ∙ and_no (leb a g)

and_both : (a b : Bool) → a && b ≡ true → (a ≡ true) × (b ≡ true)
and_both true true e = (refl, refl)
and_both true false e = no_bool e
and_both false b e = no_bool e

pub is_within : (a m g : ℕ) → within a m g ≡ true → (a ≤ g) × (g < a + m)
is_within a m g e = let p = and_both (leb a g) (ltb g (a + m)) e in (leb-true a g p.0, ltb-true g (a + m) p.1)

-- ---- a stream's rows are those at its place
pub on_waiting : (rows : ℕ → Row) (pl : List ℕ) (a m k : ℕ) → k < m → (l : List ℕ) → on k (waiting_in rows pl a m l) ≡ on_place rows pl (a + k) l
on_waiting rows pl a m k h [] = refl
on_waiting rows pl a m k h (r ∷ l) = go (within a m (get_or pl r 0)) refl (on_waiting rows pl a m k h l)
  where
    g : ℕ
    g = get_or pl r 0

    same : (t : Bool) → eqb (g - a) k ≡ t → a ≤ g → eqb g (a + k) ≡ t
    same true e i = eq-eqb g (a + k) (omega (arith, eqb-true (g - a) k e))
    same false e i = ne_eqb g (a + k) (λ z. eqb-false (g - a) k e (omega arith))

    go : (t : Bool) → within a m g ≡ t → on k (waiting_in rows pl a m l) ≡ on_place rows pl (a + k) l →
        on k (cond t (place (g - a) (rows r) ∷ waiting_in rows pl a m l) (waiting_in rows pl a m l)) ≡ cond (eqb g (a + k)) (rows r ∷ on_place rows pl (a + k) l) (on_place rows pl (a + k) l)
    go true e i =
        ap₂ (λ (t : Bool) (q : List Row). cond t (rows r ∷ q) q) (sym (same (eqb (g - a) k) refl (is_within a m g e).0)) i
    go false e i =
        i ∙ ap (λ (t : Bool). cond t (rows r ∷ on_place rows pl (a + k) l) (on_place rows pl (a + k) l))
        (sym (ne_eqb g (a + k) (λ z. no_bool (sym e ∙ within-true a m g (omega arith) (omega arith)))))

-- ---- tables
pub tab_ext : {A : Type 0} (n : ℕ) (f g : ℕ → A) → ((k : ℕ) → k < n → f k ≡ g k) → tab n f ≡ tab n g
tab_ext zero f g h = refl
tab_ext (suc n) f g h = ap₂ (λ x l. x ∷ l) (h 0 (omega arith)) (tab_ext n (λ k. f (suc k)) (λ k. g (suc k)) (λ k l. h (suc k) (omega arith)))

pub tab_append : {A : Type 0} (p q : ℕ) (f : ℕ → A) → tab (p + q) f ≡ tab p f ++ tab q (λ k. f (p + k))
tab_append zero q f = let e : 0 + q ≡ q = omega arith in ap (λ (n : ℕ). tab n f) e ∙ tab_ext q f (λ k. f (0 + k)) (λ k h. ap f (omega arith))
tab_append (suc p) q f =
    let e : suc p + q ≡ suc (p + q) = omega arith in
    ap (λ (n : ℕ). tab n f) e ∙
    ap (λ l. f 0 ∷ l) (tab_append p q (λ k. f (suc k)) ∙ ap (λ l. tab p (λ k. f (suc k)) ++ l) (tab_ext q (λ k. f (suc (p + k))) (λ k. f (suc p + k)) (λ k h. ap f (omega arith))))

-- A node's inputs are the places from its children's first on
pub inputs_are : {T : Tables} {n a b : ℕ} {f : Plan} {st : Forest Outlet} → Shows T n a b f st →
    inputs (facts f) (roots st) ≡ tab (total (facts f)) (λ i. on_place T.rows T.places (a + i) T.order)
inputs_are shows_none = refl
inputs_are {T} {n} {a} {b} (shows_tree {o = o} {c = c} {r = r} {d = d} {sr = sr} w t p q) =
    ap₂ ◌++◌
    (tab_ext S _ _ (λ k h. ap (on k) w ∙ on_waiting T.rows T.places a S k h T.order))
    (inputs_are q ∙ tab_ext (total (facts r)) _ _ (λ k h. ap (λ (g : ℕ). on_place T.rows T.places g T.order) (omega arith)))
    ∙ sym (tab_append S (total (facts r)) (λ i. on_place T.rows T.places (a + i) T.order))
  where
    S : ℕ
    S = (facts_op o (facts c)).streams

-- ---- a row that moves: it goes to place g and to the end of the order. x: what it is then

pub append_none : {A : Type 0} (l : List A) → l ++ [] ≡ l
append_none [] = refl
append_none (x ∷ l) = ap (λ q. x ∷ q) (append_none l)

pub waiting_append : (rows : ℕ → Row) (pl : List ℕ) (a m : ℕ) (l l' : List ℕ) → waiting_in rows pl a m (l ++ l') ≡ waiting_in rows pl a m l ++ waiting_in rows pl a m l'
waiting_append rows pl a m [] l' = refl
waiting_append rows pl a m (r ∷ l) l' = go (within a m (get_or pl r 0)) (waiting_append rows pl a m l l')
  where
    go : (t : Bool) → waiting_in rows pl a m (l ++ l') ≡ waiting_in rows pl a m l ++ waiting_in rows pl a m l' →
        cond t (place (get_or pl r 0 - a) (rows r) ∷ waiting_in rows pl a m (l ++ l')) (waiting_in rows pl a m (l ++ l')) ≡
        cond t (place (get_or pl r 0 - a) (rows r) ∷ waiting_in rows pl a m l) (waiting_in rows pl a m l) ++ waiting_in rows pl a m l'
    go true i = ap (λ q. place (get_or pl r 0 - a) (rows r) ∷ q) i
    go false i = i

-- Only row r is changed
pub record Only (r : ℕ) (rows rows' : ℕ → Row) : Type 0 where
  pub same : (q : ℕ) → (q ≡ r → ⊥) → rows' q ≡ rows q

pub waiting_other : (rows rows' : ℕ → Row) (pl : List ℕ) (a m r g : ℕ) (l : List ℕ) → Only r rows rows' → Absent r l → waiting_in rows' (set pl r g) a m l ≡ waiting_in rows pl a m l
waiting_other rows rows' pl a m r g [] o h = refl
waiting_other rows rows' pl a m r g (x ∷ l) o h =
    ap₂ (λ (s : ℕ) (y : Row). cond (within a m s) (place (s - a) y ∷ waiting_in rows' (set pl r g) a m l) (waiting_in rows' (set pl r g) a m l))
    (get_or-set_other pl r x g 0 h.0) (o.same x h.0)
    ∙ ap (λ q. cond (within a m (get_or pl x 0)) (place (get_or pl x 0 - a) (rows x) ∷ q) q) (waiting_other rows rows' pl a m r g l o h.1)

absent_append : (r : ℕ) (l l' : List ℕ) → Absent r l → Absent r l' → Absent r (l ++ l')
absent_append r [] l' h h' = h'
absent_append r (x ∷ l) l' h h' = (h.0, absent_append r l l' h.1 h')

absent_get_or : (x : ℕ) (i : ℕ) (l : List ℕ) → Absent x l → i < length l → get_or l i 0 ≡ x → ⊥
absent_get_or x i [] h b = absurd (omega arith)
absent_get_or x zero (y ∷ l) h b = h.0
absent_get_or x (suc i) (y ∷ l) h b = absent_get_or x i l h.1 (omega arith)

pub once_absent : (i : ℕ) (l : List ℕ) → Once l → i < length l → Absent (get_or l i 0) (without i l)
once_absent i [] h b = absurd (omega arith)
once_absent zero (x ∷ l) h b = h.0
once_absent (suc i) (x ∷ l) h b = (λ e. absent_get_or x i l h.0 (omega arith) (sym e), once_absent i l h.1 (omega arith))

absent_without : (r i : ℕ) (l : List ℕ) → Absent r l → Absent r (without i l)
absent_without r i [] h = tt
absent_without r zero (x ∷ l) h = h.1
absent_without r (suc i) (x ∷ l) h = (h.0, absent_without r i l h.1)

once_without : (i : ℕ) (l : List ℕ) → Once l → Once (without i l)
once_without i [] h = tt
once_without zero (x ∷ l) h = h.1
once_without (suc i) (x ∷ l) h = (absent_without x i l h.0, once_without i l h.1)

once_end : (r : ℕ) (l : List ℕ) → Once l → Absent r l → Once (l ++ (r ∷ []))
once_end r [] h n = (tt, tt)
once_end r (x ∷ l) h n = (absent_append x l (r ∷ []) h.0 (λ e. n.0 (sym e), tt), once_end r l h.1 n.1)

pub once_kept : (i : ℕ) (l : List ℕ) → Once l → i < length l → Once (taken_out i l)
once_kept i l h b = once_end (get_or l i 0) (without i l) (once_without i l h) (once_absent i l h b)

-- What waits elsewhere loses nothing by the row's going
pub without_other : (rows : ℕ → Row) (pl : List ℕ) (a m i : ℕ) (l : List ℕ) → i < length l → within a m (get_or pl (get_or l i 0) 0) ≡ false →
    waiting_in rows pl a m (without i l) ≡ waiting_in rows pl a m l
without_other rows pl a m i [] b e = absurd (omega arith)
without_other rows pl a m zero (x ∷ l) b e = sym (ap (λ (t : Bool). cond t (place (get_or pl x 0 - a) (rows x) ∷ waiting_in rows pl a m l) (waiting_in rows pl a m l)) e)
without_other rows pl a m (suc i) (x ∷ l) b e =
    ap (λ q. cond (within a m (get_or pl x 0)) (place (get_or pl x 0 - a) (rows x) ∷ q) q) (without_other rows pl a m i l (omega arith) e)

module _ (rows rows' : ℕ → Row) (pl order : List ℕ) (i g : ℕ) (o : Only (get_or order i 0) rows rows') (once : Once order) (b : i < length order) (f : get_or order i 0 < length pl) where
  gone : (a m : ℕ) → waiting_in rows' (set pl (get_or order i 0) g) a m (taken_out i order) ≡
      waiting_in rows pl a m (without i order) ++ cond (within a m g) (place (g - a) (rows' (get_or order i 0)) ∷ []) []
  gone a m =
      waiting_append rows' (set pl (get_or order i 0) g) a m (without i order) (get_or order i 0 ∷ [])
      ∙ ap₂ ◌++◌ (waiting_other rows rows' pl a m (get_or order i 0) g (without i order) o (once_absent i order once b))
      (ap (λ (s : ℕ). cond (within a m s) (place (s - a) (rows' (get_or order i 0)) ∷ []) []) (get_or-set_same pl (get_or order i 0) g 0 f))

  -- where it was and does not go
  pub move_out : (a m : ℕ) → within a m g ≡ false → waiting_in rows' (set pl (get_or order i 0) g) a m (taken_out i order) ≡ waiting_in rows pl a m (without i order)
  move_out a m e = gone a m ∙ ap (λ (t : Bool). waiting_in rows pl a m (without i order) ++ cond t (place (g - a) (rows' (get_or order i 0)) ∷ []) []) e ∙ append_none (waiting_in rows pl a m (without i order))

  -- where it was not and goes
  pub move_in : (a m : ℕ) → within a m (get_or pl (get_or order i 0) 0) ≡ false → within a m g ≡ true →
      waiting_in rows' (set pl (get_or order i 0) g) a m (taken_out i order) ≡ waiting_in rows pl a m order ++ (place (g - a) (rows' (get_or order i 0)) ∷ [])
  move_in a m n e =
      gone a m ∙ ap₂ (λ (q : List Placed) (t : Bool). q ++ cond t (place (g - a) (rows' (get_or order i 0)) ∷ []) []) (without_other rows pl a m i order b n) e

  -- elsewhere
  pub move_past : (a m : ℕ) → within a m (get_or pl (get_or order i 0) 0) ≡ false → within a m g ≡ false →
      waiting_in rows' (set pl (get_or order i 0) g) a m (taken_out i order) ≡ waiting_in rows pl a m order
  move_past a m n e = move_out a m e ∙ without_other rows pl a m i order b n
