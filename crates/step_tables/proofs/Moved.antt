-- A row moved: the tables after it hold the state without it below, and all other nodes see nothing. Assumes nothing.
use Rattle.std.specs.Prelude.{◌≡◌, refl, Bool, true, false, cond, ◌⊎◌, List, [], ◌∷◌, ◌++◌, ℕ, zero, suc, ◌+◌, ◌-◌, ◌<◌, ◌≤◌, eqb, ltb, length, get_or, set}
use Rattle.std.proofs.Common.{sym, ap, ap₂, ◌∙◌, subst, inl, inr, arith, eqb-true, eq-eqb, ne_eqb, lt-ltb, le-ltb}
use Rattle.std.proofs.Math.Decide.{dec_lt}
use Rattle.std.proofs.lemmas.Bool.{eqb-false}
use Rattle.row_order.specs.Iso.{Row, Key}
use Rattle.plan.specs.Forest.{Forest, none, tree, roots, size}
use Rattle.plan.specs.Op.{Op, Plan}
use Rattle.semantics.specs.Facts.{Facts, facts_op, facts}
use Rattle.stepping.specs.Outlets.{Placed, place, Outlet, tally}
use Rattle.stepping.specs.Moves.{Picked, picked, least, Taken, taken, left, beside, take_from}
use Rattle.step_tables.specs.Places.{within, waiting_in, without, taken_out, total, inner, Tables, Shows, shows_none, shows_tree, Once}
use Rattle.step_tables.specs.Shown.{within_below, within_above, Only, move_out, move_in, move_past}
use Rattle.step_tables.specs.Found.{first_by, pick_at, least_first}
use Rattle.step_tables.specs.Turns.{one_place}

-- Row number i of the order goes to place g; the place q counts one row more (q is g, but for a row that is cut)
pub record Moved (T T' : Tables) (i g q : ℕ) : Type 0 where
  pub only : Only (get_or T.order i 0) T.rows T'.rows
  pub once : Once T.order
  pub far : i < length T.order
  pub has : get_or T.order i 0 < length T.places
  pub places_are : T'.places ≡ set T.places (get_or T.order i 0) g
  pub order_is : T'.order ≡ taken_out i T.order
  pub counts_else : (x : ℕ) → (x ≡ q → ⊥) → get_or T'.counts x 0 ≡ get_or T.counts x 0

-- where the row was
abbrev pub was : Tables → ℕ → ℕ
was T i = get_or T.places (get_or T.order i 0) 0

abbrev pub Outside : ℕ → ℕ → ℕ → Type 0
Outside lo m x = (x < lo) ⊎ (lo + m ≤ x)

outside_not : (lo m x : ℕ) → Outside lo m x → within lo m x ≡ false
outside_not lo m x (inl h) = within_below lo m x h
outside_not lo m x (inr h) = within_above lo m x h

outside_ne : (lo m x s : ℕ) → Outside lo m x → s < m → lo + s ≡ x → ⊥
outside_ne lo m x s (inl h) l e = omega arith
outside_ne lo m x s (inr h) l e = omega arith

-- a part of what is outside
part_out : (lo m lo' m' x : ℕ) → lo ≤ lo' → lo' + m' ≤ lo + m → Outside lo m x → Outside lo' m' x
part_out lo m lo' m' x h k (inl l) = inl (omega arith)
part_out lo m lo' m' x h k (inr l) = inr (omega arith)

module _ {T T' : Tables} {i g q : ℕ} (v : Moved T T' i g q) where
  moved_list : (a m : ℕ) → waiting_in T'.rows T'.places a m T'.order ≡ waiting_in T'.rows (set T.places (get_or T.order i 0) g) a m (taken_out i T.order)
  moved_list a m = ap₂ (λ (p l : List ℕ). waiting_in T'.rows p a m l) v.places_are v.order_is

  pub list_past : (a m : ℕ) → Outside a m (was T i) → Outside a m g → waiting_in T.rows T.places a m T.order ≡ waiting_in T'.rows T'.places a m T'.order
  list_past a m h k =
      sym (moved_list a m ∙ move_past T.rows T'.rows T.places T.order i g v.only v.once v.far v.has a m (outside_not a m (was T i) h) (outside_not a m g k))

  pub list_out : (a m : ℕ) → Outside a m g → waiting_in T.rows T.places a m (without i T.order) ≡ waiting_in T'.rows T'.places a m T'.order
  list_out a m k = sym (moved_list a m ∙ move_out T.rows T'.rows T.places T.order i g v.only v.once v.far v.has a m (outside_not a m g k))

  pub list_in : (a m : ℕ) → Outside a m (was T i) → within a m g ≡ true →
      waiting_in T.rows T.places a m T.order ++ (place (g - a) (T'.rows (get_or T.order i 0)) ∷ []) ≡ waiting_in T'.rows T'.places a m T'.order
  list_in a m h k = sym (moved_list a m ∙ move_in T.rows T'.rows T.places T.order i g v.only v.once v.far v.has a m (outside_not a m (was T i) h) k)

  pub counts_past : (a m : ℕ) (d : Outlet) → Outside a m q → ((s : ℕ) → s < m → get_or T.counts (a + s) 0 ≡ tally s d.came) →
      (s : ℕ) → s < m → get_or T'.counts (a + s) 0 ≡ tally s d.came
  counts_past a m d o h s l = v.counts_else (a + s) (outside_ne a m q s o l) ∙ h s l

-- A forest in which the row neither was nor comes
pub record Apart (a b : ℕ) (f : Plan) (x : ℕ) : Type 0 where
  pub above : Outside a (total (facts f)) x
  pub under : Outside b (inner f) x

pub apart_own : (a b x : ℕ) (o : Op) (c r : Plan) → Apart a b (tree o c r) x → Outside a (facts_op o (facts c)).streams x
apart_own a b x o c r h = part_out a (total (facts (tree o c r))) a (facts_op o (facts c)).streams x (omega arith) (omega arith) h.above

pub apart_down : (a b x : ℕ) (o : Op) (c r : Plan) → Outside b (inner (tree o c r)) x → Apart b (b + total (facts c)) c x
apart_down a b x o c r h =
    record {
      above = part_out b (inner (tree o c r)) b (total (facts c)) x (omega arith) (omega arith) h;
      under = part_out b (inner (tree o c r)) (b + total (facts c)) (inner c) x (omega arith) (omega arith) h;
    }

pub apart_right : (a b x : ℕ) (o : Op) (c r : Plan) → Apart a b (tree o c r) x → Apart (a + (facts_op o (facts c)).streams) (b + total (facts c) + inner c) r x
apart_right a b x o c r h =
    record {
      above = part_out a (total (facts (tree o c r))) (a + (facts_op o (facts c)).streams) (total (facts r)) x (omega arith) (omega arith) h.above;
      under = part_out b (inner (tree o c r)) (b + total (facts c) + inner c) (inner r) x (omega arith) (omega arith) h.under;
    }

pub shows_past : {T T' : Tables} {i g q n a b : ℕ} {f : Plan} {st : Forest Outlet} → Moved T T' i g q → Shows T n a b f st →
    Apart a b f (was T i) → Apart a b f g → Apart a b f q → Shows T' n a b f st
shows_past v shows_none x y z = shows_none
shows_past {T} {T'} {i} {g} {q} {n} {a} {b} v (shows_tree {o = o} {c = c} {r = r} {d = d} w t p s) x y z =
    shows_tree
    (w ∙ list_past v a (facts_op o (facts c)).streams (apart_own a b (was T i) o c r x) (apart_own a b g o c r y))
    (counts_past v a (facts_op o (facts c)).streams d (apart_own a b q o c r z) t)
    (shows_past v p (apart_down a b (was T i) o c r x.under) (apart_down a b g o c r y.under) (apart_down a b q o c r z.under))
    (shows_past v s (apart_right a b (was T i) o c r x) (apart_right a b g o c r y) (apart_right a b q o c r z))
