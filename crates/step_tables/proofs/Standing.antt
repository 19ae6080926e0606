-- What holds of a node that stands in a forest: what the tables say of it, where its places are, and that a row which moves through it changes
-- nothing else. Assumes nothing.
use Rattle.std.specs.Prelude.{◌≡◌, refl, Bool, true, false, cond, not, ◌⊎◌, List, [], ◌∷◌, ◌++◌, map, ℕ, zero, suc, ◌+◌, ◌-◌, ◌<◌, ◌≤◌, length, get_or}
use Rattle.std.proofs.Common.{sym, ap, ap₂, ◌∙◌, subst, inl, inr, arith}
use Rattle.row_order.specs.Lists.{tab, concat}
use Rattle.plan.specs.Forest.{Forest, none, tree, roots, size}
use Rattle.plan.specs.Op.{Op, Plan}
use Rattle.semantics.specs.Facts.{Facts, is_nil, facts_op, facts}
use Rattle.semantics.specs.Runs.{Streams}
use Rattle.stepping.specs.Outlets.{Outlet, inputs}
use Rattle.stepping.specs.Moves.{manner, opens, choices}
use Rattle.stepping.proofs.Theorems.Formed.{Formed, Steppable, steppable-none, steppable-tree}
use Rattle.step_tables.specs.Places.{total, inner, Tables, Shows, shows_none, shows_tree}
use Rattle.step_tables.specs.Shown.{tab_ext, inputs_are}
use Rattle.step_tables.specs.Choosing.{waits_at, flags_at, any_from, chosen_from}
use Rattle.step_tables.specs.Opened.{Opened, opened_none, opened_tree, opened_roots}
use Rattle.step_tables.specs.Movers.{may_move_lem, movers}
use Rattle.step_tables.proofs.Moved.{Moved, was, Outside, Apart, apart_own, counts_past, list_past, shows_past}
use Rattle.step_tables.proofs.Spots.{Spot, Stands, stands_here, stands_below, stands_beside, put_back, can, numbers_from}

abbrev pub outs_of : Spot → ℕ
outs_of s = (facts_op s.op (facts s.kids)).streams

abbrev pub ins_of : Spot → ℕ
ins_of s = total (facts s.kids)

-- ---- the forest from that node on
pub spot_shows : {T : Tables} {p n a b : ℕ} {f : Plan} {st : Forest Outlet} {s : Spot} → Stands p n a b f st s → Shows T n a b f st →
    Shows T s.number s.out s.inp (tree s.op s.kids s.rest) (tree s.outlet s.sub s.right)
spot_shows stands_here x = x
spot_shows (stands_below h) (shows_tree w t x y) = spot_shows h x
spot_shows (stands_beside h) (shows_tree w t x y) = spot_shows h y

pub spot_formed : {p n a b : ℕ} {f : Plan} {st : Forest Outlet} {s : Spot} → Stands p n a b f st s → Steppable f → Formed s.op (length (roots s.kids))
spot_formed stands_here (steppable-tree m x y) = m
spot_formed (stands_below h) (steppable-tree m x y) = spot_formed h x
spot_formed (stands_beside h) (steppable-tree m x y) = spot_formed h y

pub spot_opened : {fl : List Bool} {p n a b : ℕ} {f : Plan} {st : Forest Outlet} {s : Spot} → Stands p n a b f st s → Opened fl a b f st →
    concat (opens s.kids s.sub) ≡ flags_at fl s.inp (ins_of s)
spot_opened stands_here (opened_tree e x y) = opened_roots x
spot_opened (stands_below h) (opened_tree e x y) = spot_opened h x
spot_opened (stands_beside h) (opened_tree e x y) = spot_opened h y

-- ---- its places
pub record Range (a b : ℕ) (f : Plan) (s : Spot) : Type 0 where
  pub low : b ≤ s.inp
  pub high : s.inp + ins_of s ≤ b + inner f
  pub outs : ((a ≤ s.out) × (s.out + outs_of s ≤ a + total (facts f))) ⊎ ((b ≤ s.out) × (s.out + outs_of s ≤ b + inner f))
  pub before : s.out + outs_of s + total (facts s.rest) ≤ s.inp
  pub end : s.inp + inner (tree s.op s.kids s.rest) ≤ b + inner f

pub range : {p n a b : ℕ} {f : Plan} {st : Forest Outlet} {s : Spot} → Stands p n a b f st s → a + total (facts f) ≤ b → Range a b f s
range stands_here l =
    record { low = omega arith; high = omega arith; outs = inl (omega arith, omega arith); before = omega arith; end = omega arith }
range {a = a} {b = b} {s = s} (stands_below {c = c} {r = r} h) l =
    let x = range h (omega arith) in
    record { low = omega (arith, x.low); high = omega (arith, x.high); outs = inr (out x.outs); before = x.before; end = omega (arith, x.end) }
  where
    out : ((b ≤ s.out) × (s.out + outs_of s ≤ b + total (facts c))) ⊎ ((b + total (facts c) ≤ s.out) × (s.out + outs_of s ≤ b + total (facts c) + inner c)) →
        (b ≤ s.out) × (s.out + outs_of s ≤ b + (total (facts c) + (inner c + inner r)))
    out (inl x) = (x.0, omega (arith, x.1))
    out (inr x) = (omega (arith, x.0), omega (arith, x.1))
range {a = a} {b = b} {s = s} (stands_beside {o = o} {c = c} {r = r} h) l =
    let x = range h (omega arith) in
    record { low = omega (arith, x.low); high = omega (arith, x.high); outs = out x.outs; before = x.before; end = omega (arith, x.end) }
  where
    S : ℕ
    S = (facts_op o (facts c)).streams

    out : ((a + S ≤ s.out) × (s.out + outs_of s ≤ a + S + total (facts r))) ⊎
        ((b + total (facts c) + inner c ≤ s.out) × (s.out + outs_of s ≤ b + total (facts c) + inner c + inner r)) →
        ((a ≤ s.out) × (s.out + outs_of s ≤ a + (S + total (facts r)))) ⊎
        ((b ≤ s.out) × (s.out + outs_of s ≤ b + (total (facts c) + (inner c + inner r))))
    out (inl x) = inl (omega (arith, x.0), omega (arith, x.1))
    out (inr x) = inr (omega (arith, x.0), omega (arith, x.1))

-- ---- a row that moves through it: from x, one of its inputs, to g: one of its outputs, which is q, or past all places
pub record Through (s : Spot) (gone x g q : ℕ) : Type 0 where
  pub from_low : s.inp ≤ x
  pub from_high : x < s.inp + ins_of s
  pub to_low : s.out ≤ q
  pub to_high : q < s.out + outs_of s
  pub where_to : (g ≡ q) ⊎ (gone ≤ g)

pub shows_back : {T T' : Tables} {i g q p n a b : ℕ} {f : Plan} {st : Forest Outlet} {s : Spot} (gone : ℕ) (h : Stands p n a b f st s) → Moved T T' i g q →
    Shows T n a b f st → a + total (facts f) ≤ b → b + inner f ≤ gone → Through s gone (was T i) g q → (x : Forest Outlet) →
    Shows T' s.number s.out s.inp (tree s.op s.kids s.rest) x → Shows T' n a b f (put_back h x)
shows_back gone stands_here v sh l e k x y = y
shows_back {T} {T'} {i} {g} {q} {a = a} {b = b} {s = s} gone (stands_below {o = o} {c = c} {r = r} {d = d} h) v (shows_tree w t m z) l e k x y =
    shows_tree
    (w ∙ list_past v a S (inr (omega (arith, R.low, k.from_low))) (out g k.where_to))
    (counts_past v a S d (inr (omega (arith, q_low))) t)
    (shows_back gone h v m (omega arith) (omega arith) k x y)
    (shows_past v z
    (record { above = inr (omega (arith, R.low, k.from_low)); under = inl (omega (arith, R.high, k.from_high)) })
    (right g k.where_to) (right q (inl refl)))
  where
    S : ℕ
    S = (facts_op o (facts c)).streams

    R : Range b (b + total (facts c)) c s
    R = range h (omega arith)

    q_low : b ≤ q
    q_low = by R.outs
      where
        by : ((b ≤ s.out) × (s.out + outs_of s ≤ b + total (facts c))) ⊎ ((b + total (facts c) ≤ s.out) × (s.out + outs_of s ≤ b + total (facts c) + inner c)) → b ≤ q
        by (inl u) = omega (arith, u.0, k.to_low)
        by (inr u) = omega (arith, u.0, k.to_low)

    q_high : q < b + total (facts c) + inner c
    q_high = by R.outs
      where
        by : ((b ≤ s.out) × (s.out + outs_of s ≤ b + total (facts c))) ⊎ ((b + total (facts c) ≤ s.out) × (s.out + outs_of s ≤ b + total (facts c) + inner c)) →
            q < b + total (facts c) + inner c
        by (inl u) = omega (arith, u.1, k.to_high)
        by (inr u) = omega (arith, u.1, k.to_high)

    out : (y : ℕ) → (y ≡ q) ⊎ (gone ≤ y) → Outside a S y
    out y (inl u) = inr (omega (arith, q_low))
    out y (inr u) = inr (omega arith)

    right : (y : ℕ) → (y ≡ q) ⊎ (gone ≤ y) → Apart (a + S) (b + total (facts c) + inner c) r y
    right y (inl u) = record { above = inr (omega (arith, q_low)); under = inl (omega (arith, q_high)) }
    right y (inr u) = record { above = inr (omega arith); under = inr (omega arith) }
shows_back {T} {T'} {i} {g} {q} {a = a} {b = b} {s = s} gone (stands_beside {o = o} {c = c} {r = r} {d = d} h) v (shows_tree w t m z) l e k x y =
    shows_tree
    (w ∙ list_past v a S (inr (omega (arith, R.low, k.from_low))) (out g k.where_to))
    (counts_past v a S d (out q (inl refl)) t)
    (shows_past v m
    (record { above = inr (omega (arith, R.low, k.from_low)); under = inr (omega (arith, R.low, k.from_low)) })
    (left g k.where_to) (left q (inl refl)))
    (shows_back gone h v z (omega arith) (omega arith) k x y)
  where
    S : ℕ
    S = (facts_op o (facts c)).streams

    R : Range (a + S) (b + total (facts c) + inner c) r s
    R = range h (omega arith)

    -- among the roots' outputs right of it, or behind all of its own forest
    q_is : ((a + S ≤ q) × (q < a + S + total (facts r))) ⊎ (b + total (facts c) + inner c ≤ q)
    q_is = by R.outs
      where
        by : ((a + S ≤ s.out) × (s.out + outs_of s ≤ a + S + total (facts r))) ⊎
            ((b + total (facts c) + inner c ≤ s.out) × (s.out + outs_of s ≤ b + total (facts c) + inner c + inner r)) →
            ((a + S ≤ q) × (q < a + S + total (facts r))) ⊎ (b + total (facts c) + inner c ≤ q)
        by (inl u) = inl (omega (arith, u.0, k.to_low), omega (arith, u.1, k.to_high))
        by (inr u) = inr (omega (arith, u.0, k.to_low))

    out : (y : ℕ) → (y ≡ q) ⊎ (gone ≤ y) → Outside a S y
    out y (inr u) = inr (omega arith)
    out y (inl u) = by q_is
      where
        by : ((a + S ≤ q) × (q < a + S + total (facts r))) ⊎ (b + total (facts c) + inner c ≤ q) → Outside a S y
        by (inl j) = inr (omega (arith, j.0))
        by (inr j) = inr (omega arith)

    left : (y : ℕ) → (y ≡ q) ⊎ (gone ≤ y) → Apart b (b + total (facts c)) c y
    left y (inr u) = record { above = inr (omega arith); under = inr (omega arith) }
    left y (inl u) = by q_is
      where
        by : ((a + S ≤ q) × (q < a + S + total (facts r))) ⊎ (b + total (facts c) + inner c ≤ q) → Apart b (b + total (facts c)) c y
        by (inl j) = record { above = inl (omega (arith, j.1)); under = inl (omega (arith, j.1)) }
        by (inr j) = record { above = inr (omega arith); under = inr (omega arith) }

-- ---- who can move, by the tables
pub can-movers : {T : Tables} {fl : List Bool} {n a b : ℕ} {f : Plan} {st : Forest Outlet} → Shows T n a b f st → Opened fl a b f st →
    can f st ≡ movers fl (waits_at T.places T.order) b f
can-movers shows_none opened_none = refl
can-movers {T} {fl} {n} {a} {b} (shows_tree {o = o} {c = c} w t p q) (opened_tree u oc or) =
    ap₂ ◌∷◌
    (ap₂ (λ (x : List Bool) (y : Streams). not (is_nil (choices (manner o (facts c)) x y))) (opened_roots oc) (inputs_are p)
    ∙ may_move_lem (manner o (facts c)) T.rows fl T.places T.order b (total (facts c)))
    (ap₂ ◌++◌ (can-movers p oc) (can-movers q or))

pub numbers_chosen : (p : ℕ → Bool) (k n : ℕ) → numbers_from k (tab n (λ i. p (k + i))) ≡ chosen_from p k n
numbers_chosen p k zero = refl
numbers_chosen p k (suc n) =
    let z : k + 0 ≡ k = omega arith in
    ap₂ (λ (b : Bool) (l : List ℕ). cond b (k ∷ l) l) (ap p z)
    (ap (numbers_from (suc k)) (tab_ext n (λ i. p (k + suc i)) (λ i. p (suc k + i)) (λ i h. let e : k + suc i ≡ suc k + i = omega arith in ap p e))
    ∙ numbers_chosen p (suc k) n)
