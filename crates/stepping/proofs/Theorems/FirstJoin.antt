-- "the answer is 256 plus the first such node's number" (02, P3): `first_unstepped` is the number of the first join or aggregate in node order, and
-- `can_step` says that there is none.
-- Definitions: Plan, nodes, size (plan); is_unstepped, can_step, first_unstepped (stepping).
use Rattle.std.specs.Prelude.{◌≡◌, refl, Bool, true, false, cond, not, ◌&&◌, List, [], ◌∷◌, ◌++◌, ℕ, zero, suc, ◌+◌, ◌<◌, ◌≤◌, ltb, length, get_or}
use Rattle.std.proofs.Common.{sym, ap, ap₂, ◌∙◌, inl, arith, ltb-true, ltb-false, length-append}
use Rattle.std.proofs.lemmas.Bool.{not-true}
use Rattle.plan.specs.Forest.{none, tree, nodes, size}
use Rattle.plan.specs.Op.{Op, union, Plan}
use Rattle.plan.specs.WellFormed.{every}
use Rattle.row_order.proofs.Order.{no_bool}
use Rattle.semantics.specs.Facts.{lowest}
use Rattle.semantics.proofs.Theorems.Common.Bools.{and_left, and_right}
use Rattle.semantics.proofs.Theorems.Common.Lowest.{lowest_ok}
use Rattle.stepping.specs.Stepping.{is_unstepped, can_step}
use Rattle.stepping.specs.Answers.{first_unstepped}

-- Whether node number i is a join or an aggregate; no node past the last is
abbrev pub unstepped_at : Plan → ℕ → Bool
unstepped_at f i = is_unstepped (get_or (nodes f) i union)

-- No node of f is a join or an aggregate
abbrev pub NoJoin : Plan → Type 0
NoJoin f = (i : ℕ) → i < size f → unstepped_at f i ≡ false

-- Node number n of f is one, and no earlier node is
pub record FirstJoin (f : Plan) (n : ℕ) : Type 0 where
  pub inside : n < size f
  pub is : unstepped_at f n ≡ true
  pub first : (i : ℕ) → i < n → unstepped_at f i ≡ false

-- ---- the lowest number
before_lowest : (p : ℕ → Bool) (n i : ℕ) → i < lowest p n → p i ≡ false
before_lowest p zero i h = absurd (omega arith)
before_lowest p (suc n) i h = go (p zero) refl i h (λ j l. before_lowest (λ k. p (suc k)) n j l)
  where
    go : (b : Bool) → p zero ≡ b → (i : ℕ) → i < cond b zero (suc (lowest (λ k. p (suc k)) n)) →
        ((j : ℕ) → j < lowest (λ k. p (suc k)) n → p (suc j) ≡ false) → p i ≡ false
    go true e i h ih = absurd (omega arith)
    go false e zero h ih = e
    go false e (suc i) h ih = ih i (omega arith)

lowest_below : (p : ℕ → Bool) (n i : ℕ) → p i ≡ true → lowest p n ≤ i
lowest_below p n i e = go (ltb i (lowest p n)) refl
  where
    go : (b : Bool) → ltb i (lowest p n) ≡ b → lowest p n ≤ i
    go true l = no_bool (sym (before_lowest p n i (ltb-true i (lowest p n) l)) ∙ e)
    go false l = ltb-false i (lowest p n) l

-- ---- a test of all nodes, and of each number
module _ {A : Type 0} (p : A → Bool) (d : A) where
  every_true : (l : List A) → ((i : ℕ) → i < length l → p (get_or l i d) ≡ false) → every (λ x. not (p x)) l ≡ true
  every_true [] h = refl
  every_true (x ∷ l) h = ap₂ ◌&&◌ (ap not (h zero (omega arith))) (every_true l (λ i k. h (suc i) (omega arith)))

  true-every : (l : List A) → every (λ x. not (p x)) l ≡ true → (i : ℕ) → i < length l → p (get_or l i d) ≡ false
  true-every [] e i h = absurd (omega arith)
  true-every (x ∷ l) e zero h = not-true (p x) (and_left (not (p x)) (every (λ x. not (p x)) l) e)
  true-every (x ∷ l) e (suc i) h = true-every l (and_right (not (p x)) (every (λ x. not (p x)) l) e) i (omega arith)

  every_both : (l m : List A) → every (λ x. not (p x)) (l ++ m) ≡ every (λ x. not (p x)) l && every (λ x. not (p x)) m
  every_both [] m = refl
  every_both (x ∷ l) m = ap (λ (b : Bool). not (p x) && b) (every_both l m) ∙ assoc (not (p x)) _ _
    where
      assoc : (a b c : Bool) → a && (b && c) ≡ (a && b) && c
      assoc true b c = refl
      assoc false b c = refl

node_count_lem : (f : Plan) → length (nodes f) ≡ size f
node_count_lem none = refl
node_count_lem (tree o c r) = omega (arith, length-append (nodes c) (nodes r), node_count_lem c, node_count_lem r)

can_every : (f : Plan) → can_step f ≡ every (λ o. not (is_unstepped o)) (nodes f)
can_every none = refl
can_every (tree o c r) =
    ap (λ (b : Bool). not (is_unstepped o) && b) (ap₂ ◌&&◌ (can_every c) (can_every r) ∙ sym (every_both is_unstepped union (nodes c) (nodes r)))

-- ---- `can_step` and the first number
module _ (f : Plan) where
  pub none_steps : NoJoin f → can_step f ≡ true
  none_steps h = can_every f ∙ every_true is_unstepped union (nodes f) (λ i l. h i (omega (arith, node_count_lem f)))

  pub steps_none : can_step f ≡ true → NoJoin f
  steps_none e i l = true-every is_unstepped union (nodes f) (sym (can_every f) ∙ e) i (omega (arith, node_count_lem f))

  pub first_stops : {n : ℕ} → FirstJoin f n → can_step f ≡ false
  first_stops {n} h = go (can_step f) refl
    where
      go : (b : Bool) → can_step f ≡ b → can_step f ≡ false
      go true e = no_bool (sym (steps_none e n h.inside) ∙ h.is)
      go false e = e

  pub stops_first : can_step f ≡ false → FirstJoin f (first_unstepped f)
  stops_first e = go (ltb (first_unstepped f) (size f)) refl
    where
      go : (b : Bool) → ltb (first_unstepped f) (size f) ≡ b → FirstJoin f (first_unstepped f)
      go true t = let l = ltb-true (first_unstepped f) (size f) t in
          record { inside = l; is = lowest_ok (unstepped_at f) (size f) (inl l); first = before_lowest (unstepped_at f) (size f) }
      go false t = no_bool (sym e ∙ none_steps (λ i l. before_lowest (unstepped_at f) (size f) i (omega (arith, ltb-false (first_unstepped f) (size f) t))))

  pub first-is : {n : ℕ} → FirstJoin f n → first_unstepped f ≡ n
  first-is {n} h = go (ltb (first_unstepped f) n) refl
    where
      go : (b : Bool) → ltb (first_unstepped f) n ≡ b → first_unstepped f ≡ n
      go true t = no_bool (sym (h.first (first_unstepped f) (ltb-true (first_unstepped f) n t)) ∙ (stops_first (first_stops h)).is)
      go false t = omega (arith, ltb-false (first_unstepped f) n t, lowest_below (unstepped_at f) (size f) n h.is)
