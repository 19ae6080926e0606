-- The order check passes exactly where each node's wanted orders are met by its children's facts: `check-met`, `met-check`.
use Rattle.std.specs.Prelude.{◌≡◌, refl, true, ◌&&◌, List, [], ◌∷◌, ℕ, zero, suc, get_or}
use Rattle.std.proofs.Common.{ap₂}
use Rattle.row_order.specs.Iso.{Key}
use Rattle.plan.specs.Forest.{none, tree}
use Rattle.plan.specs.Op.{Op, Plan}
use Rattle.semantics.specs.Facts.{Facts, met, nothing, facts}
use Rattle.semantics.specs.Properties.{wanted_orders, wanted}
use Rattle.semantics.specs.Check.{orders_met, wants_met, check, EachMet, met-none, met-tree}
use Rattle.semantics.proofs.Theorems.Common.Bools.{and_left, and_right}

-- ---- one node
each_met : (l : List (List Key)) (F : ℕ → Facts) → orders_met l F ≡ true → (i : ℕ) → met (F i) (get_or l i []) ≡ true
each_met [] F e i = refl
each_met (ks ∷ l) F e zero = and_left (met (F 0) ks) (orders_met l (λ i. F (suc i))) e
each_met (ks ∷ l) F e (suc i) = each_met l (λ j. F (suc j)) (and_right (met (F 0) ks) (orders_met l (λ j. F (suc j))) e) i

pub wants_met_lem : (o : Op) (fs : List Facts) → wants_met o fs ≡ true → (i : ℕ) → met (get_or fs i nothing) (wanted o i) ≡ true
wants_met_lem o fs e i = each_met (wanted_orders o) (λ j. get_or fs j nothing) e i

met_each : (l : List (List Key)) (F : ℕ → Facts) → ((i : ℕ) → met (F i) (get_or l i []) ≡ true) → orders_met l F ≡ true
met_each [] F h = refl
met_each (ks ∷ l) F h = ap₂ ◌&&◌ (h 0) (met_each l (λ i. F (suc i)) (λ i. h (suc i)))

-- ---- every node
pub check-met : (f : Plan) → check f ≡ true → EachMet f
check-met none e = met-none
check-met (tree o c r) e = met-tree (wants_met_lem o (facts c) (search and_left)) (check-met c (search (and_left, and_right)))
    (check-met r (search (and_left, and_right)))

pub met-check : {f : Plan} → EachMet f → check f ≡ true
met-check met-none = refl
met-check (met-tree {o = o} {c = c} h k l) = ap₂ ◌&&◌ (met_each (wanted_orders o) (λ i. get_or (facts c) i nothing) h) (ap₂ ◌&&◌ (met-check k) (met-check l))
