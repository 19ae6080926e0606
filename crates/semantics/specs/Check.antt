-- The order check (01, 'Rows'). These are definitions.
use Rattle.std.specs.Prelude.{◌≡◌, Bool, true, ◌&&◌, List, [], ◌∷◌, ℕ, suc, get_or}
use Rattle.row_order.specs.Iso.{Key}
use Rattle.plan.specs.Forest.{none, tree}
use Rattle.plan.specs.Op.{Op, Plan}
use Rattle.semantics.specs.Facts.{Facts, met, nothing, facts}
use Rattle.semantics.specs.Properties.{wanted_orders, wanted}

-- Each order of a list is met: the first by F 0, the next by F 1, and so on
abbrev pub orders_met : List (List Key) → (ℕ → Facts) → Bool
orders_met [] F = true
orders_met (ks ∷ l) F = met (F 0) ks && orders_met l (λ i. F (suc i))

-- "each node's wanted orders are met by its children's facts"
abbrev pub wants_met : Op → List Facts → Bool
wants_met o fs = orders_met (wanted_orders o) (λ i. get_or fs i nothing)

-- "The order check passes exactly when each node's wanted orders are met by its children's facts"
abbrev pub check : Plan → Bool
check none = true
check (tree o c r) = wants_met o (facts c) && (check c && check r)

-- The same sentence node by node, child by child (CheckIsMet: check-met, met-check)
pub data EachMet : Plan → Type 0 where
  met-none : EachMet none
  met-tree : {o : Op} {c r : Plan} → ((i : ℕ) → met (get_or (facts c) i nothing) (wanted o i) ≡ true) → EachMet c → EachMet r → EachMet (tree o c r)
