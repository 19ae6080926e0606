-- An aggregate maintains its child exactly if it knows an order: `maintains_known` (02, P1: one known order).
use Rattle.std.specs.Prelude.{◌≡◌, refl, Bool, true, false, cond, not, ◌||◌, List, [], ◌∷◌, ℕ, suc, eqb, ltb, length, get_or}
use Rattle.std.proofs.Common.{sym, ap, ◌∙◌, arith, ltb-true, ltb-false, lt-ltb, le-ltb}
use Rattle.row_order.specs.Iso.{Key}
use Rattle.plan.specs.Op.{aggregate}
use Rattle.plan.specs.WellFormed.{columns_of}
use Rattle.semantics.specs.Facts.{Facts, cl, with_column, lowest, carried, proj_order, is_nil, known_order, at0, facts_op, carried_by, keeps_groups}
use Rattle.semantics.specs.Properties.{maintains}

-- a column that is one of several, or equals one, is carried by one of them
pub carried_by_lem : (F : Facts) (cols : List ℕ) (c : ℕ) → carried_by F cols c ≡ ltb (carried F cols c) (length cols)
carried_by_lem F [] c = refl
carried_by_lem F (d ∷ cols) c =
    ap (λ (r : Bool). eqb (cl F d) (cl F c) || r) (carried_by_lem F cols c) ∙ here (eqb (cl F d) (cl F c)) m (length cols) (ltb m (length cols)) refl
  where
    m : ℕ
    m = lowest (λ i. eqb (cl F (get_or cols i 0)) (cl F c)) (length cols)

    here : (b : Bool) (i n : ℕ) (r : Bool) → ltb i n ≡ r → (b || r) ≡ ltb (cond b 0 (suc i)) (suc n)
    here true i n r e = sym (lt-ltb 0 (suc n) (omega arith))
    here false i n true e = sym (lt-ltb (suc i) (suc n) (omega (arith, ltb-true i n e)))
    here false i n false e = sym (le-ltb (suc i) (suc n) (omega (arith, ltb-false i n e)))

-- the first key goes over exactly if it is a group column or equals one
keeps_known : (F : Facts) (ks known : List Key) → keeps_groups F ks known ≡ not (is_nil (proj_order F (columns_of ks) known))
keeps_known F ks [] = refl
keeps_known F ks (k ∷ known) = carried_by_lem F (columns_of ks) k.col ∙ go (ltb (carried F (columns_of ks) k.col) (length (columns_of ks)))
  where
    go : (b : Bool) → b ≡ not (is_nil (cond b (with_column (carried F (columns_of ks) k.col) k ∷ proj_order F (columns_of ks) known) []))
    go true = refl
    go false = refl

pub maintains_known : (ks : List Key) (n : ℕ) (fs : List Facts) (i : ℕ) →
    maintains (aggregate ks n) fs i ≡ not (is_nil (known_order (facts_op (aggregate ks n) fs)))
maintains_known ks n fs i = keeps_known (at0 fs) ks (known_order (at0 fs))
