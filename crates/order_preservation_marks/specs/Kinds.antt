-- The kinds that the walk treats apart, by the tests that the code makes.
use Rattle.std.specs.Prelude.{◌≡◌, refl, Bool, true, false, ◌||◌, List, ℕ, eqb, Option}
use Rattle.std.proofs.Common.{sym, ap, ap₂, ◌∙◌, eqb-true}
use Rattle.row_order.specs.Iso.{Key}
use Rattle.row_order.proofs.Order.{no_bool}
use Rattle.plan.specs.Op.{Op, source, filter, projection, union, repartition, coalesce, sort_op, merge_op, global_limit, local_limit, sort_merge_join, hash_join, output_requirement, partial_sort, aggregate}
use Rattle.plan.specs.Numbers.{code}
use Rattle.plan.specs.WellFormed.{children_ok}
use Rattle.walks.specs.Marks.{another, shape}
use Rattle.semantics.proofs.Theorems.Common.Bools.{or_right}

-- None of the four that are treated apart
abbrev Apart : Op → Type 0
Apart o = (shape o ≡ another) × (eqb (code o) 5 ≡ false) × (eqb (code o) 6 ≡ false) × (eqb (code o) 7 ≡ false) × (eqb (code o) 8 ≡ false)

pub op_ind : (P : Op → Type 0) → ((p : Bool) (ks : List Key) (f : Option ℕ) → P (sort_op p ks f)) → ((ks : List Key) (f : Option ℕ) → P (merge_op ks f))
    → ((p : Bool) (n : ℕ) (h : Bool) (ks : List Key) → P (repartition p n h ks)) → ((f : Option ℕ) → P (coalesce f)) → ((o : Op) → Apart o → P o) → (o : Op)
    → P o
op_ind P s m r c q (source d) = q (source d) (refl, refl, refl, refl, refl)
op_ind P s m r c q filter = q filter (refl, refl, refl, refl, refl)
op_ind P s m r c q (projection cols) = q (projection cols) (refl, refl, refl, refl, refl)
op_ind P s m r c q union = q union (refl, refl, refl, refl, refl)
op_ind P s m r c q (repartition p n h ks) = r p n h ks
op_ind P s m r c q (coalesce f) = c f
op_ind P s m r c q (sort_op p ks f) = s p ks f
op_ind P s m r c q (merge_op ks f) = m ks f
op_ind P s m r c q (global_limit k f note) = q (global_limit k f note) (refl, refl, refl, refl, refl)
op_ind P s m r c q (local_limit f note) = q (local_limit f note) (refl, refl, refl, refl, refl)
op_ind P s m r c q (sort_merge_join t on) = q (sort_merge_join t on) (refl, refl, refl, refl, refl)
op_ind P s m r c q (hash_join t on) = q (hash_join t on) (refl, refl, refl, refl, refl)
op_ind P s m r c q (output_requirement ks d f) = q (output_requirement ks d f) (refl, refl, refl, refl, refl)
op_ind P s m r c q (partial_sort p ks n f) = q (partial_sort p ks n f) (refl, refl, refl, refl, refl)
op_ind P s m r c q (aggregate ks n) = q (aggregate ks n) (refl, refl, refl, refl, refl)

-- One of the four
abbrev pub treated : Op → Bool
treated o = (eqb (code o) 5 || eqb (code o) 6) || (eqb (code o) 7 || eqb (code o) 8)

-- they have one child
pub one_kid_lem : (n : ℕ) (o : Op) → treated o ≡ true → children_ok o n ≡ true → n ≡ 1
one_kid_lem n =
    op_ind (λ o. treated o ≡ true → children_ok o n ≡ true → n ≡ 1) (λ p ks f t e. eqb-true n 1 e) (λ ks f t e. eqb-true n 1 e)
    (λ p k h ks t e. eqb-true n 1 e)
    (λ f t e. eqb-true n 1 e)
    (λ o a t e. no_bool (sym (ap₂ ◌||◌ (ap₂ ◌||◌ a.1 a.2) (ap₂ ◌||◌ a.3 a.4)) ∙ t))

module _ (o : Op) where
  pub treated_5 : eqb (code o) 5 ≡ true → treated o ≡ true
  treated_5 e = ap (λ x. (x || eqb (code o) 6) || (eqb (code o) 7 || eqb (code o) 8)) e

  or_left : (a b : Bool) → a ≡ true → a || b ≡ true
  or_left a b e = ap (λ x. x || b) e

  pub treated_6 : eqb (code o) 6 ≡ true → treated o ≡ true
  treated_6 e = or_left (eqb (code o) 5 || eqb (code o) 6) _ (or_right (eqb (code o) 5) (eqb (code o) 6) e)

  pub treated_7 : eqb (code o) 7 ≡ true → treated o ≡ true
  treated_7 e = or_right (eqb (code o) 5 || eqb (code o) 6) _ (or_left (eqb (code o) 7) (eqb (code o) 8) e)

  pub treated_8 : eqb (code o) 8 ≡ true → treated o ≡ true
  treated_8 e = or_right (eqb (code o) 5 || eqb (code o) 6) _ (or_right (eqb (code o) 7) (eqb (code o) 8) e)
