-- What a node maintains, where its facts are asked. Assumes nothing.
use Rattle.std.specs.Prelude.{◌≡◌, Bool, not, ◌&&◌, List, ℕ, ◌-◌, eqb, length, get_or}
use Rattle.std.proofs.Common.{sym, ap, ap₂, ◌∙◌, arith, eqb-true}
use Rattle.plan.specs.Numbers.{kind_of}
use Rattle.plan.specs.WellFormed.{children_ok}
use Rattle.plan.specs.declared.Kind.TheVariants.{Union, Repartition, Aggregate}
use Rattle.semantics.specs.Facts.{Facts, facts_op, is_nil, keeps_order, known_order, nothing}
use Rattle.semantics.specs.Properties.{maintains}
use Rattle.semantics.proofs.Theorems.Facts.GroupOrders.{maintains_known}
use Rattle.plan_codec.specs.Decode.{decode, from_bytes, operator_of}
use Rattle.maintained_orders.specs.Nodes.{Among}
use Rattle.record_fields.specs.Kinds.{op_of, asked_of}

module _ (r : List ℕ) (fs : List Facts) (j : ℕ) (F G : Facts) (a : Among (decode r) fs j F G) where
  pub union_maintains : kind_of (get_or r 0 0) ≡ Union → (x y : Bool) → x ≡ not (is_nil (known_order F)) → y ≡ eqb (length (known_order G))
      (length (known_order F)) → x && y ≡ maintains (decode r) fs j
  union_maintains e x y p q =
      let f : F ≡ facts_op (operator_of Union (from_bytes r)) fs = a.own ∙ ap (λ o. facts_op o fs) (op_of r Union e) in
      asked_of (λ o. maintains o fs j) r Union e (x && y)
      (ap₂ ◌&&◌ (p ∙ ap (λ H. not (is_nil (known_order H))) f) (q ∙ ap₂ (λ H K. eqb (length (known_order H)) (length (known_order K))) a.child f))

  -- an aggregate maintains exactly if it knows an order
  pub aggregate_maintains : kind_of (get_or r 0 0) ≡ Aggregate → (x : Bool) → x ≡ not (is_nil (known_order F)) → x ≡ maintains (decode r) fs j
  aggregate_maintains e x p =
      let f : F ≡ facts_op (operator_of Aggregate (from_bytes r)) fs = a.own ∙ ap (λ o. facts_op o fs) (op_of r Aggregate e) in
      asked_of (λ o. maintains o fs j) r Aggregate e x (p ∙ ap (λ H. not (is_nil (known_order H))) f
      ∙ sym (maintains_known (from_bytes r).keys ((from_bytes r).width - length (from_bytes r).keys) fs j))

  pub repartition_maintains : kind_of (get_or r 0 0) ≡ Repartition → (x q : Bool) → q ≡ (from_bytes r).preserve → x ≡ keeps_order q G
      → x ≡ maintains (decode r) fs j
  repartition_maintains e x q d h =
      let n : length fs ≡ 1 = eqb-true (length fs) 1 (sym (ap (λ o. children_ok o (length fs)) (op_of r Repartition e)) ∙ a.count) in
      let l = a.low in
      let z : j ≡ 0 = omega arith in
      asked_of (λ o. maintains o fs j) r Repartition e x (h ∙ ap₂ keeps_order d (a.child ∙ ap (λ i. get_or fs i nothing) z))
