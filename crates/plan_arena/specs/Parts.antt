-- The tree of one node, with all that is below it, as a part of a forest.
use Rattle.std.specs.Prelude.{◌⊎◌, ℕ, zero, suc}
use Rattle.std.proofs.Common.{inl, inr, ⊎_elim}
use Rattle.plan.specs.Forest.{Forest, none, tree}
use Rattle.plan_format.specs.Tree.{take_f, drop_f}

module _ {A : Type 0} where
  -- Part t f: t is the tree of one of f's nodes
  pub data Part : Forest A → Forest A → Type 0 where
    here : {a : A} {c r : Forest A} → Part (tree a c none) (tree a c r)
    under : {a : A} {t c r : Forest A} → Part t c → Part t (tree a c r)
    beside : {a : A} {t c r : Forest A} → Part t r → Part t (tree a c r)

  cut : (n : ℕ) {t f : Forest A} → Part t f → Part t (take_f n f) ⊎ Part t (drop_f n f)
  cut zero p = inr p
  cut (suc n) here = inl here
  cut (suc n) (under p) = inl (under p)
  cut (suc n) (beside p) = ⊎_elim (λ q. inl (beside q)) (λ q. inr q) (cut n p)

  -- a new node takes its children from the front of the forest
  pub part_new : (a : A) (n : ℕ) {t f : Forest A} → Part t f → Part t (tree a (take_f n f) (drop_f n f))
  part_new a n p = ⊎_elim under beside (cut n p)
