-- Equal partitionings. Assumes nothing.
use Rattle.std.specs.Prelude.{◌≡◌, refl, Bool, true, false, ◌&&◌, List, ℕ, eqb, get_or}
use Rattle.std.proofs.Common.{sym, ap, ap₂, ◌∙◌, eq-eqb, ne_eqb}
use Rattle.std.specs.Bool.{beq}
use Rattle.row_order.proofs.Order.{no_bool}
use Rattle.plan.specs.Numbers.{code, kind_number, kind_of}
use Rattle.plan.specs.declared.Kind.{Kind}
use Rattle.plan.specs.declared.Kind.TheVariants.{Source, Filter, Projection, Union, Repartition, Coalesce, Sort, Merge, GlobalLimit, LocalLimit, SortMergeJoin, HashJoin, OutputRequirement, PartialSort, Aggregate}
use Rattle.semantics.specs.Facts.{nothing}
use Rattle.plan_codec.specs.NodeRecord.{NodeRecord}
use Rattle.plan_codec.specs.Decode.{decode, from_bytes, operator_of}
use Rattle.walks.specs.Marks.{shape}
use Rattle.walks.specs.ParallelizeSorts.{Partitioning, unequal, parted, partitioning, eq_partitioning, eq_keys, same_partitioning}
use Rattle.record_fields.specs.Kinds.{op_of, kind_is, code-kind}

pub same_true : (a b : Bool) → a ≡ true → b ≡ beq a b
same_true true true e = refl
same_true true false e = refl
same_true false b e = no_bool e

not_parted : (k : Kind) (x : NodeRecord) → eqb (kind_number k) 5 ≡ false → partitioning (shape (operator_of k x)) ≡ unequal
not_parted Source x e = refl
not_parted Filter x e = refl
not_parted Projection x e = refl
not_parted Union x e = refl
not_parted Repartition x e = no_bool (sym e)
not_parted Coalesce x e = refl
not_parted Sort x e = refl
not_parted Merge x e = refl
not_parted GlobalLimit x e = refl
not_parted LocalLimit x e = refl
not_parted SortMergeJoin x e = refl
not_parted HashJoin x e = refl
not_parted OutputRequirement x e = refl
not_parted PartialSort x e = refl
not_parted Aggregate x e = refl

unparted : (r : List ℕ) → eqb (code (decode r)) 5 ≡ false → partitioning (shape (decode r)) ≡ unequal
unparted r e = ap (λ o. partitioning (shape o)) (op_of r (kind_of (get_or r 0 0)) refl) ∙ not_parted (kind_of (get_or r 0 0)) (from_bytes r)
    (ap (λ k. eqb (kind_number k) 5) (kind_is r) ∙ e)

never_equal : (p : Partitioning) → eq_partitioning p unequal ≡ false
never_equal unequal = refl
never_equal (parted n h ks) = refl

module _ (r s : List ℕ) where
  pub first_unequal : eqb (code (decode r)) 5 ≡ false → false ≡ same_partitioning (decode r) (decode s)
  first_unequal e = sym (ap (λ p. eq_partitioning p (partitioning (shape (decode s)))) (unparted r e))

  pub second_unequal : eqb (code (decode s)) 5 ≡ false → false ≡ same_partitioning (decode r) (decode s)
  second_unequal e = sym (ap (eq_partitioning (partitioning (shape (decode r)))) (unparted s e) ∙ never_equal (partitioning (shape (decode r))))

  module _ (a : eqb (code (decode r)) 5 ≡ true) (b : eqb (code (decode s)) 5 ≡ true) where
    both_parted : same_partitioning (decode r) (decode s) ≡ eqb (from_bytes r).streams (from_bytes s).streams
        && (beq (from_bytes r).hash (from_bytes s).hash && eq_keys (from_bytes r).keys (from_bytes s).keys)
    both_parted = ap₂ same_partitioning (op_of r Repartition (code-kind r Repartition a)) (op_of s Repartition (code-kind s Repartition b))

    pub streams_differ : ((from_bytes r).streams ≡ (from_bytes s).streams → ⊥) → false ≡ same_partitioning (decode r) (decode s)
    streams_differ n = sym (both_parted
        ∙ ap (λ x. x && (beq (from_bytes r).hash (from_bytes s).hash && eq_keys (from_bytes r).keys (from_bytes s).keys)) (ne_eqb _ _ n))

    pub streams_equal : (from_bytes r).streams ≡ (from_bytes s).streams → (x y : Bool) → x ≡ beq (from_bytes r).hash (from_bytes s).hash
        → y ≡ eq_keys (from_bytes r).keys (from_bytes s).keys
        → x && y ≡ same_partitioning (decode r) (decode s)
    streams_equal e x y p q = ap₂ ◌&&◌ p q
        ∙ sym (both_parted ∙ ap (λ z. z && (beq (from_bytes r).hash (from_bytes s).hash && eq_keys (from_bytes r).keys (from_bytes s).keys))
        (eq-eqb _ _ e))
