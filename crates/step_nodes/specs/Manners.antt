-- How a node takes rows and where it sends them, by its record and its children's facts.
use Rattle.std.specs.Prelude.{◌≡◌, refl, Bool, true, false, cond, List, ℕ, eqb, get_or}
use Rattle.std.proofs.Common.{sym, ap, ap₂, ◌∙◌, eqb-true}
use Rattle.row_order.proofs.Order.{no_bool}
use Rattle.row_order.specs.Iso.{Key}
use Rattle.plan.specs.Op.{Op, source, filter, projection, union, repartition, coalesce, sort_op, merge_op, global_limit, local_limit, sort_merge_join, hash_join, output_requirement, partial_sort, aggregate, kind}
use Rattle.plan.specs.Numbers.{code, kind_number, kind_of}
use Rattle.plan.specs.WellFormed.{children_ok}
use Rattle.plan.specs.declared.Kind.{Kind}
use Rattle.plan.specs.declared.Kind.TheVariants.{Source, Filter, Projection, Union, Repartition, Coalesce, Sort, Merge, GlobalLimit, LocalLimit, SortMergeJoin, HashJoin, OutputRequirement, PartialSort, Aggregate}
use Rattle.semantics.specs.Facts.{Facts, counts, at0, known_order}
use Rattle.plan_codec.specs.NodeRecord.{NodeRecord}
use Rattle.plan_codec.specs.Decode.{decode, from_bytes, operator_of}
use Rattle.record_fields.specs.Kinds.{op_of, kind_is, code-kind}
use Rattle.stepping.specs.Moves.{merging, passing, manner, sort_way, way}
use Rattle.step_tables.specs.Places.{kind_of as number_of, is_straight}

-- ---- definitions

-- A preserving repartition is one whose mark counts (reading 5 of P3)
abbrev pub mark_counts : Op → List Facts → Bool
mark_counts (source s) fs = false
mark_counts filter fs = false
mark_counts (projection cols) fs = false
mark_counts union fs = false
mark_counts (repartition p n h ks) fs = counts p (at0 fs)
mark_counts (coalesce f) fs = false
mark_counts (sort_op p ks f) fs = false
mark_counts (merge_op ks f) fs = false
mark_counts (global_limit s f note) fs = false
mark_counts (local_limit f note) fs = false
mark_counts (sort_merge_join t on) fs = false
mark_counts (hash_join t on) fs = false
mark_counts (output_requirement ks d f) fs = false
mark_counts (partial_sort p ks n f) fs = false
mark_counts (aggregate ks n) fs = false

-- The number of a manner, by the kind; b: the mark counts
abbrev pub manner_number : Kind → Bool → ℕ
manner_number Source b = 0
manner_number Filter b = 1
manner_number Projection b = 1
manner_number Union b = 1
manner_number Repartition b = cond b 2 1
manner_number Coalesce b = 1
manner_number Sort b = 3
manner_number Merge b = 2
manner_number GlobalLimit b = 1
manner_number LocalLimit b = 1
manner_number SortMergeJoin b = 0
manner_number HashJoin b = 0
manner_number OutputRequirement b = 1
manner_number PartialSort b = 3
manner_number Aggregate b = 0

-- Whether rows go from input stream i to output stream i; p: the preserve mark
abbrev pub straight_kind : Kind → Bool → Bool
straight_kind Source p = false
straight_kind Filter p = true
straight_kind Projection p = true
straight_kind Union p = true
straight_kind Repartition p = false
straight_kind Coalesce p = false
straight_kind Sort p = p
straight_kind Merge p = false
straight_kind GlobalLimit p = false
straight_kind LocalLimit p = true
straight_kind SortMergeJoin p = true
straight_kind HashJoin p = true
straight_kind OutputRequirement p = true
straight_kind PartialSort p = p
straight_kind Aggregate p = true

-- ---- laws

number_of_lem : (o : Op) (fs : List Facts) → manner_number (kind o) (mark_counts o fs) ≡ number_of (manner o fs)
number_of_lem (source s) fs = refl
number_of_lem filter fs = refl
number_of_lem (projection cols) fs = refl
number_of_lem union fs = refl
number_of_lem (repartition p n h ks) fs = go (counts p (at0 fs)) (known_order (at0 fs))
  where
    go : (b : Bool) (ks : List Key) → cond b 2 1 ≡ number_of (cond b (merging ks) passing)
    go true ks = refl
    go false ks = refl
number_of_lem (coalesce f) fs = refl
number_of_lem (sort_op p ks f) fs = refl
number_of_lem (merge_op ks f) fs = refl
number_of_lem (global_limit s f note) fs = refl
number_of_lem (local_limit f note) fs = refl
number_of_lem (sort_merge_join t on) fs = refl
number_of_lem (hash_join t on) fs = refl
number_of_lem (output_requirement ks d f) fs = refl
number_of_lem (partial_sort p ks n f) fs = refl
number_of_lem (aggregate ks n) fs = refl

-- as the code asks: the kind by the record's byte
pub number_is : (r : List ℕ) (fs : List Facts) (k : Kind) (b : Bool) (n : ℕ) → k ≡ kind_of (get_or r 0 0) → b ≡ mark_counts (decode r) fs → n ≡ manner_number k b
    → n ≡ number_of (manner (decode r) fs)
number_is r fs k b n e f g = g ∙ ap₂ manner_number (e ∙ kind_is r) f ∙ number_of_lem (decode r) fs

sort_straight : (p : Bool) → p ≡ is_straight (sort_way p)
sort_straight true = refl
sort_straight false = refl

straight_of : (k : Kind) (x : NodeRecord) → straight_kind k x.preserve ≡ is_straight (way (operator_of k x))
straight_of Source x = refl
straight_of Filter x = refl
straight_of Projection x = refl
straight_of Union x = refl
straight_of Repartition x = refl
straight_of Coalesce x = refl
straight_of Sort x = sort_straight x.preserve
straight_of Merge x = refl
straight_of GlobalLimit x = refl
straight_of LocalLimit x = refl
straight_of SortMergeJoin x = refl
straight_of HashJoin x = refl
straight_of OutputRequirement x = refl
straight_of PartialSort x = sort_straight x.preserve
straight_of Aggregate x = refl

pub straight_is : (r : List ℕ) (k : Kind) (p b : Bool) → k ≡ kind_of (get_or r 0 0) → p ≡ (from_bytes r).preserve → b ≡ straight_kind k p
    → b ≡ is_straight (way (decode r))
straight_is r k p b e f g =
    g ∙ ap₂ straight_kind e f ∙ straight_of (kind_of (get_or r 0 0)) (from_bytes r) ∙ sym (ap (λ o. is_straight (way o)) (op_of r (kind_of (get_or r 0 0)) refl))

no_mark : (k : Kind) (x : NodeRecord) (fs : List Facts) → eqb (kind_number k) 5 ≡ false → mark_counts (operator_of k x) fs ≡ false
no_mark Source x fs e = refl
no_mark Filter x fs e = refl
no_mark Projection x fs e = refl
no_mark Union x fs e = refl
no_mark Repartition x fs e = no_bool (sym e)
no_mark Coalesce x fs e = refl
no_mark Sort x fs e = refl
no_mark Merge x fs e = refl
no_mark GlobalLimit x fs e = refl
no_mark LocalLimit x fs e = refl
no_mark SortMergeJoin x fs e = refl
no_mark HashJoin x fs e = refl
no_mark OutputRequirement x fs e = refl
no_mark PartialSort x fs e = refl
no_mark Aggregate x fs e = refl

pub unmarked : (r : List ℕ) (fs : List Facts) → get_or r 0 0 ≡ code (decode r) → eqb (get_or r 0 0) 5 ≡ false → false ≡ mark_counts (decode r) fs
unmarked r fs c e =
    sym (ap (λ o. mark_counts o fs) (op_of r (kind_of (get_or r 0 0)) refl)
    ∙ no_mark (kind_of (get_or r 0 0)) (from_bytes r) fs (ap (λ k. eqb (kind_number k) 5) (kind_is r) ∙ ap (λ n. eqb n 5) (sym c) ∙ e))

module _ (r : List ℕ) (c : get_or r 0 0 ≡ code (decode r)) (e : eqb (get_or r 0 0) 5 ≡ true) where
  is_repartition_lem : decode r ≡ operator_of Repartition (from_bytes r)
  is_repartition_lem = op_of r Repartition (code-kind r Repartition (ap (λ n. eqb n 5) (sym c) ∙ e))

  -- it has one child
  pub one_child : (n : ℕ) → children_ok (decode r) n ≡ true → n ≡ 1
  one_child n h = eqb-true n 1 (sym (ap (λ o. children_ok o n) is_repartition_lem) ∙ h)

  pub mark_is : (fs : List Facts) (p b : Bool) (F : Facts) → p ≡ (from_bytes r).preserve → F ≡ at0 fs → b ≡ counts p F → b ≡ mark_counts (decode r) fs
  mark_is fs p b F f g h = h ∙ ap₂ counts f g ∙ sym (ap (λ o. mark_counts o fs) is_repartition_lem)
