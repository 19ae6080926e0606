-- A node put back over children: a repartition's preserve mark stays where it counts.
use Rattle.std.specs.Prelude.{◌≡◌, refl, Bool, true, false, ◌&&◌, List, ℕ, ◌-◌, ◌<◌, length, get_or, set}
use Rattle.std.proofs.Math.Path.{sym, ap, ap₂}
use Rattle.std.proofs.Common.{◌∙◌, subst, arith}
use Rattle.std.proofs.Math.Bool.{not}
use borrow.Author.Tests.{eqb-true}
use Rattle.row_order.specs.Iso.{Key}
use Rattle.row_order.specs.Packed.{bit}
use Rattle.plan.specs.Op.{Op, source, filter, projection, union, repartition, coalesce, sort_op, merge_op, global_limit, local_limit, sort_merge_join, hash_join, output_requirement, partial_sort, aggregate, kind}
use Rattle.plan.specs.Numbers.{kind_of}
use Rattle.plan.specs.WellFormed.{children_ok}
use Rattle.plan.specs.declared.Kind.TheVariants.{Repartition}
use Rattle.plan_codec.proofs.Bits.{no_false}
use Rattle.plan_codec.specs.Decode.{from_bytes, operator_of, decode}
use Rattle.plan_codec.specs.Encode.{encode}
use Rattle.semantics.specs.Facts.{Facts, counts, at0}
use Rattle.semantics.specs.Properties.{rebuilt}
use Rattle.facts.specs.declared.Facts.{Facts as Coded}
use Rattle.facts.specs.Known.{known as told}
use Rattle.walks.specs.Marks.{known, Shape, a_sort, a_merge, a_repartition, a_coalesce, another, shape}
use Rattle.plan_context.specs.View.{forest, Over}
use Rattle.plan_context.specs.Laws.{length_facts}
use Rattle.plan_context.specs.Facts.{Child}
use Rattle.plan_context.specs.Nodes.{rule}
use Rattle.record_fields.specs.Kinds.{kind_is}

-- The node has a mark that does not count over children with facts fs
abbrev pub losing_by : Shape → Facts → Bool
losing_by (a_sort p ks f) F = false
losing_by (a_merge ks f) F = false
losing_by (a_repartition p n h ks) F = p && not (counts p F)
losing_by (a_coalesce f) F = false
losing_by another F = false

abbrev pub losing : Op → List Facts → Bool
losing o fs = losing_by (shape o) (at0 fs)

stays : (p c : Bool) → (p && not (p && c)) ≡ false → p && c ≡ p
stays true true e = refl
stays true false e = no_false (sym e)
stays false c e = refl

pub rebuilt_same : (o : Op) (fs : List Facts) → losing o fs ≡ false → rebuilt o fs ≡ o
rebuilt_same (source s) fs e = refl
rebuilt_same filter fs e = refl
rebuilt_same (projection cols) fs e = refl
rebuilt_same union fs e = refl
rebuilt_same (repartition p n h ks) fs e = ap (λ q. repartition q n h ks) (stays p _ e)
rebuilt_same (coalesce f) fs e = refl
rebuilt_same (sort_op p ks f) fs e = refl
rebuilt_same (merge_op ks f) fs e = refl
rebuilt_same (global_limit s f note) fs e = refl
rebuilt_same (local_limit f note) fs e = refl
rebuilt_same (sort_merge_join t on) fs e = refl
rebuilt_same (hash_join t on) fs e = refl
rebuilt_same (output_requirement ks d f) fs e = refl
rebuilt_same (partial_sort p ks n f) fs e = refl
rebuilt_same (aggregate ks n) fs e = refl

-- The record without the mark
abbrev pub cleared : List ℕ → List ℕ
cleared r = set r 3 (get_or r 3 0 - 1)

loses : (p c : Bool) → (p && not (p && c)) ≡ true → (p ≡ true) × (p && c ≡ false)
loses true true e = no_false e
loses true false e = (refl, refl)
loses false c e = no_false e

cleared_is : (k n : ℕ) (h : Bool) (ks : List Key) → cleared (encode k (repartition true n h ks)) ≡ encode k (repartition false n h ks)
unfolding encode
cleared_is k n true ks = refl
cleared_is k n false ks = refl

pub rebuilt-clears : (k : ℕ) (o : Op) (fs : List Facts) → losing o fs ≡ true → cleared (encode k o) ≡ encode k (rebuilt o fs)
rebuilt-clears k (source s) fs e = no_false e
rebuilt-clears k filter fs e = no_false e
rebuilt-clears k (projection cols) fs e = no_false e
rebuilt-clears k union fs e = no_false e
rebuilt-clears k (repartition p n h ks) fs e =
    let l = loses p _ e in
    ap (λ q. cleared (encode k (repartition q n h ks))) l.0 ∙ cleared_is k n h ks ∙ ap (λ q. encode k (repartition q n h ks)) (sym l.1)
rebuilt-clears k (coalesce f) fs e = no_false e
rebuilt-clears k (sort_op p ks f) fs e = no_false e
rebuilt-clears k (merge_op ks f) fs e = no_false e
rebuilt-clears k (global_limit s f note) fs e = no_false e
rebuilt-clears k (local_limit f note) fs e = no_false e
rebuilt-clears k (sort_merge_join t on) fs e = no_false e
rebuilt-clears k (hash_join t on) fs e = no_false e
rebuilt-clears k (output_requirement ks d f) fs e = no_false e
rebuilt-clears k (partial_sort p ks n f) fs e = no_false e
rebuilt-clears k (aggregate ks n) fs e = no_false e

-- a record that loses its mark has a one in byte 3
byte_some : (k n : ℕ) (h : Bool) (ks : List Key) → 0 < get_or (encode k (repartition true n h ks)) 3 0
unfolding encode
byte_some k n true ks = omega arith
byte_some k n false ks = omega arith

pub losing_byte : (k : ℕ) (o : Op) (fs : List Facts) → losing o fs ≡ true → 0 < get_or (encode k o) 3 0
losing_byte k (source s) fs e = no_false e
losing_byte k filter fs e = no_false e
losing_byte k (projection cols) fs e = no_false e
losing_byte k union fs e = no_false e
losing_byte k (repartition p n h ks) fs e = subst (λ q. 0 < get_or (encode k (repartition q n h ks)) 3 0) (sym (loses p _ e).0) (byte_some k n h ks)
losing_byte k (coalesce f) fs e = no_false e
losing_byte k (sort_op p ks f) fs e = no_false e
losing_byte k (merge_op ks f) fs e = no_false e
losing_byte k (global_limit s f note) fs e = no_false e
losing_byte k (local_limit f note) fs e = no_false e
losing_byte k (sort_merge_join t on) fs e = no_false e
losing_byte k (hash_join t on) fs e = no_false e
losing_byte k (output_requirement ks d f) fs e = no_false e
losing_byte k (partial_sort p ks n f) fs e = no_false e
losing_byte k (aggregate ks n) fs e = no_false e

-- ---- as the code asks

other_shape : (o : Op) (F : Facts) → (kind o ≡ Repartition → ⊥) → losing_by (shape o) F ≡ false
other_shape (source s) F f = refl
other_shape filter F f = refl
other_shape (projection cols) F f = refl
other_shape union F f = refl
other_shape (repartition p n h ks) F f = absurd (f refl)
other_shape (coalesce g) F f = refl
other_shape (sort_op p ks g) F f = refl
other_shape (merge_op ks g) F f = refl
other_shape (global_limit s g note) F f = refl
other_shape (local_limit g note) F f = refl
other_shape (sort_merge_join t on) F f = refl
other_shape (hash_join t on) F f = refl
other_shape (output_requirement ks d g) F f = refl
other_shape (partial_sort p ks n g) F f = refl
other_shape (aggregate ks n) F f = refl

module _ (m r ks : List ℕ) (a : Over m r ks) where
  pub not-losing : (kind_of (get_or r 0 0) ≡ Repartition → ⊥) → false ≡ losing (decode r) (known (forest m ks))
  not-losing f = sym (other_shape (decode r) (at0 (known (forest m ks))) (λ e. f (kind_is r ∙ e)))

  pub one_kid_lem : kind_of (get_or r 0 0) ≡ Repartition → length ks ≡ 1
  unfolding decode
  one_kid_lem e = eqb-true (length ks) 1 (ap (λ k. children_ok (operator_of k (from_bytes r)) (length ks)) (sym e) ∙ (rule m r ks a).count)

  pub may_lose : kind_of (get_or r 0 0) ≡ Repartition → (f : Coded) → Child (known (forest m ks)) 0 f → (p c : Bool) → p ≡ bit (get_or r 3 0) 0
      → c ≡ counts p (told f) → p && not c ≡ losing (decode r) (known (forest m ks))
  unfolding decode
  may_lose e f x p c q w =
      let d : decode r ≡ operator_of Repartition (from_bytes r) = ap (λ k. operator_of k (from_bytes r)) e in
      let l = one_kid_lem e in
      let i = x.is (let z = length_facts m ks in omega arith) in
      ap₂ (λ y z. y && not z) q (w ∙ ap₂ counts q i) ∙ sym (ap (λ o. losing o (known (forest m ks))) d)

  pub lowered : (b : Bool) → b ≡ losing (decode r) (known (forest m ks)) → b ≡ true → 0 < get_or r 3 0
  lowered b e t = subst (λ x. 0 < get_or x 3 0) (sym a.canon) (losing_byte (length ks) (decode r) (known (forest m ks)) (sym e ∙ t))

  pub clears : (b : Bool) → b ≡ losing (decode r) (known (forest m ks)) → b ≡ true → (x : List ℕ) → x ≡ r → set x 3 (get_or r 3 0 - 1) ≡ encode (length ks)
      (rebuilt (decode r) (known (forest m ks)))
  clears b e t x q = ap (λ y. set y 3 (get_or r 3 0 - 1)) q ∙ ap cleared a.canon ∙ rebuilt-clears (length ks) (decode r) (known (forest m ks)) (sym e ∙ t)

  pub keeps_mark : (b : Bool) → b ≡ losing (decode r) (known (forest m ks)) → b ≡ false → (x : List ℕ) → x ≡ r
      → x ≡ encode (length ks) (rebuilt (decode r) (known (forest m ks)))
  keeps_mark b e t x q = q ∙ a.canon ∙ ap (encode (length ks)) (sym (rebuilt_same (decode r) (known (forest m ks)) (sym e ∙ t)))
