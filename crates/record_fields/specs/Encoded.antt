-- The record of an operator with its columns inside is proper. Assumes nothing.
use Rattle.std.specs.Prelude.{◌≡◌, refl, Bool, true, ◌&&◌, List, [], ◌∷◌, map, ℕ, zero, suc, ◌+◌, ◌^◌, ◌≤◌, ◌<◌, ltb, leb, length, get_or}
use Rattle.std.proofs.Common.{sym, ap, ap₂, ◌∙◌, subst, arith, ltb-true, leb-true, lt-ltb}
use Rattle.std.proofs.lemmas.List.{length-map}
use Rattle.row_order.specs.Iso.{Key}
use Rattle.scan.specs.Below.{and_left, and_right}
use Rattle.plan.specs.Op.{On, Op, source, filter, projection, union, repartition, coalesce, sort_op, merge_op, global_limit, local_limit, sort_merge_join, hash_join, output_requirement, partial_sort, aggregate, kind}
use Rattle.plan.specs.Numbers.{code, kind_of, kind_number}
use Rattle.plan.specs.WellFormed.{between, every, plain as one_plain, below, distinct, columns_fit, keys_fit, on_fit, set_fits, few, some, fetch_ok, fields_ok, columns_ok, distribution_fits, columns_of}
use Rattle.plan.specs.declared.Kind.{Kind}
use Rattle.plan.specs.declared.Kind.TheVariants.{Source, Filter, Projection, Union, Repartition, Coalesce, Sort, Merge, GlobalLimit, LocalLimit, SortMergeJoin, HashJoin, OutputRequirement, PartialSort, Aggregate}
use Rattle.class_tables.specs.Tables.{Columns}
use Rattle.plan_codec.specs.NodeRecord.{NodeRecord}
use Rattle.plan_codec.proofs.Bits.{number_back}
use Rattle.plan_codec.specs.Decode.{from_bytes, on_of, decode}
use Rattle.plan_codec.specs.Encode.{fill, record_of, encode}
use Rattle.plan_codec.proofs.Fill.{fill_at}
use Rattle.plan_codec.proofs.Keys.{on_columns, on_back}
use Rattle.plan_codec.proofs.OneRecord.{encode_long}
use Rattle.plan_codec.proofs.Rules.{fields_same}
use Rattle.plan_codec.proofs.ToRecord.{kind_of_lem, few_of, fits_of}
use Rattle.record_fields.specs.Fields.{tail_columns}
use Rattle.record_fields.specs.Proper.{pairs_of, Proper}

-- ---- columns

pub below_more : (w v : ℕ) (l : List ℕ) → w ≤ v → below w l ≡ true → below v l ≡ true
below_more w v [] h e = refl
below_more w v (c ∷ l) h e =
    let m = ltb-true c w (and_left (ltb c w) (below w l) e) in
    ap₂ ◌&&◌ (lt-ltb c v (omega arith)) (below_more w v l h (and_right (ltb c w) (below w l) e))

-- columns below a width
fit_columns : (w : ℕ) (l : List ℕ) → w ≤ 32 → columns_fit w l ≡ true → below 32 l ≡ true
fit_columns w l h e = below_more w 32 l h (and_left (below w l) (distinct l) e)

-- keys whose columns are below a width
pub fit_below : (w : ℕ) (ks : List Key) → w ≤ 32 → keys_fit w ks ≡ true → below 32 (columns_of ks) ≡ true
fit_below w ks h e = fit_columns w (columns_of ks) h e

pub below_at : (l : List ℕ) → below 32 l ≡ true → Columns l
below_at [] e i = omega arith
below_at (c ∷ l) e zero = ltb-true c 32 (and_left (ltb c 32) (below 32 l) e)
below_at (c ∷ l) e (suc i) = below_at l (and_right (ltb c 32) (below 32 l) e) i

-- ---- what an operator's record has

pub record Inside (x : NodeRecord) : Type 0 where
  pub wide : x.width ≤ 32
  pub keys : below 32 (columns_of x.keys) ≡ true
  pub others : x.kind ≡ SortMergeJoin → below 32 (map (λ k. k.other) (on_of x.keys x.tail)) ≡ true
  pub child : x.kind ≡ Projection → Columns x.tail
  pub prefix : x.kind ≡ PartialSort → x.role ≤ length x.keys

-- two kinds are not the same
not_kind : {A : Type 0} (k l : Kind) → (kind_number k ≡ kind_number l → ⊥) → k ≡ l → A
not_kind k l n e = absurd (n (ap kind_number e))

module _ (n : ℕ) (ws : List ℕ) (w : get_or ws 0 0 ≤ 32) (v : get_or ws 1 0 ≤ 32) where
  -- a record with the keys ks and nothing else of these
  plain : (x : NodeRecord) → x.width ≡ 0 → (x.kind ≡ SortMergeJoin → ⊥) → (x.kind ≡ Projection → ⊥) → (x.kind ≡ PartialSort → ⊥)
      → below 32 (columns_of x.keys) ≡ true → Inside x
  plain x a b c d k = record { wide = omega arith; keys = k; others = λ e. absurd (b e); child = λ e. absurd (c e); prefix = λ e. absurd (d e) }

  left_keys : (on : List On) → on_fit (get_or ws 0 0) (get_or ws 1 0) on ≡ true → below 32 (columns_of (map (λ k. k.key) on)) ≡ true
  left_keys on e = ap (below 32) (on_columns on) ∙ fit_columns (get_or ws 0 0) (map (λ k. k.key.col) on) w
      (and_left (columns_fit (get_or ws 0 0) (map (λ k. k.key.col) on)) (columns_fit (get_or ws 1 0) (map (λ k. k.other) on)) e)

  inside_of : (o : Op) → fields_ok o ≡ true → columns_ok o ws ≡ true → Inside (record_of n o)
  inside_of (source s) e c =
      let a = and_left (between 1 32 s.width) (between 1 64 s.streams)
      (and_left (between 1 32 s.width && between 1 64 s.streams) (ltb s.constants (2 ^ 32) && few s.keys) e) in
      let b : s.width ≤ 32 = leb-true s.width 32 (and_right (leb 1 s.width) (leb s.width 32) a) in
      record {
        wide = b;
        keys = fit_below s.width s.keys b (and_left (keys_fit s.width s.keys) (set_fits s.width s.constants) c);
        others = not_kind Source SortMergeJoin (λ z. omega arith);
        child = not_kind Source Projection (λ z. omega arith);
        prefix = not_kind Source PartialSort (λ z. omega arith);
      }
  inside_of filter e c = plain (record_of n filter) refl (not_kind Filter SortMergeJoin (λ z. omega arith)) (not_kind Filter Projection (λ z. omega arith))
      (not_kind Filter PartialSort (λ z. omega arith)) refl
  inside_of (projection cols) e c =
      let a : length cols ≤ 32 = leb-true (length cols) 32 (and_right (leb 1 (length cols)) (leb (length cols) 32) e) in
      record {
        wide = a;
        keys = refl;
        others = not_kind Projection SortMergeJoin (λ z. omega arith);
        child = λ z i. subst (λ m. m < 32) (sym (fill_at 32 cols i a)) (below_at cols (below_more (get_or ws 0 0) 32 cols w c) i);
        prefix = not_kind Projection PartialSort (λ z. omega arith);
      }
  inside_of union e c = plain (record_of n union) refl (not_kind Union SortMergeJoin (λ z. omega arith)) (not_kind Union Projection (λ z. omega arith))
      (not_kind Union PartialSort (λ z. omega arith)) refl
  inside_of (repartition p k h ks) e c = plain (record_of n (repartition p k h ks)) refl (not_kind Repartition SortMergeJoin (λ z. omega arith))
      (not_kind Repartition Projection (λ z. omega arith)) (not_kind Repartition PartialSort (λ z. omega arith)) (fit_below (get_or ws 0 0) ks w c)
  inside_of (coalesce f) e c = plain (record_of n (coalesce f)) refl (not_kind Coalesce SortMergeJoin (λ z. omega arith))
      (not_kind Coalesce Projection (λ z. omega arith)) (not_kind Coalesce PartialSort (λ z. omega arith)) refl
  inside_of (sort_op p ks f) e c = plain (record_of n (sort_op p ks f)) refl (not_kind Sort SortMergeJoin (λ z. omega arith))
      (not_kind Sort Projection (λ z. omega arith)) (not_kind Sort PartialSort (λ z. omega arith)) (fit_below (get_or ws 0 0) ks w c)
  inside_of (merge_op ks f) e c = plain (record_of n (merge_op ks f)) refl (not_kind Merge SortMergeJoin (λ z. omega arith))
      (not_kind Merge Projection (λ z. omega arith)) (not_kind Merge PartialSort (λ z. omega arith)) (fit_below (get_or ws 0 0) ks w c)
  inside_of (global_limit s f note) e c = plain (record_of n (global_limit s f note)) refl (not_kind GlobalLimit SortMergeJoin (λ z. omega arith))
      (not_kind GlobalLimit Projection (λ z. omega arith)) (not_kind GlobalLimit PartialSort (λ z. omega arith)) (fit_below (get_or ws 0 0) note w c)
  inside_of (local_limit f note) e c = plain (record_of n (local_limit f note)) refl (not_kind LocalLimit SortMergeJoin (λ z. omega arith))
      (not_kind LocalLimit Projection (λ z. omega arith)) (not_kind LocalLimit PartialSort (λ z. omega arith)) (fit_below (get_or ws 0 0) note w c)
  inside_of (sort_merge_join t on) e c =
      record {
        wide = omega arith;
        keys = left_keys on c;
        others = λ z. ap (below 32) (others_are on e) ∙ fit_columns (get_or ws 1 0) (map (λ k. k.other) on) v
            (and_right (columns_fit (get_or ws 0 0) (map (λ k. k.key.col) on)) (columns_fit (get_or ws 1 0) (map (λ k. k.other) on)) c);
        child = not_kind SortMergeJoin Projection (λ z. omega arith);
        prefix = not_kind SortMergeJoin PartialSort (λ z. omega arith);
      }
    where
      others_are : (on : List On) → some on ≡ true → map (λ k. k.other) (on_of (map (λ k. k.key) on) (fill 32 (map (λ k. k.other) on))) ≡ map
          (λ k. k.other) on
      others_are on e =
          let l : length on ≤ 8 = leb-true (length on) 8 (and_right (leb 1 (length on)) (leb (length on) 8) e) in
          ap (map (λ k. k.other)) (on_back 32 on (omega arith))
  inside_of (hash_join t on) e c = plain (record_of n (hash_join t on)) refl (not_kind HashJoin SortMergeJoin (λ z. omega arith))
      (not_kind HashJoin Projection (λ z. omega arith)) (not_kind HashJoin PartialSort (λ z. omega arith)) (left_keys on c)
  inside_of (output_requirement ks d f) e c =
      plain (record_of n (output_requirement ks d f)) refl (not_kind OutputRequirement SortMergeJoin (λ z. omega arith))
      (not_kind OutputRequirement Projection (λ z. omega arith)) (not_kind OutputRequirement PartialSort (λ z. omega arith))
      (fit_below (get_or ws 0 0) ks w (and_left (keys_fit (get_or ws 0 0) ks) (distribution_fits (get_or ws 0 0) d) c))
  inside_of (partial_sort p ks k f) e c =
      let a = ltb-true k (length ks) (and_right (leb 1 k) (ltb k (length ks)) (and_right (some ks && fetch_ok f) (leb 1 k && ltb k (length ks)) e)) in
      record {
        wide = omega arith;
        keys = fit_below (get_or ws 0 0) ks w c;
        others = not_kind PartialSort SortMergeJoin (λ z. omega arith);
        child = not_kind PartialSort Projection (λ z. omega arith);
        prefix = λ z. omega arith;
      }
  inside_of (aggregate ks m) e c =
      record {
        wide = leb-true (length ks + m) 32 (and_right (some ks && every one_plain ks) (leb (length ks + m) 32) e);
        keys = fit_below (get_or ws 0 0) ks w c;
        others = not_kind Aggregate SortMergeJoin (λ z. omega arith);
        child = not_kind Aggregate Projection (λ z. omega arith);
        prefix = not_kind Aggregate PartialSort (λ z. omega arith);
      }

-- ---- the record

-- the kind byte of an operator's record
pub code_byte : (r : List ℕ) (n : ℕ) → r ≡ encode n (decode r) → get_or r 0 0 ≡ code (decode r)
unfolding encode
code_byte r n e = ap (λ x. get_or x 0 0) e ∙ ap kind_number (kind_of_lem n (decode r))

fields_are : (r : List ℕ) (n : ℕ) → r ≡ encode n (decode r) → fields_ok (decode r) ≡ true → from_bytes r ≡ record_of n (decode r)
unfolding encode
fields_are r n e f = let v = fits_of n (decode r) f in ap from_bytes e ∙ fields_same (record_of n (decode r)) v.fetch v.skip (few_of n (decode r) f)

-- the counts, as the bytes have them
count_is : (r : List ℕ) (n : ℕ) → r ≡ encode n (decode r) → get_or r 12 0 ≡ length (record_of n (decode r)).keys
unfolding encode
count_is r n e = ap (λ x. get_or x 12 0) e

pub proper : (r : List ℕ) (n : ℕ) (ws : List ℕ) → r ≡ encode n (decode r) → fields_ok (decode r) ≡ true → columns_ok (decode r) ws ≡ true → get_or ws 0 0 ≤ 32
    → get_or ws 1 0 ≤ 32 → Proper r
proper r n ws e f c w v =
    let i = inside_of n ws w v (decode r) f c in
    let x = fields_are r n e f in
    let k : kind_of (get_or r 0 0) ≡ (record_of n (decode r)).kind = ap (λ y. y.kind) x in
    let m = count_is r n e in
    record {
      long = ap length e ∙ encode_long n (decode r) f;
      kind = code_byte r n e;
      fields = f;
      few = let z = few_of n (decode r) f in omega arith;
      wide = subst (λ y. y.width ≤ 32) (sym x) i.wide;
      keys = subst (λ y. below 32 (columns_of y.keys) ≡ true) (sym x) i.keys;
      others = λ z. subst (λ y. below 32 (map (λ k. k.other) (on_of y.keys y.tail)) ≡ true) (sym x) (i.others (sym k ∙ z));
      child = λ z. subst (λ y. Columns y.tail) (sym x) (i.child (sym k ∙ z));
      prefix = λ z. let p = i.prefix (sym k ∙ z) in let q = ap (λ y. y.role) x in omega arith;
    }
