-- What a move asks of a node: its keys, what it cuts, the columns it shows. By its record, and its first child's facts.
use Rattle.std.specs.Prelude.{◌≡◌, refl, Bool, true, false, cond, List, [], ◌∷◌, ◌++◌, map, ℕ, suc, ◌+◌, ◌-◌, ◌/◌, ◌≤◌, ◌<◌, eqb, length, get_or, take, set}
use Rattle.std.proofs.Common.{sym, ap, ap₂, ◌∙◌, subst, append_assoc, append-nil, arith, add-one, length-set, length-drop, take-suc-set, eqb-true}
use Rattle.std.proofs.lemmas.List.{map-append}
use Rattle.std.specs.Int.Bits.{bit_and}
use Rattle.std.proofs.lemmas.Nat.{and_mask}
use Rattle.row_order.specs.Iso.{Row, Key}
use Rattle.row_order.specs.Packed.{key_of}
use Rattle.row_order.proofs.Order.{no_bool}
use Rattle.plan.specs.Op.{Op, source, filter, projection, union, repartition, coalesce, sort_op, merge_op, global_limit, local_limit, sort_merge_join, hash_join, output_requirement, partial_sort, aggregate, kind}
use Rattle.plan.specs.Numbers.{code, kind_number, kind_of}
use Rattle.plan.specs.WellFormed.{children_ok}
use Rattle.plan.specs.declared.Kind.{Kind}
use Rattle.plan.specs.declared.Kind.TheVariants.{Source, Filter, Projection, Union, Repartition, Coalesce, Sort, Merge, GlobalLimit, LocalLimit, SortMergeJoin, HashJoin, OutputRequirement, PartialSort, Aggregate}
use Rattle.semantics.specs.Facts.{Facts, counts, at0, known_order}
use Rattle.semantics.specs.Properties as semantics
use Rattle.semantics.specs.Runs.{proj}
use Rattle.plan_codec.specs.NodeRecord.{NodeRecord}
use Rattle.plan_codec.specs.Decode.{decode, from_bytes, operator_of}
use Rattle.class_tables.specs.Tables.{Columns}
use Rattle.key_lists.specs.declared.Keys.{Keys}
use Rattle.key_lists.specs.Keys.{keys_of}
use Rattle.key_lists.specs.Lists.{length_keys}
use Rattle.key_lists.specs.Packing.{seven_bits}
use Rattle.record_fields.specs.Fields.{packed_keys, tail_columns}
use Rattle.record_fields.specs.Decoded.{length-packed}
use Rattle.record_fields.specs.Kinds.{op_of, kind_is, code-kind, keys_are}
use Rattle.record_fields.specs.Proper.{Proper}
use Rattle.stepping.specs.Moves.{Manner, still, passing, merging, sorting, manner, way, shown}
use Rattle.step_tables.specs.Places.{is_straight}
use Rattle.step_nodes.specs.Manners.{mark_counts}
use Rattle.step_nodes.specs.declared.KeyRow.{KeyRow}
use Rattle.step_nodes.specs.declared.Cut.{Cut}
use Rattle.step_nodes.specs.declared.ColumnRow.{ColumnRow}

-- ---- definitions

-- The keys by which rows are taken
abbrev pub keys_of_manner : Manner → List Key
keys_of_manner still = []
keys_of_manner passing = []
keys_of_manner (merging ks) = ks
keys_of_manner (sorting p ks) = ks

-- r holds the list ks
pub record KeysAre (ks : List Key) (r : KeyRow) : Type 0 where
  pub is : map key_of (take r.len r.items) ≡ ks
  pub few : r.len ≤ 8
  pub long : length r.items ≡ 8

-- It takes rows by the keys of its record
abbrev pub own_keys : Kind → Bool
own_keys Source = false
own_keys Filter = false
own_keys Projection = false
own_keys Union = false
own_keys Repartition = false
own_keys Coalesce = false
own_keys Sort = true
own_keys Merge = true
own_keys GlobalLimit = false
own_keys LocalLimit = false
own_keys SortMergeJoin = false
own_keys HashJoin = false
own_keys OutputRequirement = false
own_keys PartialSort = true
own_keys Aggregate = false

-- As the code has a cut
abbrev pub cut_in : Cut → semantics.Cut
cut_in r = record { skip = r.skip; fetch = r.fetch }

-- r holds the columns of the projection o
pub record Projects (o : Op) (r : ColumnRow) : Type 0 where
  pub is : o ≡ projection (take r.len r.items)
  pub few : r.len ≤ 32
  pub long : length r.items ≡ 32
  pub columns : Columns r.items

-- ---- a word's keys, one number each

-- The first j are unpacked, the keys l are left
pub record Unpacking (ks : List Key) (j : ℕ) (items : List ℕ) (l : List Key) : Type 0 where
  pub room : j + length l ≡ length ks
  pub long : length items ≡ 8
  pub is : map key_of (take j items) ++ l ≡ ks

pub unpacking_none : (ks : List Key) (items : List ℕ) (l : List Key) → length items ≡ 8 → l ≡ ks → Unpacking ks 0 items l
unpacking_none ks items l h e = record { room = omega (arith, ap length e); long = h; is = e }

pub unpacking_more : (ks : List Key) (j : ℕ) (items : List ℕ) (l : List Key) (w : ℕ) (m : List Key) → length ks ≤ 8 → l ≡ key_of w ∷ m → Unpacking ks j items l
    → Unpacking ks (j + 1) (set items j (bit_and w 127)) m
unpacking_more ks j items l w m h e u =
    let g = u.long in let r = u.room in let z = ap length e in
    let k : key_of (bit_and w 127) ≡ key_of w = ap key_of (and_mask w 7) ∙ seven_bits w in
    record {
      room = omega arith;
      long = length-set items j (bit_and w 127) ∙ g;
      is = rw (add-one j)
          (ap (λ x. map key_of x ++ m) (take-suc-set items j (bit_and w 127) (omega arith))
          ∙ ap (λ x. x ++ m) (map-append key_of (take j items) (bit_and w 127 ∷ []))
          ∙ append_assoc (map key_of (take j items)) (key_of (bit_and w 127) ∷ []) m
          ∙ ap (λ x. map key_of (take j items) ++ x) (ap (λ x. x ∷ m) k ∙ sym e)
          ∙ u.is);
    }

pub unpacked_all : (k : Keys) (j : ℕ) (items : List ℕ) (l : List Key) → k.len ≤ 8 → l ≡ [] → Unpacking (keys_of k) j items l
    → KeysAre (keys_of k) (record { items = items; len = k.len })
unpacked_all k j items l h e u =
    let i : k.len ≡ j = omega (arith, u.room, ap length e, length_keys k.len k.word) in
    record {
      is = ap (λ x. map key_of (take x items)) i ∙ sym (append-nil (map key_of (take j items))) ∙ ap (λ x. map key_of (take j items) ++ x) (sym e) ∙ u.is;
      few = h;
      long = u.long;
    }

-- ---- the keys of a manner

own_keys_lem : (k : Kind) (x : NodeRecord) (fs : List Facts) → own_keys k ≡ true → keys_of_manner (manner (operator_of k x) fs) ≡ x.keys
own_keys_lem Source x fs e = no_bool e
own_keys_lem Filter x fs e = no_bool e
own_keys_lem Projection x fs e = no_bool e
own_keys_lem Union x fs e = no_bool e
own_keys_lem Repartition x fs e = no_bool e
own_keys_lem Coalesce x fs e = no_bool e
own_keys_lem Sort x fs e = refl
own_keys_lem Merge x fs e = refl
own_keys_lem GlobalLimit x fs e = no_bool e
own_keys_lem LocalLimit x fs e = no_bool e
own_keys_lem SortMergeJoin x fs e = no_bool e
own_keys_lem HashJoin x fs e = no_bool e
own_keys_lem OutputRequirement x fs e = no_bool e
own_keys_lem PartialSort x fs e = refl
own_keys_lem Aggregate x fs e = no_bool e

-- where the mark counts: one child, and the keys are its known order
pub record Preserving (o : Op) (fs : List Facts) : Type 0 where
  pub one : (n : ℕ) → children_ok o n ≡ true → n ≡ 1
  pub keys : keys_of_manner (manner o fs) ≡ known_order (at0 fs)

pub preserving : (o : Op) (fs : List Facts) → mark_counts o fs ≡ true → Preserving o fs
preserving (source s) fs e = no_bool e
preserving filter fs e = no_bool e
preserving (projection cols) fs e = no_bool e
preserving union fs e = no_bool e
preserving (repartition p n h ks) fs e =
    record { one = λ k q. eqb-true k 1 q; keys = ap (λ b. keys_of_manner (cond b (merging (known_order (at0 fs))) passing)) e }
preserving (coalesce f) fs e = no_bool e
preserving (sort_op p ks f) fs e = no_bool e
preserving (merge_op ks f) fs e = no_bool e
preserving (global_limit s f note) fs e = no_bool e
preserving (local_limit f note) fs e = no_bool e
preserving (sort_merge_join t on) fs e = no_bool e
preserving (hash_join t on) fs e = no_bool e
preserving (output_requirement ks d f) fs e = no_bool e
preserving (partial_sort p ks n f) fs e = no_bool e
preserving (aggregate ks n) fs e = no_bool e

no_keys : (o : Op) (fs : List Facts) → own_keys (kind o) ≡ false → mark_counts o fs ≡ false → keys_of_manner (manner o fs) ≡ []
no_keys (source s) fs e f = refl
no_keys filter fs e f = refl
no_keys (projection cols) fs e f = refl
no_keys union fs e f = refl
no_keys (repartition p n h ks) fs e f = ap (λ b. keys_of_manner (cond b (merging (known_order (at0 fs))) passing)) f
no_keys (coalesce g) fs e f = refl
no_keys (sort_op p ks g) fs e f = no_bool (sym e)
no_keys (merge_op ks g) fs e f = no_bool (sym e)
no_keys (global_limit s g note) fs e f = refl
no_keys (local_limit g note) fs e f = refl
no_keys (sort_merge_join t on) fs e f = refl
no_keys (hash_join t on) fs e f = refl
no_keys (output_requirement ks d g) fs e f = refl
no_keys (partial_sort p ks n g) fs e f = no_bool (sym e)
no_keys (aggregate ks n) fs e f = refl

module _ (r : List ℕ) (fs : List Facts) (k : Kind) (b : Bool) (e : k ≡ kind_of (get_or r 0 0)) (g : b ≡ own_keys k) where
  pub by_record : b ≡ true → (x : KeyRow) → KeysAre (from_bytes r).keys x → KeysAre (keys_of_manner (manner (decode r) fs)) x
  by_record t x h =
      subst (λ ks. KeysAre ks x) (sym (ap (λ o. keys_of_manner (manner o fs)) (op_of r (kind_of (get_or r 0 0)) refl)
      ∙ own_keys_lem (kind_of (get_or r 0 0)) (from_bytes r) fs (ap own_keys (sym e) ∙ sym g ∙ t))) h

  pub by_nothing : b ≡ false → (c : Bool) → c ≡ mark_counts (decode r) fs → c ≡ false → (x : KeyRow) → KeysAre [] x
      → KeysAre (keys_of_manner (manner (decode r) fs)) x
  by_nothing t c h q x y =
      subst (λ ks. KeysAre ks x) (sym (no_keys (decode r) fs (ap own_keys (sym (kind_is r)) ∙ ap own_keys (sym e) ∙ sym g ∙ t) (sym h ∙ q))) y

pub record_keys : (r : List ℕ) → Proper r → (x : KeyRow) → x.items ≡ packed_keys r → x.len ≡ get_or r 12 0 → KeysAre (from_bytes r).keys x
record_keys r p x e n =
    let f = p.few in
    record {
      is = ap₂ (λ (k : ℕ) (l : List ℕ). map key_of (take k l)) n e ∙ keys_are r p;
      few = omega arith;
      long = ap length e ∙ length-packed r p.long;
    }

-- ---- sorts: "with the preserve mark: of each stream" is the row's straight flag

abbrev sorts_streams : Manner → Bool → Bool
sorts_streams still b = b
sorts_streams passing b = b
sorts_streams (merging ks) b = b
sorts_streams (sorting p ks) b = p

each_straight : (o : Op) (fs : List Facts) → sorts_streams (manner o fs) (is_straight (way o)) ≡ is_straight (way o)
each_straight (source s) fs = refl
each_straight filter fs = refl
each_straight (projection cols) fs = refl
each_straight union fs = refl
each_straight (repartition p n h ks) fs = go (counts p (at0 fs)) (known_order (at0 fs))
  where
    go : (b : Bool) (l : List Key) → sorts_streams (cond b (merging l) passing) false ≡ false
    go true l = refl
    go false l = refl
each_straight (coalesce f) fs = refl
each_straight (sort_op true ks f) fs = refl
each_straight (sort_op false ks f) fs = refl
each_straight (merge_op ks f) fs = refl
each_straight (global_limit s f note) fs = refl
each_straight (local_limit f note) fs = refl
each_straight (sort_merge_join t on) fs = refl
each_straight (hash_join t on) fs = refl
each_straight (output_requirement ks d f) fs = refl
each_straight (partial_sort true ks n f) fs = refl
each_straight (partial_sort false ks n f) fs = refl
each_straight (aggregate ks n) fs = refl

pub sorts_straight : (o : Op) (fs : List Facts) (p : Bool) (ks : List Key) → manner o fs ≡ sorting p ks → is_straight (way o) ≡ p
sorts_straight o fs p ks e = sym (each_straight o fs) ∙ ap (λ m. sorts_streams m (is_straight (way o))) e

-- ---- cuts

no_skip : (k : Kind) (x : NodeRecord) → eqb (kind_number k) 9 ≡ false → (semantics.cuts (operator_of k x)).skip ≡ 0
no_skip Source x e = refl
no_skip Filter x e = refl
no_skip Projection x e = refl
no_skip Union x e = refl
no_skip Repartition x e = refl
no_skip Coalesce x e = refl
no_skip Sort x e = refl
no_skip Merge x e = refl
no_skip GlobalLimit x e = no_bool (sym e)
no_skip LocalLimit x e = refl
no_skip SortMergeJoin x e = refl
no_skip HashJoin x e = refl
no_skip OutputRequirement x e = refl
no_skip PartialSort x e = refl
no_skip Aggregate x e = refl

module _ (r : List ℕ) (p : Proper r) where
  pub unskipped : eqb (get_or r 0 0) 9 ≡ false → 0 ≡ (semantics.cuts (decode r)).skip
  unskipped e =
      sym (ap (λ o. (semantics.cuts o).skip) (op_of r (kind_of (get_or r 0 0)) refl)
      ∙ no_skip (kind_of (get_or r 0 0)) (from_bytes r) (ap (λ k. eqb (kind_number k) 9) (kind_is r) ∙ ap (λ n. eqb n 9) (sym p.kind) ∙ e))

  pub skipped : eqb (get_or r 0 0) 9 ≡ true → (n : ℕ) → n ≡ (from_bytes r).skip → n ≡ (semantics.cuts (decode r)).skip
  skipped e n h = h ∙ sym (ap (λ o. (semantics.cuts o).skip) (op_of r GlobalLimit (code-kind r GlobalLimit (ap (λ k. eqb k 9) (sym p.kind) ∙ e))))

  -- ---- projections

  pub projects : eqb (code (decode r)) 3 ≡ true → (x : ColumnRow) → x.items ≡ tail_columns r → x.len ≡ get_or r 13 0 → Projects (decode r) x
  projects e x f g =
      let k = code-kind r Projection e in
      let w = p.wide in
      let l = p.long in
      record {
        is = op_of r Projection k ∙ ap₂ (λ (n : ℕ) (c : List ℕ). projection (take n c)) (sym g) (sym f);
        few = omega arith;
        long = ap length f ∙ (length_tail r l);
        columns = subst Columns (sym f) (p.child k);
      }
    where
      length_tail : (r : List ℕ) → length r ≡ 64 → length (tail_columns r) ≡ 32
      length_tail r l = length-drop 32 r ∙ omega arith

-- no other kind changes a row
pub shown_same : (o : Op) (x : Row) → eqb (code o) 3 ≡ false → shown o x ≡ x
shown_same (source s) x e = refl
shown_same filter x e = refl
shown_same (projection cols) x e = no_bool (sym e)
shown_same union x e = refl
shown_same (repartition p n h ks) x e = refl
shown_same (coalesce f) x e = refl
shown_same (sort_op p ks f) x e = refl
shown_same (merge_op ks f) x e = refl
shown_same (global_limit s f note) x e = refl
shown_same (local_limit f note) x e = refl
shown_same (sort_merge_join t on) x e = refl
shown_same (hash_join t on) x e = refl
shown_same (output_requirement ks d f) x e = refl
shown_same (partial_sort p ks n f) x e = refl
shown_same (aggregate ks n) x e = refl

pub shown-columns : (o : Op) (r : ColumnRow) (x : Row) → Projects o r → shown o x ≡ proj (take r.len r.items) x
shown-columns o r x p = ap (λ q. shown q x) p.is
