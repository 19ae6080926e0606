-- The last pass at one record: its rules on bytes are those on operators.
use Rattle.std.specs.Prelude.{◌≡◌, refl, Bool, true, false, ◌&&◌, ℕ, ◌+◌, ◌*◌, ◌/◌, ◌^◌, ◌≤◌, leb, ltb, eqb, length, take}
use Rattle.std.proofs.Math.Path.{sym, ap}
use Rattle.std.proofs.Common.{ap₂, ◌∙◌, eq-eqb, leb-true}
use mathlib.Core.List.{List, map}
use native.Mathlib.Omega.{arith}
use Rattle.std.proofs.Math.Nat.{zero-div}
use Rattle.std.specs.Int.Count.{ones}
use Rattle.std.proofs.Math.ListN.{get_or}
use Rattle.std.proofs.lemmas.List.{length-map}
use Rattle.scan.specs.Below.{and_left, and_right, or_false, and_true}
use Rattle.scan.specs.Bytes.{part, le32}
use Rattle.plan.specs.Op.{On, Op, source, filter, projection, union, repartition, coalesce, sort_op, merge_op, global_limit, local_limit, sort_merge_join, hash_join, output_requirement, partial_sort, aggregate, kind}
use Rattle.plan.specs.Numbers.{kind_number, join_number}
use Rattle.plan.specs.WellFormed.{between, few, distribution_ok, fetch_ok, fields_ok, width, join_width, union_ok, columns_fit, keys_fit, on_fit, set_fits, distribution_fits, below, columns_ok, children_ok}
use Rattle.plan.specs.declared.JoinType.{JoinType}
use Rattle.plan.specs.declared.JoinType.TheVariants.{Inner, Left, Right, Full, LeftSemi, LeftAnti, RightSemi, RightAnti}
use Rattle.plan.specs.declared.Distribution.{Distribution}
use Rattle.plan.specs.declared.Distribution.TheVariants.{Unspecified, Single, Keyed}
use Rattle.plan_format.specs.Blocks.{span}
use Rattle.plan_format.specs.Record.{fields}
use Rattle.plan_format.specs.Record.{children_ok as count_ok}
use Rattle.plan_format.specs.LastPass.{width_of, set_below, key_columns, column_limit, columns_rule}
use Rattle.plan_format.specs.LastPass.{join_width as byteWidth, union_ok as unionRule, columns_ok as columnsBelow}
use Rattle.plan_format.specs.Writing.{four_bytes}
use Rattle.plan_codec.specs.NodeRecord.{NodeRecord}
use Rattle.plan_codec.specs.Encode.{fill, key_bytes, keyed_set, record_of, to_bytes, encode}
use Rattle.plan_codec.proofs.Fill.{fill-take, fill_at}
use Rattle.plan_codec.proofs.Keys.{columns_of, length_bytes, on_columns}
use Rattle.plan_codec.proofs.Columns.{below_list, widths_list, columns_list}
use Rattle.plan_codec.proofs.Rules.{tail_is, key_byte, keys_are}
use Rattle.plan_codec.proofs.Rules.{set_is as bytes-set}
use Rattle.plan_codec.proofs.ToRecord.{set_is, few_of}

-- ---- widths, unions, child counts

join_width_lem : (t : JoinType) (a b : ℕ) → byteWidth (join_number t) a b ≡ join_width t a b
join_width_lem Inner a b = refl
join_width_lem Left a b = refl
join_width_lem Right a b = refl
join_width_lem Full a b = refl
join_width_lem LeftSemi a b = refl
join_width_lem LeftAnti a b = refl
join_width_lem RightSemi a b = refl
join_width_lem RightAnti a b = refl

pub width_same : (k : ℕ) (o : Op) (ws : List ℕ) → width_of (fields (encode k o)) (encode k o) ws ≡ width o ws
unfolding encode
width_same k (source s) ws = refl
width_same k filter ws = refl
width_same k (projection cols) ws = refl
width_same k union ws = refl
width_same k (repartition p n h ks) ws = refl
width_same k (coalesce f) ws = refl
width_same k (sort_op p ks f) ws = refl
width_same k (merge_op ks f) ws = refl
width_same k (global_limit s f note) ws = refl
width_same k (local_limit f note) ws = refl
width_same k (sort_merge_join t on) ws = join_width_lem t (get_or ws 0 0) (get_or ws 1 0)
width_same k (hash_join t on) ws = join_width_lem t (get_or ws 0 0) (get_or ws 1 0)
width_same k (output_requirement ks d f) ws = refl
width_same k (partial_sort p ks n f) ws = refl
width_same k (aggregate ks n) ws = refl

pub union_same : (k : ℕ) (o : Op) (ws : List ℕ) → unionRule (encode k o) ws ≡ union_ok o ws
unfolding encode
union_same k (source s) ws = refl
union_same k filter ws = refl
union_same k (projection cols) ws = refl
union_same k union ws = widths_list ws
union_same k (repartition p n h ks) ws = refl
union_same k (coalesce f) ws = refl
union_same k (sort_op p ks f) ws = refl
union_same k (merge_op ks f) ws = refl
union_same k (global_limit s f note) ws = refl
union_same k (local_limit f note) ws = refl
union_same k (sort_merge_join t on) ws = refl
union_same k (hash_join t on) ws = refl
union_same k (output_requirement ks d f) ws = refl
union_same k (partial_sort p ks n f) ws = refl
union_same k (aggregate ks n) ws = refl

pub children_same : (o : Op) (m : ℕ) → count_ok (kind_number (kind o)) m ≡ children_ok o m
children_same (source s) m = or_false (eqb m 0)
children_same filter m = refl
children_same (projection cols) m = refl
children_same union m = or_false (between 2 8 m)
children_same (repartition p n h ks) m = refl
children_same (coalesce f) m = refl
children_same (sort_op p ks f) m = refl
children_same (merge_op ks f) m = refl
children_same (global_limit s f note) m = refl
children_same (local_limit f note) m = refl
children_same (sort_merge_join t on) m = or_false (eqb m 2)
children_same (hash_join t on) m = or_false (eqb m 2)
children_same (output_requirement ks d f) m = refl
children_same (partial_sort p ks n f) m = refl
children_same (aggregate ks n) m = refl

-- ---- columns

module _ (x : NodeRecord) where
  -- the columns of the keys
  key_columns_lem : length x.keys ≤ 8 → take (length x.keys) (key_columns (to_bytes x)) ≡ map (λ k. k.col) x.keys
  unfolding span
  key_columns_lem h =
      let n = length_bytes x.keys in
      columns_of x.keys (λ i. get_or (to_bytes x) (16 + 2 * i) 0) 0 8 h
      (λ i q. (let z : 0 + i ≡ i = omega arith in ap (λ (j : ℕ). get_or (to_bytes x) (16 + 2 * j) 0) z
      ∙ sym (key_byte (to_bytes x) (2 * i) (omega arith)) ∙ ap (λ (l : List ℕ). get_or l (2 * i) 0) (keys_are x) ∙ fill_at 16 (key_bytes x.keys) (2 * i)
      (omega arith)))

  keys_rule : (w : ℕ) → length x.keys ≤ 8 → columnsBelow (take (length x.keys) (key_columns (to_bytes x))) w ≡ keys_fit w x.keys
  keys_rule w h = columns_list (take (length x.keys) (key_columns (to_bytes x))) w ∙ ap (columns_fit w) (key_columns_lem h)

  -- the columns from byte 32 on
  tail_columns_lem : (l : List ℕ) → x.tail ≡ fill 32 l → length l ≤ 32 → part 32 (length l) (to_bytes x) ≡ l
  tail_columns_lem l e h = ap (take (length l)) (tail_is x ∙ e) ∙ fill-take 32 l h

  set_rule : (w s : ℕ) → x.tail ≡ fill 32 (four_bytes s) → ltb s (2 ^ 32) ≡ true → set_below (le32 (to_bytes x) 32) w ≡ set_fits w s
  set_rule w s e h = ap (λ (y : ℕ). set_below y w) (bytes-set x ∙ ap (λ (l : List ℕ). le32 l 0) e ∙ set_is s h)

ones_only : (b : Bool) → b && true && true ≡ b
ones_only true = refl
ones_only false = refl

empty_set : (w : ℕ) → set_fits w 0 ≡ true
empty_set w = eq-eqb (0 / 2 ^ w) 0 (zero-div (2 ^ w))

distribution_rule : (x : NodeRecord) (w : ℕ) (d : Distribution) → x.tail ≡ fill 32 (four_bytes (keyed_set d)) → distribution_ok d ≡ true
    → set_below (le32 (to_bytes x) 32) w ≡ distribution_fits w d
distribution_rule x w Unspecified e h = set_rule x w 0 e refl ∙ empty_set w
distribution_rule x w Single e h = set_rule x w 0 e refl ∙ empty_set w
distribution_rule x w (Keyed s) e h = set_rule x w s e (and_left (ltb s (2 ^ 32)) (between 1 8 (ones s)) h)

-- records whose only columns are their keys'
keys_alone : (x : NodeRecord) (w : ℕ) → length x.keys ≤ 8 → columnsBelow (take (length x.keys) (key_columns (to_bytes x))) w && true
    && true ≡ keys_fit w x.keys
keys_alone x w h = ones_only (columnsBelow (take (length x.keys) (key_columns (to_bytes x))) w) ∙ keys_rule x w h

-- a join's: the left key columns below w, the right ones below v
join_rule : (x : NodeRecord) (w v : ℕ) (on : List On) → x.keys ≡ map (λ k. k.key) on → x.tail ≡ fill 32 (map (λ k. k.other) on) → length x.keys ≤ 8
    → columnsBelow (take (length x.keys) (key_columns (to_bytes x))) w && true && columnsBelow (part 32 (length x.keys) (to_bytes x)) v ≡ on_fit w v on
join_rule x w v on ek et h =
    let a = length-map on (λ k. k.key) in
    let b = length-map on (λ k. k.other) in
    let n : length x.keys ≡ length (map (λ k. k.other) on) = ap length ek ∙ a ∙ sym b in
    ap₂ ◌&&◌ (and_true (columnsBelow (take (length x.keys) (key_columns (to_bytes x))) w) ∙ keys_rule x w h ∙ ap (keys_fit w) ek
    ∙ ap (columns_fit w) (on_columns on))
    (ap (λ (m : ℕ). columnsBelow (part 32 m (to_bytes x)) v) n ∙ columns_list (part 32 (length (map (λ k. k.other) on)) (to_bytes x)) v
    ∙ ap (columns_fit v) (tail_columns_lem x (map (λ k. k.other) on) et (omega arith)))

pub columns_same : (k : ℕ) (o : Op) (ws : List ℕ) → fields_ok o ≡ true → columns_rule (fields (encode k o)) (encode k o)
    (column_limit (fields (encode k o)) (encode k o) ws) (get_or ws 1 0) ≡ columns_ok o ws
unfolding encode
columns_same k (source s) ws e =
    let x : NodeRecord = record_of k (source s) in
    let b = and_right (between 1 32 s.width && between 1 64 s.streams) (ltb s.constants (2 ^ 32) && few s.keys) e in
    and_true (columnsBelow (take (length s.keys) (key_columns (to_bytes x))) s.width && set_below (le32 (to_bytes x) 32) s.width)
    ∙ ap₂ ◌&&◌ (keys_rule x s.width (few_of k (source s) e))
    (set_rule x s.width s.constants refl (and_left (ltb s.constants (2 ^ 32)) (few s.keys) b))
columns_same k filter ws e = keys_alone (record_of k filter) (get_or ws 0 0) (few_of k filter e)
columns_same k (projection cols) ws e =
    let x : NodeRecord = record_of k (projection cols) in
    ap₂ (λ (a b : Bool). a && true && (b && true)) (keys_rule x (get_or ws 0 0) (omega arith)) (below_list (part 32 (length cols) (to_bytes x)) (get_or ws 0 0)
    ∙ ap (below (get_or ws 0 0)) (tail_columns_lem x cols refl (leb-true (length cols) 32 (and_right (leb 1 (length cols)) (leb (length cols) 32) e))))
    ∙ and_true (below (get_or ws 0 0) cols)
columns_same k union ws e = keys_alone (record_of k union) (get_or ws 0 0) (few_of k union e)
columns_same k (repartition p n h ks) ws e = keys_alone (record_of k (repartition p n h ks)) (get_or ws 0 0) (few_of k (repartition p n h ks) e)
columns_same k (coalesce f) ws e = keys_alone (record_of k (coalesce f)) (get_or ws 0 0) (few_of k (coalesce f) e)
columns_same k (sort_op p ks f) ws e = keys_alone (record_of k (sort_op p ks f)) (get_or ws 0 0) (few_of k (sort_op p ks f) e)
columns_same k (merge_op ks f) ws e = keys_alone (record_of k (merge_op ks f)) (get_or ws 0 0) (few_of k (merge_op ks f) e)
columns_same k (global_limit s f note) ws e = keys_alone (record_of k (global_limit s f note)) (get_or ws 0 0) (few_of k (global_limit s f note) e)
columns_same k (local_limit f note) ws e = keys_alone (record_of k (local_limit f note)) (get_or ws 0 0) (few_of k (local_limit f note) e)
columns_same k (sort_merge_join t on) ws e = join_rule (record_of k (sort_merge_join t on)) (get_or ws 0 0) (get_or ws 1 0) on refl refl
    (few_of k (sort_merge_join t on) e)
columns_same k (hash_join t on) ws e = join_rule (record_of k (hash_join t on)) (get_or ws 0 0) (get_or ws 1 0) on refl refl (few_of k (hash_join t on) e)
columns_same k (output_requirement ks d f) ws e =
    let x : NodeRecord = record_of k (output_requirement ks d f) in
    and_true (columnsBelow (take (length ks) (key_columns (to_bytes x))) (get_or ws 0 0) && set_below (le32 (to_bytes x) 32) (get_or ws 0 0))
    ∙ ap₂ ◌&&◌ (keys_rule x (get_or ws 0 0) (few_of k (output_requirement ks d f) e))
    (distribution_rule x (get_or ws 0 0) d refl (and_left (distribution_ok d) (fetch_ok f) (and_right (few ks) (distribution_ok d && fetch_ok f) e)))
columns_same k (partial_sort p ks n f) ws e = keys_alone (record_of k (partial_sort p ks n f)) (get_or ws 0 0) (few_of k (partial_sort p ks n f) e)
columns_same k (aggregate ks n) ws e = keys_alone (record_of k (aggregate ks n)) (get_or ws 0 0) (few_of k (aggregate ks n) e)
