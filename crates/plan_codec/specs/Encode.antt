-- From an operator with a number of children to the 64 bytes of its record. These are definitions.
use Rattle.std.specs.Prelude.{Bool, true, false, List, [], ◌∷◌, ◌++◌, map, ℕ, zero, suc, ◌+◌, ◌*◌, length, Option, Some, None}
use Rattle.row_order.specs.Iso.{Key}
use Rattle.plan.specs.Op.{Op, source, filter, projection, union, repartition, coalesce, sort_op, merge_op, global_limit, local_limit, sort_merge_join, hash_join, output_requirement, partial_sort, aggregate}
use Rattle.plan.specs.Numbers.{kind_number, join_number, distribution_number, no_fetch}
use Rattle.plan.specs.declared.Kind.{Kind}
use Rattle.plan.specs.declared.Kind.TheVariants.{Source, Filter, Projection, Union, Repartition, Coalesce, Sort, Merge, GlobalLimit, LocalLimit, SortMergeJoin, HashJoin, OutputRequirement, PartialSort, Aggregate}
use Rattle.plan.specs.declared.Distribution.{Distribution}
use Rattle.plan.specs.declared.Distribution.TheVariants.{Unspecified, Single, Keyed}
use Rattle.scan.specs.Bytes.{one_if}
use Rattle.plan_format.specs.Writing.{four_bytes}
use Rattle.plan_codec.specs.NodeRecord.{NodeRecord}

-- n bytes: those of l, then zeros ("Unused fields and bits are zero")
abbrev pub fill : ℕ → List ℕ → List ℕ
fill zero l = []
fill (suc n) [] = 0 ∷ fill n []
fill (suc n) (x ∷ l) = x ∷ fill n l

-- "3 marks: bit 0 preserve, bit 1 hash, bit 2 unbounded"
abbrev pub marks_byte : Bool → Bool → Bool → ℕ
marks_byte p h u = one_if p + 2 * one_if h + 4 * one_if u

-- "4-7 fetch, 4294967295 for none"
abbrev pub fetch_number : Option ℕ → ℕ
fetch_number None = no_fetch
fetch_number (Some n) = n

-- "keys of two bytes, column and options (bit 0 descending, bit 1 nulls first)"
abbrev pub options_byte : Key → ℕ
options_byte k = one_if k.desc + 2 * one_if k.first

abbrev pub key_bytes : List Key → List ℕ
key_bytes [] = []
key_bytes (k ∷ ks) = k.col ∷ options_byte k ∷ key_bytes ks

-- the first 16 bytes of a record; "15 zero"
abbrev pub head_bytes : NodeRecord → List ℕ
head_bytes x =
    (kind_number x.kind ∷ x.children ∷ x.streams ∷ marks_byte x.preserve x.hash x.unbounded ∷ [])
    ++ (four_bytes (fetch_number x.fetch) ++ (four_bytes x.skip ++ (length x.keys ∷ x.width ∷ x.role ∷ 0 ∷ [])))

abbrev pub to_bytes : NodeRecord → List ℕ
to_bytes x = head_bytes x ++ (fill 16 (key_bytes x.keys) ++ x.tail)

-- the columns that kind 13 is keyed by
abbrev pub keyed_set : Distribution → ℕ
keyed_set Unspecified = 0
keyed_set Single = 0
keyed_set (Keyed s) = s

-- A record by its fields, in the file's order
abbrev pub with_fields : Kind → ℕ → ℕ → Bool → Bool → Bool → Option ℕ → ℕ → List Key → ℕ → ℕ → List ℕ → NodeRecord
with_fields kind children streams preserve hash unbounded fetch skip keys width role tail = record {
  kind = kind;
  children = children;
  streams = streams;
  preserve = preserve;
  hash = hash;
  unbounded = unbounded;
  fetch = fetch;
  skip = skip;
  keys = keys;
  width = width;
  role = role;
  tail = fill 32 tail;
}

-- What each kind has; all else is zero. "32-35 a column set by bits (source: constants; kind 13: keyed columns); 32-63 projection: child columns;
-- 32-39 joins: right key columns"
abbrev pub record_of : ℕ → Op → NodeRecord
record_of k (source s) = with_fields Source k s.streams false false s.unbounded (Some 0) 0 s.keys s.width 0 (four_bytes s.constants)
record_of k filter = with_fields Filter k 0 false false false (Some 0) 0 [] 0 0 []
record_of k (projection cols) = with_fields Projection k 0 false false false (Some 0) 0 [] (length cols) 0 cols
record_of k union = with_fields Union k 0 false false false (Some 0) 0 [] 0 0 []
record_of k (repartition p n h ks) = with_fields Repartition k n p h false (Some 0) 0 ks 0 0 []
record_of k (coalesce f) = with_fields Coalesce k 0 false false false f 0 [] 0 0 []
record_of k (sort_op p ks f) = with_fields Sort k 0 p false false f 0 ks 0 0 []
record_of k (merge_op ks f) = with_fields Merge k 0 false false false f 0 ks 0 0 []
record_of k (global_limit s f note) = with_fields GlobalLimit k 0 false false false f s note 0 0 []
record_of k (local_limit f note) = with_fields LocalLimit k 0 false false false f 0 note 0 0 []
record_of k (sort_merge_join t on) =
    with_fields SortMergeJoin k 0 false false false (Some 0) 0 (map (λ k. k.key) on) 0 (join_number t) (map (λ k. k.other) on)
record_of k (hash_join t on) = with_fields HashJoin k 0 false false false (Some 0) 0 (map (λ k. k.key) on) 0 (join_number t) (map (λ k. k.other) on)
record_of k (output_requirement ks d f) =
    with_fields OutputRequirement k 0 false false false f 0 ks 0 (distribution_number d) (four_bytes (keyed_set d))
record_of k (partial_sort p ks n f) = with_fields PartialSort k 0 p false false f 0 ks 0 n []
record_of k (aggregate ks n) = with_fields Aggregate k 0 false false false (Some 0) 0 ks (length ks + n) 0 []

unfoldable pub encode : ℕ → Op → List ℕ
encode k o = to_bytes (record_of k o)
