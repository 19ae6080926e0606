-- From the 64 bytes of a record to an operator. These are definitions.
use Rattle.std.specs.Prelude.{cond, List, [], ◌∷◌, ℕ, zero, suc, ◌-◌, eqb, length, get_or, take, drop, Option, Some, None}
use Rattle.row_order.specs.Iso.{Key}
use Rattle.row_order.specs.Packed.{bit}
use Rattle.scan.specs.Bytes.{part, le32}
use Rattle.plan.specs.Op.{On, Op, source, filter, projection, union, repartition, coalesce, sort_op, merge_op, global_limit, local_limit, sort_merge_join, hash_join, output_requirement, partial_sort, aggregate}
use Rattle.plan.specs.Numbers.{kind_of, join_type_of, no_fetch}
use Rattle.plan.specs.declared.Kind.{Kind}
use Rattle.plan.specs.declared.Kind.TheVariants.{Source, Filter, Projection, Union, Repartition, Coalesce, Sort, Merge, GlobalLimit, LocalLimit, SortMergeJoin, HashJoin, OutputRequirement, PartialSort, Aggregate}
use Rattle.plan.specs.declared.Distribution.{Distribution}
use Rattle.plan.specs.declared.Distribution.TheVariants.{Unspecified, Single, Keyed}
use Rattle.plan_codec.specs.NodeRecord.{NodeRecord}

-- "4-7 fetch, 4294967295 for none"
abbrev pub fetch_of : ℕ → Option ℕ
fetch_of n = cond (eqb n no_fetch) None (Some n)

-- "keys of two bytes, column and options (bit 0 descending, bit 1 nulls first)"
abbrev pub key_of_bytes : ℕ → ℕ → Key
key_of_bytes c o = record { col = c; desc = bit o 0; first = bit o 1 }

-- n keys, from their bytes
abbrev pub keys_of : ℕ → List ℕ → List Key
keys_of zero l = []
keys_of (suc n) [] = []
keys_of (suc n) (c ∷ []) = []
keys_of (suc n) (c ∷ o ∷ l) = key_of_bytes c o ∷ keys_of n l

-- the fields of a record
abbrev pub from_bytes : List ℕ → NodeRecord
from_bytes r =
    record {
      kind = kind_of (get_or r 0 0);
      children = get_or r 1 0;
      streams = get_or r 2 0;
      preserve = bit (get_or r 3 0) 0;
      hash = bit (get_or r 3 0) 1;
      unbounded = bit (get_or r 3 0) 2;
      fetch = fetch_of (le32 r 4);
      skip = le32 r 8;
      keys = keys_of (get_or r 12 0) (part 16 16 r);
      width = get_or r 13 0;
      role = get_or r 14 0;
      tail = drop 32 r;
    }

-- "distribution (kind 13: 0 none, 1 single, 2 keyed)", keyed with its columns
abbrev pub distribution_of : ℕ → ℕ → Distribution
distribution_of zero s = Unspecified
distribution_of (suc zero) s = Single
distribution_of (suc (suc n)) s = Keyed s

-- "32-39 joins: right key columns", one beside each key
abbrev pub on_of : List Key → List ℕ → List On
on_of [] l = []
on_of (k ∷ ks) [] = []
on_of (k ∷ ks) (c ∷ l) = record { key = k; other = c } ∷ on_of ks l

-- What each kind has. "32-35 a column set by bits (source: constants; kind 13: keyed columns); 32-63 projection: child columns"
abbrev pub operator_of : Kind → NodeRecord → Op
operator_of Source x = source (record { width = x.width; streams = x.streams; constants = le32 x.tail 0; keys = x.keys; unbounded = x.unbounded })
operator_of Filter x = filter
operator_of Projection x = projection (take x.width x.tail)
operator_of Union x = union
operator_of Repartition x = repartition x.preserve x.streams x.hash x.keys
operator_of Coalesce x = coalesce x.fetch
operator_of Sort x = sort_op x.preserve x.keys x.fetch
operator_of Merge x = merge_op x.keys x.fetch
operator_of GlobalLimit x = global_limit x.skip x.fetch x.keys
operator_of LocalLimit x = local_limit x.fetch x.keys
operator_of SortMergeJoin x = sort_merge_join (join_type_of x.role) (on_of x.keys x.tail)
operator_of HashJoin x = hash_join (join_type_of x.role) (on_of x.keys x.tail)
operator_of OutputRequirement x = output_requirement x.keys (distribution_of x.role (le32 x.tail 0)) x.fetch
operator_of PartialSort x = partial_sort x.preserve x.keys x.role x.fetch
-- 02, P1: "width .. = group columns plus aggregate columns"
operator_of Aggregate x = aggregate x.keys (x.width - length x.keys)

unfoldable pub decode : List ℕ → Op
decode r = operator_of (kind_of (get_or r 0 0)) (from_bytes r)
