-- One node of a plan: its kind with the fields that document 01 gives that kind, and 02 an aggregate. These are definitions.
use Rattle.std.specs.Prelude.{Bool, true, false, cond, List, [], ◌∷◌, ℕ, zero, suc, Option}
use Rattle.row_order.specs.Iso.{Key}
use Rattle.plan.specs.Forest.{Forest}
use Rattle.plan.specs.declared.Kind.{Kind}
use Rattle.plan.specs.declared.Kind.TheVariants.{Source, Filter, Projection, Union, Repartition, Coalesce, Sort, Merge, GlobalLimit, LocalLimit, SortMergeJoin, HashJoin, OutputRequirement, PartialSort, Aggregate}
use Rattle.plan.specs.declared.JoinType.{JoinType}
use Rattle.plan.specs.declared.Distribution.{Distribution}

-- A join key: the left column with its options, and the right column
pub record On : Type 0 where
  pub key : Key
  pub other : ℕ

-- What a source declares: its columns and streams, the set of its constant columns by bits, the order of each stream, and whether its
-- rows go on without end
pub record SourceInfo : Type 0 where
  pub width : ℕ
  pub streams : ℕ
  pub constants : ℕ
  pub keys : List Key
  pub unbounded : Bool

pub data Op : Type 0 where
  source : SourceInfo → Op
  filter : Op
  -- for each output column its child column
  projection : List ℕ → Op
  union : Op
  -- preserve, streams, hash (else round robin), hash keys
  repartition : Bool → ℕ → Bool → List Key → Op
  -- fetch
  coalesce : Option ℕ → Op
  -- preserve, keys, fetch
  sort_op : Bool → List Key → Option ℕ → Op
  -- keys, fetch
  merge_op : List Key → Option ℕ → Op
  -- skip, fetch, order note
  global_limit : ℕ → Option ℕ → List Key → Op
  -- fetch, order note
  local_limit : Option ℕ → List Key → Op
  sort_merge_join : JoinType → List On → Op
  hash_join : JoinType → List On → Op
  -- keys, distribution, fetch
  output_requirement : List Key → Distribution → Option ℕ → Op
  -- preserve, keys, met prefix, fetch
  partial_sort : Bool → List Key → ℕ → Option ℕ → Op
  -- 02, P1: group columns, as keys with options 0; how many aggregate columns stand behind them
  aggregate : List Key → ℕ → Op

abbrev pub Plan : Type 0
Plan = Forest Op

abbrev pub kind : Op → Kind
kind (source s) = Source
kind filter = Filter
kind (projection cols) = Projection
kind union = Union
kind (repartition p n h ks) = Repartition
kind (coalesce f) = Coalesce
kind (sort_op p ks f) = Sort
kind (merge_op ks f) = Merge
kind (global_limit s f note) = GlobalLimit
kind (local_limit f note) = LocalLimit
kind (sort_merge_join t on) = SortMergeJoin
kind (hash_join t on) = HashJoin
kind (output_requirement ks d f) = OutputRequirement
kind (partial_sort p ks n f) = PartialSort
kind (aggregate ks n) = Aggregate
