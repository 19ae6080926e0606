-- What the leaves ask of a record: any record of a plan's node is so. These are definitions.
use Rattle.std.specs.Prelude.{◌≡◌, true, List, map, ℕ, ◌≤◌, length, get_or}
use Rattle.plan.specs.Op.{On}
use Rattle.plan.specs.Numbers.{code, kind_of}
use Rattle.plan.specs.WellFormed.{below, fields_ok, columns_of}
use Rattle.plan.specs.declared.Kind.TheVariants.{Projection, SortMergeJoin, PartialSort}
use Rattle.class_tables.specs.Tables.{Columns}
use Rattle.plan_codec.specs.Decode.{decode, from_bytes, on_of}
use Rattle.record_fields.specs.Fields.{tail_columns}

-- A record's key pairs
abbrev pub pairs_of : List ℕ → List On
pairs_of r = on_of (from_bytes r).keys (from_bytes r).tail

-- Its kind is one of the fifteen, its fields are in their rules, its columns below 32
pub record Proper (r : List ℕ) : Type 0 where
  pub long : length r ≡ 64
  pub kind : get_or r 0 0 ≡ code (decode r)
  pub fields : fields_ok (decode r) ≡ true
  pub few : get_or r 12 0 ≤ 8
  pub wide : get_or r 13 0 ≤ 32
  pub keys : below 32 (columns_of (from_bytes r).keys) ≡ true
  pub others : kind_of (get_or r 0 0) ≡ SortMergeJoin → below 32 (map (λ k. k.other) (pairs_of r)) ≡ true
  pub child : kind_of (get_or r 0 0) ≡ Projection → Columns (tail_columns r)
  pub prefix : kind_of (get_or r 0 0) ≡ PartialSort → get_or r 14 0 ≤ get_or r 12 0
