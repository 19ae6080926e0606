-- What it is to keep declared facts, said of pairs of rows; and source rows that keep them, any number on every stream. These are
-- definitions.
use Rattle.std.specs.Prelude.{◌≡◌, Bool, true, false, cond, not, ◌&&◌, ℕ, ◌<◌, ℤ, pos, negsuc, ltb, length, get_or}
use mathlib.Core.List.{Memᴰ as Mem, List, [], ◌∷◌}
use Rattle.row_order.specs.Iso.{num, Row, Key, cell}
use Rattle.row_order.specs.Lists.{All, Pw, tab}
use Rattle.row_order.specs.Packed.{bit}
use Rattle.plan.specs.Forest.{none, tree}
use Rattle.plan.specs.Op.{SourceInfo, Op, source, filter, projection, union, repartition, coalesce, sort_op, merge_op, global_limit, local_limit, sort_merge_join, hash_join, output_requirement, partial_sort, aggregate, Plan}
use Rattle.semantics.specs.Runs.{Env, Wide}

-- Any two rows have the same cell in each column of the set s
abbrev pub Agree : ℕ → List Row → Type 0
Agree s l = (x y : Row) → Mem x l → Mem y l → (c : ℕ) → bit s c ≡ true → cell x c ≡ cell y c

-- The columns of a source that are not constant
abbrev pub varies : SourceInfo → ℕ → Bool
varies s c = ltb c s.width && not (bit s.constants c)

-- Whether the first key in a column that varies descends
abbrev pub descends : (ℕ → Bool) → List Key → Bool
descends p [] = false
descends p (k ∷ ks) = cond (p k.col) k.desc (descends p ks)

-- The numbers 0, 1, 2 .., or -1, -2, -3 ..
abbrev pub counted : Bool → ℕ → ℤ
counted false m = pos m
counted true m = negsuc m

-- Row m of a source: the first of these numbers in each constant column, the m-th in the others; they go down where the first key of a column
-- that varies descends
abbrev pub source_row : SourceInfo → ℕ → Row
source_row s m = tab s.width (λ c. num (counted (descends (varies s) s.keys) (cond (bit s.constants c) 0 m)))

-- The sources of a plan, in node order, before those of l
abbrev pub own : Op → List SourceInfo → List SourceInfo
own (source s) l = s ∷ l
own filter l = l
own (projection cols) l = l
own union l = l
own (repartition p n h ks) l = l
own (coalesce f) l = l
own (sort_op p ks f) l = l
own (merge_op ks f) l = l
own (global_limit s f note) l = l
own (local_limit f note) l = l
own (sort_merge_join t on) l = l
own (hash_join t on) l = l
own (output_requirement ks d f) l = l
own (partial_sort p ks n f) l = l
own (aggregate ks n) l = l

abbrev pub sources_of : Plan → List SourceInfo → List SourceInfo
sources_of none l = l
sources_of (tree o c r) l = own o (sources_of c (sources_of r l))

abbrev pub no_source : SourceInfo
no_source = record { width = 0; streams = 0; constants = 0; keys = []; unbounded = false }

-- n rows on every stream of every source; every filter lets all rows pass
abbrev pub rows_for : ℕ → Plan → Env
rows_for n f = record { rows = λ i k. tab n (source_row (get_or (sources_of f []) i no_source)); test = λ j r. true }

-- Of a source whose streams have these rows: n on each, as wide as the source, and no two of a stream have the same cell in a column
-- that is not constant
pub record Filled (n : ℕ) (rows : ℕ → List Row) (s : SourceInfo) : Type 0 where
  pub many : All (λ l. length l ≡ n) (tab s.streams rows)
  pub wide : Wide s.width (tab s.streams rows)
  pub differ : (c : ℕ) → c < s.width → bit s.constants c ≡ false → All (Pw (λ x y. cell x c ≡ cell y c → ⊥)) (tab s.streams rows)
