-- The line of a node in a listing: document 01, 'Worked on paper', "prints number, depth, kind, streams, fetch, keys". These are definitions.
use Rattle.std.specs.Prelude.{◌≡◌, cond, List, [], ◌∷◌, ◌++◌, ℕ, zero, suc, ◌+◌, ◌/◌, ◌%◌, ◌≤◌, ltb, length, get_or, take, drop, Option, Some, None}
use Prim.Native.Char.{code}
use Prim.Native.String.{String, [] as []ᵀ, ◌∷◌ as ◌∷ᵀ◌}
use Rattle.row_order.specs.Iso.{Key}
use Rattle.scan.specs.Bytes.{part, le32}
use Rattle.plan.specs.Numbers.{kind_of}
use Rattle.plan.specs.declared.Kind.{Kind}
use Rattle.plan.specs.declared.Kind.TheVariants.{Source, Filter, Projection, Union, Repartition, Coalesce, Sort, Merge, GlobalLimit, LocalLimit, SortMergeJoin, HashJoin, OutputRequirement, PartialSort, Aggregate}
use Rattle.plan_format.specs.Fields.{fields_of}
use Rattle.plan_codec.specs.Decode.{fetch_of, keys_of}
use Rattle.fact_slots.specs.Slots.{loaded}

-- ---- words

-- the bytes of a text
abbrev pub ascii : String → List ℕ
ascii []ᵀ = []
ascii (c ∷ᵀ s) = code c ∷ ascii s

abbrev pub space : List ℕ
space = ascii " "

abbrev pub comma : List ℕ
comma = ascii ","

-- a number's digits, the first the highest, where k are enough
unfoldable pub digits_in : ℕ → ℕ → List ℕ
digits_in zero n = []
digits_in (suc k) n = cond (ltb n 10) ((48 + n) ∷ []) (digits_in k (n / 10) ++ ((48 + n % 10) ∷ []))

-- "Numbers are decimal": twenty digits are enough for 64 bits
abbrev pub decimal : ℕ → List ℕ
decimal n = digits_in 20 n

-- "kinds have the names above, with hyphens for spaces"; 02, P1: an aggregate
unfoldable pub kind_name : Kind → List ℕ
kind_name Source = ascii "source"
kind_name Filter = ascii "filter"
kind_name Projection = ascii "projection"
kind_name Union = ascii "union"
kind_name Repartition = ascii "repartition"
kind_name Coalesce = ascii "coalesce"
kind_name Sort = ascii "sort"
kind_name Merge = ascii "merge"
kind_name GlobalLimit = ascii "global-limit"
kind_name LocalLimit = ascii "local-limit"
kind_name SortMergeJoin = ascii "sort-merge-join"
kind_name HashJoin = ascii "hash-join"
kind_name OutputRequirement = ascii "output-requirement"
kind_name PartialSort = ascii "partial-sort"
kind_name Aggregate = ascii "aggregate"

-- "A hyphen stands for none"
abbrev pub fetch_text : Option ℕ → List ℕ
fetch_text None = ascii "-"
fetch_text (Some n) = decimal n

-- "keys (column, a or d, nulls f or l)"
abbrev pub key_text : Key → List ℕ
key_text k = decimal k.col ++ (cond k.desc (code "d") (code "a") ∷ cond k.first (code "f") (code "l") ∷ [])

-- a comma before each key
unfoldable pub further : List Key → List ℕ
further [] = []
further (k ∷ ks) = (comma ++ key_text k) ++ further ks

-- the keys, with commas between them; a hyphen for none
abbrev pub keys_text : List Key → List ℕ
keys_text [] = ascii "-"
keys_text (k ∷ ks) = key_text k ++ further ks

-- ---- lines

-- words with a space between two, and a line end
abbrev pub row : List (List ℕ) → List ℕ
row [] = ascii "\n"
row (w ∷ []) = w ++ ascii "\n"
row (w ∷ v ∷ ws) = w ++ (space ++ row (v ∷ ws))

abbrev pub line_of : ℕ → ℕ → Kind → ℕ → Option ℕ → List Key → List ℕ
line_of node depth kind streams fetch keys =
    row (decimal node ∷ decimal depth ∷ kind_name kind ∷ decimal streams ∷ fetch_text fetch ∷ keys_text keys ∷ [])

-- ---- from a slot of the arena: the node's record stands in its first 64 bytes, the facts kept of it in its last 112. Said over the bytes that the code
-- reads, by the names that the codec has for them (plan_codec, from_bytes): a kind without keys has a key count of zero

-- a record whose kind has no fetch has none
abbrev pub fetch_in : ℕ → ℕ → Option ℕ
fetch_in k n = cond (fields_of k).fetch (fetch_of n) None

unfoldable pub slot_line : List ℕ → ℕ → ℕ → List ℕ
slot_line s node depth =
    line_of node depth (kind_of (get_or s 0 0)) (loaded (part 80 112 s)).streams (fetch_in (get_or s 0 0) (le32 s 4)) (keys_of (get_or s 12 0) (part 16 16 s))

-- ---- text in a lent buffer

-- t, of at most `most` bytes, stands in b from a place on, up to e; every other byte is as it was
pub record Put (most : ℕ) (t : List ℕ) (at : ℕ) (b : List ℕ) (e : ℕ) (out : List ℕ) : Type 0 where
  pub few : length t ≤ most
  pub ends : e ≡ at + length t
  pub is : out ≡ take at b ++ (t ++ drop e b)
