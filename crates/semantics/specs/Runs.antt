-- Runs of a plan (01, 'Rows'): "A run chooses streams for every node". These are definitions.
use Rattle.std.specs.Prelude.{◌≡◌, Bool, true, false, cond, not, List, [], ◌∷◌, ◌++◌, map, ℕ, zero, suc, eqb, length, get_or, take, drop, Option, Some, None}
use Rattle.row_order.specs.Iso.{Cell, Row, Key, cell, peers}
use Rattle.row_order.specs.Lists.{All, Mixes, Same, concat, tab}
use Rattle.row_order.specs.Packed.{bit}
use Rattle.row_order.specs.RowLists.{Sorted}
use Rattle.plan.specs.Forest.{Forest, none, tree, roots}
use Rattle.plan.specs.Op.{On, SourceInfo, Op, source, filter, projection, union, repartition, coalesce, sort_op, merge_op, global_limit, local_limit, sort_merge_join, hash_join, output_requirement, partial_sort, aggregate, Plan}
use Rattle.plan.specs.Numbers.{code}
use Rattle.plan.specs.WellFormed.{every, columns_of}
use Rattle.plan.specs.declared.JoinType.{JoinType}
use Rattle.semantics.specs.Facts.{Facts, keeps_order, smj_kept, hash_kept, by_right, at0, at1, facts, known_order}
use Rattle.semantics.specs.Properties.{Cut, cuts}
use Rattle.semantics.specs.Joins.{keep, Joined}

abbrev pub Streams : Type 0
Streams = List (List Row)

-- What a run is given, "both counted in node order": the rows of source i on its stream k; the test of filter j, "which sees that
-- row alone". Two runs are given the same where SameInputs, below
pub record Env : Type 0 where
  pub rows : ℕ → ℕ → List Row
  pub test : ℕ → Row → Bool

-- The number of the next source, and of the next filter, after a node
abbrev pub next_s : Op → ℕ → ℕ
next_s o i = cond (eqb (code o) 1) (suc i) i

abbrev pub next_f : Op → ℕ → ℕ
next_f o j = cond (eqb (code o) 2) (suc j) j

-- and after all nodes of a forest, in node order
abbrev pub past : (Op → ℕ → ℕ) → Plan → ℕ → ℕ
past n none i = i
past n (tree o c r) i = past n r (past n c (n o i))

-- ---- what a node may do

-- Two lists of one length, related place by place
pub data Each {A B : Type 0} (R : A → B → Type 0) : List A → List B → Type 0 where
  each_nil : Each R [] []
  each_cons : {x : A} {y : B} {l : List A} {m : List B} → R x y → Each R l m → Each R (x ∷ l) (y ∷ m)

-- One output stream, of which P
pub record OneStream (P : List Row → Type 0) (out : Streams) : Type 0 where
  pub one : List Row
  pub is : out ≡ one ∷ []
  pub that : P one

-- "projection picks columns"
abbrev pub proj : List ℕ → Row → Row
proj cols r = map (cell r) cols

-- "repartition any split, in the known order on each output stream where it maintains and its inputs are": n output streams that
-- together hold the rows of the input streams, each as often (reading 19). ks: the known order; b: it maintains
pub record Split (n : ℕ) (ks : List Key) (b : Bool) (ins out : Streams) : Type 0 where
  pub count : length out ≡ n
  pub same : Same (concat out) (concat ins)
  pub sorted : b ≡ true → All (Sorted ks) ins → All (Sorted ks) out

-- "any ordered permutation"
pub record SortOf (ks : List Key) (s t : List Row) : Type 0 where
  pub same : Same t s
  pub sorted : Sorted ks t

-- "sort and partial sort any ordered permutation of each stream (whole ones: of all streams' rows together)"
abbrev pub Sorting : Bool → List Key → Streams → Streams → Type 0
Sorting true ks ins out = Each (SortOf ks) ins out
Sorting false ks ins out = OneStream (SortOf ks (concat ins)) out

-- "merge one that is in order if its inputs are"
pub record MergeOf (ks : List Key) (ins : Streams) (t : List Row) : Type 0 where
  pub mixed : Mixes ins t
  pub sorted : All (Sorted ks) ins → Sorted ks t

-- ---- aggregates: "one row for each group of a stream, nulls in one group and aggregate cells of any value, in the order in which the
-- groups begin"

-- Two rows are of one group where they are peers by each group column: two nulls are
abbrev pub one_group : List Key → Row → Row → Bool
one_group ks x y = every (λ k. peers k x y) ks

-- The first row of each group of a stream, in their order there
abbrev pub begins : List Key → List Row → List Row
begins ks [] = []
begins ks (x ∷ l) = x ∷ keep (λ y. not (one_group ks x y)) (begins ks l)

-- The row of the group that x begins: "Group columns come first in its output", then n cells of any value
pub record GroupRow (ks : List Key) (n : ℕ) (x out : Row) : Type 0 where
  pub cells : Row
  pub many : length cells ≡ n
  pub is : out ≡ proj (columns_of ks) x ++ cells

abbrev pub Grouping : List Key → ℕ → List Row → List Row → Type 0
Grouping ks n s t = Each (GroupRow ks n) (begins ks s) t

-- ---- joins: "like-numbered streams (hash: all left)"; "A missing stream is empty."

abbrev pub Pair : Type 0
Pair = List Row × List Row

abbrev pub zip_left : Streams → Streams → List Pair
zip_left [] rs = []
zip_left (l ∷ ls) rs = (l, get_or rs 0 []) ∷ zip_left ls (drop 1 rs)

abbrev pub zip_right : Streams → Streams → List Pair
zip_right ls [] = []
zip_right ls (r ∷ rs) = (get_or ls 0 [], r) ∷ zip_right (drop 1 ls) rs

-- One pair for each stream of the join: "Streams: hash and Right types right's, else left's." So a Full sort-merge join has its left
-- side's streams, and the rows of right streams beyond them have no place in it
abbrev pub like_numbered : JoinType → Streams → Streams → List Pair
like_numbered t ls rs = cond (by_right t) (zip_right ls rs) (zip_left ls rs)

abbrev pub with_all : List Row → List Row → Pair
with_all l r = (l, r)

-- ---- one node

-- The streams of the first child, and of the second
abbrev pub in0 : List Streams → Streams
in0 css = get_or css 0 []

abbrev pub in1 : List Streams → Streams
in1 css = get_or css 1 []

-- What a node, number i among the sources and j among the filters, may make of its children's streams before it cuts them
abbrev pub Made : Env → ℕ → ℕ → Op → List Facts → List Streams → Streams → Type 0
Made E i j (source s) fs css out = out ≡ tab s.streams (E.rows i)
Made E i j filter fs css out = out ≡ map (keep (E.test j)) (in0 css)
Made E i j (projection cols) fs css out = out ≡ map (map (proj cols)) (in0 css)
Made E i j union fs css out = out ≡ concat css
Made E i j (repartition p n h ks) fs css out = Split n (known_order (at0 fs)) (keeps_order p (at0 fs)) (in0 css) out
Made E i j (coalesce f) fs css out = OneStream (Mixes (in0 css)) out
Made E i j (sort_op p ks f) fs css out = Sorting p ks (in0 css) out
Made E i j (merge_op ks f) fs css out = OneStream (MergeOf ks (in0 css)) out
Made E i j (global_limit s f note) fs css out = OneStream (Mixes (in0 css)) out
Made E i j (local_limit f note) fs css out = out ≡ in0 css
Made E i j (sort_merge_join t on) fs css out = Each (Joined t (smj_kept t) on (at0 fs).width (at1 fs).width) (like_numbered t (in0 css) (in1 css)) out
Made E i j (hash_join t on) fs css out = Each (Joined t (hash_kept t) on (at0 fs).width (at1 fs).width) (map (with_all (concat (in0 css))) (in1 css)) out
Made E i j (output_requirement ks d f) fs css out = out ≡ in0 css
Made E i j (partial_sort p ks n f) fs css out = Sorting p ks (in0 css) out
Made E i j (aggregate ks n) fs css out = Each (Grouping ks n) (in0 css) out

-- "Fetch and skip cut each output stream." Reading 18: skip cuts before fetch
abbrev pub front : Option ℕ → List Row → List Row
front None l = l
front (Some n) l = take n l

abbrev pub cut_rows : Cut → List Row → List Row
cut_rows k l = front k.fetch (drop k.skip l)

pub record Step (E : Env) (i j : ℕ) (o : Op) (fs : List Facts) (css : List Streams) (out : Streams) : Type 0 where
  pub raw : Streams
  pub made : Made E i j o fs css raw
  pub is : out ≡ map (cut_rows (cuts o)) raw

-- ---- a run

-- A forest of the plan's shape, with the output streams of every node
pub data Run (E : Env) : ℕ → ℕ → Plan → Forest Streams → Type 0 where
  run_none : {i j : ℕ} → Run E i j none none
  run_tree : {i j : ℕ} {o : Op} {c r : Plan} {s : Streams} {cs rs : Forest Streams} →
      Step E i j o (facts c) (roots cs) s →
      Run E (next_s o i) (next_f o j) c cs →
      Run E (past next_s c (next_s o i)) (past next_f c (next_f o j)) r rs →
      Run E i j (tree o c r) (tree s cs rs)

-- ---- sources

-- P of what a source declares; nothing of any other kind
abbrev pub AtSource : (SourceInfo → Type 0) → Op → Type 0
AtSource P (source s) = P s
AtSource P filter = Unit {0}
AtSource P (projection cols) = Unit {0}
AtSource P union = Unit {0}
AtSource P (repartition p n h ks) = Unit {0}
AtSource P (coalesce f) = Unit {0}
AtSource P (sort_op p ks f) = Unit {0}
AtSource P (merge_op ks f) = Unit {0}
AtSource P (global_limit s f note) = Unit {0}
AtSource P (local_limit f note) = Unit {0}
AtSource P (sort_merge_join t on) = Unit {0}
AtSource P (hash_join t on) = Unit {0}
AtSource P (output_requirement ks d f) = Unit {0}
AtSource P (partial_sort p ks n f) = Unit {0}
AtSource P (aggregate ks n) = Unit {0}

-- P of every source, and of its number in node order
abbrev pub EachSource : (ℕ → SourceInfo → Type 0) → ℕ → Plan → Type 0
EachSource P i none = Unit {0}
EachSource P i (tree o c r) = AtSource (P i) o × EachSource P (next_s o i) c × EachSource P (past next_s c (next_s o i)) r

-- "Declared facts: a source's keys order each of its streams, each constant column has one cell value over them all."
pub record Declared (s : ℕ) (ks : List Key) (out : Streams) : Type 0 where
  pub value : ℕ → Cell
  pub rows : All (All (λ r. (c : ℕ) → bit s c ≡ true → cell r c ≡ value c)) out
  pub sorted : All (Sorted ks) out

-- The rows of source i keep what it declares
abbrev pub KeepsDeclared : Env → ℕ → SourceInfo → Type 0
KeepsDeclared E i s = Declared s.constants s.keys (tab s.streams (E.rows i))

abbrev pub SourceOK : Env → ℕ → Op → Type 0
SourceOK E i o = AtSource (KeepsDeclared E i) o

-- and of every source of a plan, numbered from i
abbrev pub Sources : Env → ℕ → Plan → Type 0
Sources E i f = EachSource (KeepsDeclared E) i f

-- Every row of several streams is w columns wide
abbrev pub Wide : ℕ → Streams → Type 0
Wide w ss = All (All (λ r. length r ≡ w)) ss

-- The rows of source i are as wide as it is
abbrev pub WideSource : Env → ℕ → SourceInfo → Type 0
WideSource E i s = Wide s.width (tab s.streams (E.rows i))

-- Source i has the same rows, each as often, over all its streams
abbrev pub SameSource : Env → Env → ℕ → SourceInfo → Type 0
SameSource E E' i s = Same (concat (tab s.streams (E.rows i))) (concat (tab s.streams (E'.rows i)))

-- "Two runs of a tree before and after a rewrite have the same rows for each source and the same test for each filter, both
-- counted in node order; all else may differ." So how a source's rows are spread over its streams, and their order there, may
-- differ; a rewrite keeps the sources, so they are those of the tree f before
pub record SameInputs (E E' : Env) (f : Plan) : Type 0 where
  pub rows : EachSource (SameSource E E') 0 f
  pub tests : (j : ℕ) (r : Row) → E.test j r ≡ E'.test j r
