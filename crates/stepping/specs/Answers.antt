-- What a dry run of a plan answers (02, P3): a refusal, or the bytes of what is delivered. These are definitions. The refusals 1 to 8 of the plan
-- file come before all of these.
use Rattle.std.specs.Prelude.{Bool, true, false, cond, not, ◌&&◌, ◌||◌, List, [], ◌∷◌, ◌++◌, map, ℕ, zero, suc, ◌+◌, ltb, length, get_or, drop}
use Rattle.row_order.specs.Iso.{Row, Key, cell, equal}
use Rattle.row_order.specs.RowLists.{le}
use Rattle.row_order.specs.Lists.{tab, concat}
use Rattle.row_order.specs.Packed.{bit}
use Rattle.scan.specs.Bytes.{all_below}
use Rattle.plan.specs.Forest.{none, tree, nodes, size}
use Rattle.plan.specs.Op.{SourceInfo, Op, source, filter, projection, union, repartition, coalesce, sort_op, merge_op, global_limit, local_limit, sort_merge_join, hash_join, output_requirement, partial_sort, aggregate, Plan}
use Rattle.plan.specs.WellFormed.{every}
use Rattle.semantics.specs.Facts.{lowest}
use Rattle.stepping.specs.Stepping.{is_unstepped, delivered, can_step}
use Rattle.semantics.specs.Runs.{Streams, next_s, past}
use Rattle.semantics.specs.SourceRows.{sources_of}
use Rattle.stepping.specs.RowBytes.{rows_together, stream_widths, rows_in, form_ok, streams_bytes}

-- ---- 256 + n: "the answer is 256 plus the first such node's number"
abbrev pub first_unstepped : Plan → ℕ
first_unstepped f = lowest (λ i. is_unstepped (get_or (nodes f) i union)) (size f)

-- ---- 26: "when rows break this form or their source's declared order or constants"

abbrev pub in_order_from : List Key → Row → List Row → Bool
in_order_from ks x [] = true
in_order_from ks x (y ∷ l) = le ks x y && in_order_from ks y l

-- No row sorts before the one in front of it
abbrev pub in_order : List Key → List Row → Bool
in_order ks [] = true
in_order ks (x ∷ l) = in_order_from ks x l

-- All rows have one cell in column c
abbrev pub one_cell : ℕ → List Row → Bool
one_cell c [] = true
one_cell c (x ∷ l) = every (λ y. equal (cell x c) (cell y c)) l

abbrev pub declared_ok : SourceInfo → Streams → Bool
declared_ok s ss = every (in_order s.keys) ss && all_below (λ c. not (bit s.constants c) || one_cell c (concat ss)) s.width

-- A test of every source and its number in node order
abbrev pub at_source : (SourceInfo → Bool) → Op → Bool
at_source p (source s) = p s
at_source p filter = true
at_source p (projection cols) = true
at_source p union = true
at_source p (repartition b n h ks) = true
at_source p (coalesce f) = true
at_source p (sort_op b ks f) = true
at_source p (merge_op ks f) = true
at_source p (global_limit s f note) = true
at_source p (local_limit f note) = true
at_source p (sort_merge_join t on) = true
at_source p (hash_join t on) = true
at_source p (output_requirement ks d f) = true
at_source p (partial_sort b ks n f) = true
at_source p (aggregate ks n) = true

abbrev pub each_source : (ℕ → SourceInfo → Bool) → ℕ → Plan → Bool
each_source p i none = true
each_source p i (tree o c r) = at_source (p i) o && (each_source p (next_s o i) c && each_source p (past next_s c (next_s o i)) r)

abbrev pub sources_ok : (ℕ → ℕ → List Row) → Plan → Bool
sources_ok rows f = each_source (λ i s. declared_ok s (tab s.streams (rows i))) 0 f

-- ---- 27: "when the sources together have more than 256 rows, checked after 26"
abbrev pub many_rows : Plan → List ℕ → Bool
many_rows f s = ltb 256 (rows_together s 0 (stream_widths (sources_of f [])))

-- ---- the answer

pub data Answer : Type 0 where
  refused : ℕ → Answer
  written : List ℕ → Answer

-- "24 last": the output, room bytes long, is shorter than what is delivered
abbrev pub fitted : ℕ → List ℕ → Answer
fitted room out = cond (ltb room (length out)) (refused 24) (written out)

-- f: the plan; s: the rows' bytes; bytes: the caller's list
abbrev pub answer : Plan → List ℕ → List ℕ → ℕ → Answer
answer f s bytes room =
    cond (not (can_step f)) (refused (256 + first_unstepped f))
    (cond (not (form_ok f s && sources_ok (rows_in f s) f)) (refused 26)
    (cond (many_rows f s) (refused 27) (fitted room (streams_bytes (delivered f (rows_in f s) bytes)))))

-- The number that the call returns, and the output afterwards: "All but 0 leave the output alone"
abbrev pub number : Answer → ℕ
number (refused n) = n
number (written out) = 0

abbrev pub output : Answer → List ℕ → List ℕ
output (refused n) lent = lent
output (written out) lent = out ++ drop (length out) lent
