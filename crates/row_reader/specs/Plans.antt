-- The rows of a whole plan in the tables: what is asked, what is ensured, and the loop over the plan file's records. Assumes nothing.
use Rattle.std.specs.Prelude.{◌≡◌, refl, Bool, true, false, cond, List, [], ◌++◌, ℕ, ◌+◌, ◌<◌, ◌≤◌, eqb, length, get_or, take, set}
use Rattle.std.proofs.Common.{sym, ap, ◌∙◌, subst, arith, add-one, length-drop, take-suc-set, take_all}
use Rattle.row_order.specs.Lists.{tab}
use Rattle.scan.specs.Parts.{at_part}
use Rattle.plan.specs.Forest.{size}
use Rattle.plan.specs.Op.{Plan}
use Rattle.plan_format.specs.Blocks.{record_start, record_at}
use Rattle.plan_codec.specs.Reading.{plan_of}
use Rattle.semantics.specs.Facts.{facts}
use Rattle.semantics.specs.SourceRows.{sources_of}
use Rattle.stepping.specs.Outlets.{Placed}
use Rattle.stepping.specs.RowBytes.{streams_ok, rows_together, stream_widths, rows_in, form_ok}
use Rattle.row_bytes.specs.Cells.{tab_more}
use Rattle.row_bytes.specs.Streams.{alike, streams_fit, streams_end}
use Rattle.source_rows.specs.Files.{Taken, size_is, inside}
use Rattle.source_rows.specs.Sources.{streams_in, width_in, widths_from, widths_start, form_here, form_more, rows_more, rows_end}
use Rattle.step_tables.specs.Places.{total, nodes_at}
use Rattle.step_tables.specs.Passes.{node_in, Listed}
use Rattle.step_tables.specs.declared.StepNode.{StepNode}
use Rattle.step_tables.specs.Layout.{length_nodes}
use Rattle.step_tables.specs.Rows.{row_in, Room}
use Rattle.step_tables.proofs.FirstRows.{all_rows, nowhere}
use Rattle.row_reader.specs.Reading.{RowTables, Space, AsLong, as_long, as_long_too, Reading, Adds}
use Rattle.row_reader.specs.Streams.{source_rows}
use Rattle.row_reader.specs.Nodes.{rows_from, rows_none, rows_start, rows_step}

-- How many rows "the sources together" have
abbrev pub row_count : Plan → List ℕ → ℕ
row_count f rows = rows_together rows 0 (stream_widths (sources_of f []))

-- All of them, "in node and stream order", each with the place where it waits
abbrev pub plan_rows : Plan → List ℕ → List Placed
plan_rows f rows = all_rows (rows_in f rows) 0 0 (total (facts f)) f

-- The table of the nodes holds those of f
abbrev pub NodesOf : Plan → List StepNode → Type 0
NodesOf f t = Listed t (nodes_at (size f) 0 0 (total (facts f)) f)

-- The tables hold the rows `all`, R in number, in this order: row i is all's i-th
pub record AllRead (all : List Placed) (R : ℕ) (T : RowTables) (order : List ℕ) : Type 0 where
  pub count : length all ≡ R
  pub placed : (i : ℕ) → i < R → get_or T.places i 0 ≡ (get_or all i nowhere).stream
  pub rows : (i : ℕ) → i < R → row_in T.cells T.nulls T.widths i ≡ (get_or all i nowhere).row
  pub ordered : order ≡ tab R (λ i. i)
  pub room : Room R T.cells T.nulls T.widths

-- ---- the order: 0, 1, ..

pub numbered_more : (i : ℕ) (l : List ℕ) → i < length l → take i l ≡ tab i (λ k. k) → take (i + 1) (set l i i) ≡ tab (i + 1) (λ k. k)
numbered_more i l h e =
    ap (λ (n : ℕ). take n (set l i i)) (add-one i) ∙ take-suc-set l i i h ∙ ap (λ (m : List ℕ). m ++ tab 1 (λ k. i)) e
    ∙ sym (ap (λ (n : ℕ). tab n (λ k. k)) (add-one i) ∙ tab_more i (λ k. k))

pub numbered : (i n : ℕ) (l : List ℕ) → n ≡ length l → length l ≤ i → i ≤ length l → take i l ≡ tab i (λ k. k) → l ≡ tab n (λ k. k)
numbered i n l z h k e = let y : i ≡ n = omega arith in sym (take_all i l h) ∙ e ∙ ap (λ (m : ℕ). tab m (λ k. k)) y

-- ---- the loop over the records of a file s of n; t: the table of its nodes

-- Record j's rows come next, from place a on; r rows are read. T: the tables before the loop
pub record InPlan (s : List ℕ) (n : ℕ) (t : List StepNode) (rows : List ℕ) (T : RowTables) (r a j : ℕ) (U : RowTables) : Type 0 where
  pub upto : j ≤ n
  pub taken : Taken s n
  pub long : AsLong U T
  pub form : streams_ok rows a (widths_from s n j) ≡ true
  pub count : r + rows_together rows a (widths_from s n j) ≡ row_count (plan_of s) rows
  pub reading : Reading (plan_rows (plan_of s) rows) (rows_from s n t rows a j) r U

pub plan_start : (s : List ℕ) (n : ℕ) (t : List StepNode) (rows : List ℕ) (T : RowTables) → Taken s n → form_ok (plan_of s) rows ≡ true →
    NodesOf (plan_of s) t → InPlan s n t rows T 0 0 0 T
plan_start s n t rows T taken f listed =
    record {
      upto = omega arith;
      taken = taken;
      long = as_long T;
      form = ap (streams_ok rows 0) (widths_start s n taken) ∙ f;
      count = let e = ap (rows_together rows 0) (widths_start s n taken) in omega (arith, e);
      reading = record {
        next = rows_start s n taken t rows (size (plan_of s)) listed;
        few = omega arith;
        placed = λ i h. absurd (omega arith);
        rows = λ i h. absurd (omega arith);
        narrow = λ i h. absurd (omega arith);
      };
    }

-- a byte
streams_few : (s : List ℕ) (n : ℕ) → Taken s n → (j k : ℕ) → j < n → k ≡ streams_in (record_at s j) → k < 256
streams_few s n t j k h e = go (eqb (get_or (record_at s j) 0 0) 1) refl
  where
    go : (b : Bool) → eqb (get_or (record_at s j) 0 0) 1 ≡ b → k < 256
    go true f =
        let x = ap (λ (b : Bool). cond b (get_or (record_at s j) 2 0) 0) f in
        omega (arith, e, x, at_part s (record_start j) 64 2 (omega arith), t.bytes.below (record_start j + 2) (omega (arith, inside s n t j h)))
    go false f = let x = ap (λ (b : Bool). cond b (get_or (record_at s j) 2 0) 0) f in omega (arith, e, x)

-- the node's number of its first output
pub out_inside : (s : List ℕ) (n : ℕ) (t : List StepNode) → Taken s n → NodesOf (plan_of s) t → (j : ℕ) → j < n → j < length t
out_inside s n t taken listed j h =
    omega (arith, listed.room, length_nodes (size (plan_of s)) 0 0 (total (facts (plan_of s))) (plan_of s), size_is s, taken.count)

module _ (s : List ℕ) (n : ℕ) (t : List StepNode) (rows : List ℕ) (T : RowTables) {r a j : ℕ} {U : RowTables} (i : InPlan s n t rows T r a j U) where
  module _ (k w : ℕ) (h : j < n) (ek : k ≡ streams_in (record_at s j)) (ew : w ≡ width_in (record_at s j)) where
    pub fits_here : streams_fit rows a (alike k w) ≡ true
    fits_here = form_here s n i.taken rows j a k w h ek ew i.form

    pub out_few : (out : ℕ) → out < 1000000000 → out + k < 2000000000
    out_few out l = omega (arith, streams_few s n i.taken j k h ek)

    counts : (e : ℕ) → e ≡ streams_end rows a (alike k w) →
        r + rows_together rows a (alike k w) + rows_together rows e (widths_from s n (j + 1)) ≡ row_count (plan_of s) rows
    counts e v = rows_more s n i.taken rows j a k w h ek ew e (rows_together rows a (alike k w)) r (row_count (plan_of s) rows) refl v i.count

    pub rows_left : r + rows_together rows a (alike k w) ≤ row_count (plan_of s) rows
    rows_left = omega (arith, counts (streams_end rows a (alike k w)) refl)

    pub plan_more : {S : RowTables} (q e : ℕ) → e ≡ streams_end rows a (alike k w) → q ≡ r + rows_together rows a (alike k w) →
        Adds (source_rows rows a w k (node_in t j).out 0) r q U S → AsLong S U → InPlan s n t rows T q e (j + 1) S
    plan_more {S} q e v m g long =
        record {
          upto = omega arith;
          taken = i.taken;
          long = as_long_too long i.long;
          form = form_more s n i.taken rows j a k w h ek ew true e fits_here v i.form;
          count = ap (λ (x : ℕ). x + rows_together rows e (widths_from s n (j + 1))) m ∙ counts e v;
          reading = g (plan_rows (plan_of s) rows) (rows_from s n t rows e (j + 1))
              (subst (λ (l : List Placed). Reading (plan_rows (plan_of s) rows) l r U)
              (rows_step s n i.taken t rows a j k w h ek ew
              ∙ ap (λ (x : ℕ). source_rows rows a w k (node_in t j).out 0 ++ rows_from s n t rows x (j + 1)) (sym v)) i.reading);
        }

  pub all_read : (order : List ℕ) → n ≤ j → Space (row_count (plan_of s) rows) T → order ≡ tab (row_count (plan_of s) rows) (λ k. k) →
      AllRead (plan_rows (plan_of s) rows) (row_count (plan_of s) rows) U order
  all_read order h room o =
      record {
        count = omega (arith, e, l);
        placed = λ k g. i.reading.placed k (omega (arith, e));
        rows = λ k g. i.reading.rows k (omega (arith, e));
        ordered = o;
        room = record {
          wide = λ k g. i.reading.narrow k (omega (arith, e));
          numbers = omega (arith, room.numbers, i.long.numbers);
          sets = omega (arith, room.sets, i.long.sets);
          widths_there = omega (arith, room.widths_there, i.long.widths_there);
        };
      }
    where
      e : r ≡ row_count (plan_of s) rows
      e = rows_end s n rows j a r (row_count (plan_of s) rows) h i.count

      l : length (plan_rows (plan_of s) rows) ≡ r
      l = omega (arith, length-drop r (plan_rows (plan_of s) rows), ap length (i.reading.next ∙ rows_none s n t rows a j h), i.reading.few)
