-- All rows of a plan, node by node in node order, as they stand in the bytes: only sources have any. Assumes nothing.
use Rattle.std.specs.Prelude.{◌≡◌, refl, List, [], ◌∷◌, ◌++◌, map, ℕ, suc, ◌+◌, ◌<◌, ◌≤◌, length}
use Rattle.std.proofs.Common.{sym, ap, ap₂, ◌∙◌, append_assoc, append-nil, arith}
use Rattle.row_order.specs.Iso.{Row}
use Rattle.plan.specs.Forest.{none, tree, size, nodes}
use Rattle.plan.specs.Op.{SourceInfo, Op, Plan}
use Rattle.plan_format.specs.Blocks.{record_at}
use Rattle.plan_codec.specs.Reading.{plan_of}
use Rattle.semantics.specs.Facts.{facts_op, facts}
use Rattle.semantics.specs.Runs.{Streams, next_s, past}
use Rattle.semantics.specs.SourceRows.{own}
use Rattle.stepping.specs.Outlets.{Placed, spread}
use Rattle.stepping.specs.RowBytes.{streams_at, stream_widths, rows_in}
use Rattle.stepping.specs.Stepping.{given}
use Rattle.row_bytes.specs.Streams.{alike, streams_end}
use Rattle.source_rows.specs.Files.{size-nodes, Taken, proper_at}
use Rattle.source_rows.specs.Sources.{Which, is_source, is_other, which, streams_in, width_in, own_widths, ops_from, ops_step, ops_none, ops_start}
use Rattle.source_rows.specs.Declared.{past_in, past_is, Stand, stand_here, stand_next, stand_other, plan_stand}
use Rattle.step_tables.specs.Places.{total, inner, Node, nodes_at}
use Rattle.step_tables.specs.Passes.{node_in, Listed}
use Rattle.step_tables.specs.declared.StepNode.{StepNode}
use Rattle.step_tables.specs.Layout.{NodesAre, listed_nodes}
use Rattle.step_tables.proofs.FirstRows.{move_by, all_rows}
use Rattle.row_reader.specs.Streams.{source_rows}

-- ---- a forest's rows are those of its nodes, one after another. O: the place of each node's first output; i: the number of the next source,
-- j: of the next node

abbrev rows_by : (ℕ → ℕ → List Row) → (ℕ → ℕ) → ℕ → ℕ → List Op → List Placed
rows_by R O i j [] = []
rows_by R O i j (o ∷ os) = map (move_by (O j)) (given R i o) ++ rows_by R O (next_s o i) (suc j) os

module _ (R : ℕ → ℕ → List Row) (O : ℕ → ℕ) where
  by_join : (x y : List Op) (i j : ℕ) → rows_by R O i j (x ++ y) ≡ rows_by R O i j x ++ rows_by R O (past_in x i) (j + length x) y
  by_join [] y i j = let z : j ≡ j + 0 = omega arith in ap (λ (k : ℕ). rows_by R O i k y) z
  by_join (o ∷ x) y i j =
      let z : suc j + length x ≡ j + suc (length x) = omega arith in
      ap (λ (l : List Placed). map (move_by (O j)) (given R i o) ++ l)
      (by_join x y (next_s o i) (suc j) ∙ ap (λ (k : ℕ). rows_by R O (next_s o i) (suc j) x ++ rows_by R O (past_in x (next_s o i)) k y) z)
      ∙ sym (append_assoc (map (move_by (O j)) (given R i o)) (rows_by R O (next_s o i) (suc j) x) (rows_by R O (past_in x (next_s o i)) (j + suc (length x)) y))

all_by : (R : ℕ → ℕ → List Row) (N : ℕ → Node) (i p n a b : ℕ) (f : Plan) → NodesAre N p n a b f →
    all_rows R i a b f ≡ rows_by R (λ j. (N j).out) i n (nodes f)
all_by R N i p n a b none h = refl
all_by R N i p n a b (tree o c r) h =
    ap₂ ◌++◌ (ap (λ (x : ℕ). map (move_by x) (given R i o)) (sym (ap (λ (x : Node). x.out) h.0)))
    (ap₂ ◌++◌ (all_by R N (next_s o i) n (suc n) b (b + total (facts c)) c h.1)
    (all_by R N (past next_s c (next_s o i)) p (suc n + size c) (a + (facts_op o (facts c)).streams) (b + total (facts c) + inner c) r h.2
    ∙ ap₂ (λ (x y : ℕ). rows_by R (λ j. (N j).out) x (suc n + y) (nodes r)) (past_is c (next_s o i)) (size-nodes c))
    ∙ sym (by_join R (λ j. (N j).out) (nodes c) (nodes r) (next_s o i) (suc n)))

-- ---- where they stand in the bytes: node j's from place a on

abbrev pub rows_along : List ℕ → (ℕ → ℕ) → ℕ → ℕ → List Op → List Placed
rows_along s O a j [] = []
rows_along s O a j (o ∷ os) =
    map (move_by (O j)) (spread 0 (streams_at s a (stream_widths (own o [])))) ++ rows_along s O (streams_end s a (stream_widths (own o []))) (suc j) os

module _ (s : List ℕ) (R : ℕ → ℕ → List Row) (O : ℕ → ℕ) where
  along_step : {o : Op} (os : List Op) → Which o → ((i a j : ℕ) → Stand s R i a os → rows_by R O i j os ≡ rows_along s O a j os) →
      (i a j : ℕ) → Stand s R i a (o ∷ os) → rows_by R O i j (o ∷ os) ≡ rows_along s O a j (o ∷ os)
  along_step os (is_source x) ih i a j c =
      let ws : List ℕ = alike x.streams x.width in
      ap₂ (λ (l : Streams) (k : List Placed). map (move_by (O j)) (spread 0 l) ++ k) (stand_here s R x os i a c)
      (ih (suc i) (streams_end s a ws) (suc j) (stand_next s R x os i a c))
      ∙ ap (λ (us : List ℕ). map (move_by (O j)) (spread 0 (streams_at s a us)) ++ rows_along s O (streams_end s a us) (suc j) os) (sym (append-nil ws))
  along_step {o} os (is_other x) ih i a j c =
      ap₂ (λ (l : List Placed) (k : ℕ). map (move_by (O j)) l ++ rows_by R O k (suc j) os) (x.gives R i) (x.next i)
      ∙ ih i a (suc j) (stand_other s R os x i a c)
      ∙ ap (λ (l : List SourceInfo). map (move_by (O j)) (spread 0 (streams_at s a (stream_widths l))) ++
      rows_along s O (streams_end s a (stream_widths l)) (suc j) os)
      (sym (x.owns []))

  along : (os : List Op) (i a j : ℕ) → Stand s R i a os → rows_by R O i j os ≡ rows_along s O a j os
  along [] i a j c = refl
  along (o ∷ os) i a j c = along_step os (which o) (along os) i a j c

-- ---- record by record of a plan file s of n records; t: the table of its nodes; from record j on, whose rows start at place a

abbrev pub rows_from : List ℕ → ℕ → List StepNode → List ℕ → ℕ → ℕ → List Placed
rows_from s n t rows a j = rows_along rows (λ k. (node_in t k).out) a j (ops_from s n j)

pub rows_none : (s : List ℕ) (n : ℕ) (t : List StepNode) (rows : List ℕ) (a j : ℕ) → n ≤ j → rows_from s n t rows a j ≡ []
rows_none s n t rows a j h = ap (rows_along rows (λ k. (node_in t k).out) a j) (ops_none s n j h)

module _ (s : List ℕ) (n : ℕ) (taken : Taken s n) (t : List StepNode) (rows : List ℕ) where
  pub rows_start : (p : ℕ) → Listed t (nodes_at p 0 0 (total (facts (plan_of s))) (plan_of s)) →
      all_rows (rows_in (plan_of s) rows) 0 0 (total (facts (plan_of s))) (plan_of s) ≡ rows_from s n t rows 0 0
  rows_start p listed =
      all_by (rows_in (plan_of s) rows) (node_in t) 0 p 0 0 (total (facts (plan_of s))) (plan_of s) (listed_nodes t p 0 (total (facts (plan_of s))) (plan_of s) listed)
      ∙ along rows (rows_in (plan_of s) rows) (λ j. (node_in t j).out) (nodes (plan_of s)) 0 0 0 (plan_stand (plan_of s) rows)
      ∙ ap (rows_along rows (λ k. (node_in t k).out) 0 0) (sym (ops_start s n taken))

  -- k, w: streams and width of record j
  pub rows_step : (a j k w : ℕ) → j < n → k ≡ streams_in (record_at s j) → w ≡ width_in (record_at s j) →
      rows_from s n t rows a j ≡ source_rows rows a w k (node_in t j).out 0 ++ rows_from s n t rows (streams_end rows a (alike k w)) (j + 1)
  rows_step a j k w h ek ew =
      let z : suc j ≡ j + 1 = omega arith in
      ap (rows_along rows (λ k. (node_in t k).out) a j) (ops_step s n j h)
      ∙ ap₂ (λ (us : List ℕ) (i : ℕ). map (move_by (node_in t j).out) (spread 0 (streams_at rows a us)) ++
      rows_along rows (λ k. (node_in t k).out) (streams_end rows a us) i (ops_from s n (j + 1)))
      (own_widths (record_at s j) (proper_at s n taken j h) [] ∙ append-nil (alike (streams_in (record_at s j)) (width_in (record_at s j)))
      ∙ sym (ap₂ alike ek ew)) z
