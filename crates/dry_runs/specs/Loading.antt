-- From a plan and its rows to the tables that hold the first state. Assumes nothing.
use Rattle.std.specs.Prelude.{◌≡◌, refl, Bool, true, false, List, [], ◌++◌, map, ℕ, ◌+◌, ◌≤◌, ◌<◌, ℤ, length, get_or, replicate}
use Rattle.std.proofs.Common.{sym, ap, ◌∙◌, subst, append-nil, arith, eqb-true, leb-true, length-append}
use Rattle.std.proofs.Math.Decide.{dec_lt}
use Rattle.std.proofs.lemmas.List.{length-map, get_or-replicate, length-replicate}
use Rattle.std.proofs.Math.ListN.{get_or-eq_default}
use Rattle.row_order.specs.Iso.{Row}
use Rattle.plan.specs.Forest.{Forest, none, tree, roots, size}
use Rattle.plan.specs.Numbers.{number_of}
use Rattle.plan.specs.Op.{Plan}
use Rattle.plan.specs.WellFormed.{nodes_ok, well_formed}
use Rattle.plan_format.specs.Blocks.{record_count}
use Rattle.plan_format.specs.Reading.{refusal_of}
use Rattle.plan_codec.specs.Reading.{plan_of}
use Rattle.arena.specs.Arena.{held}
use Rattle.semantics.specs.Facts.{facts_op, facts}
use Rattle.semantics.specs.Runs.{next_s, past}
use Rattle.semantics.proofs.Theorems.Common.Bools.{and_left, and_right}
use Rattle.stepping.specs.Outlets.{Outlet, by_stream}
use Rattle.stepping.specs.RowBytes.{rows_in, form_ok}
use Rattle.stepping.specs.Stepping.{given, start, root_streams}
use Rattle.stepping.proofs.Theorems.Delivered.{formed}
use Rattle.stepping.specs.StepCount.{waiting}
use Rattle.stepping.proofs.Theorems.StepCount.{few_steps}
use Rattle.step_tables.specs.Places.{on_place, total, inner, Tables, Shows, shows_none, shows_tree, Node}
use Rattle.step_tables.specs.Shown.{inputs_are, tab_ext}
use Rattle.step_tables.specs.Found.{Known}
use Rattle.step_tables.specs.Complete.{Complete}
use Rattle.step_tables.specs.Rows.{Room}
use Rattle.step_tables.specs.Passes.{node_in, Laid}
use Rattle.step_tables.specs.declared.StepNode.{StepNode}
use Rattle.step_tables.specs.Layout.{length_nodes, NodesAre, listed_nodes, laid}
use Rattle.step_tables.proofs.FirstRows.{all_rows, move_by}
use Rattle.step_tables.specs.Holding.{HeldAre}
use Rattle.step_tables.specs.Queueing.{QueuedAre}
use Rattle.step_nodes.specs.FewPlaces.{leaves, root_places}
use Rattle.source_rows.specs.Files.{size_is}
use Rattle.row_writer.specs.Streams.{put_out}
use Rattle.row_reader.specs.Reading.{tables, Space}
use Rattle.row_reader.specs.Plans.{row_count, plan_rows, NodesOf, AllRead}
use Rattle.row_reader.specs.Counts.{Zeros}
use Rattle.row_reader.specs.FirstState.{first_state, order_known, order_complete, order_once, places_inside, outs_few}
use Rattle.dry_runs.specs.Begun.{Begins}
use Rattle.dry_runs.specs.Tables.{Given, ByRow, ByPlace, Counters, places_of}

pub zeros : (n : ℕ) → Zeros (replicate n 0)
zeros n x = go (dec_lt x n)
  where
    go : Dec (x < n) → ◌≡◌ {A = ℕ} (get_or (replicate n 0) x 0) 0
    go (yes h) = get_or-replicate n x 0 0 h
    go (no h) = get_or-eq_default (replicate n 0) 0 {n = x} (omega (arith, length-replicate {A = ℕ} n 0))

pub counters : (gone n : ℕ) → gone < n → n < 1000000000 → Counters gone (replicate n 0) (replicate n 0) (length (replicate n false))
counters gone n h k =
    let l = length-replicate {A = ℕ} n 0 in let m = length-replicate {A = Bool} n false in
    record { past = omega arith; few = omega arith; counts_long = omega arith; held_long = omega arith; counts_none = zeros n; held_none = zeros n }

-- ---- a well-formed plan: one root, few nodes
module _ (f : Plan) (w : well_formed f ≡ true) where
  pub one_root : length (roots f) ≡ 1
  one_root = eqb-true (length (roots f)) 1 (search and_left)

  pub few_nodes : size f ≤ 126
  few_nodes = leb-true (size f) 126 (search (and_left, and_right))

  fine_nodes : nodes_ok f ≡ true
  fine_nodes = search (and_left, and_right)

leaves_few : (f : Plan) → leaves f ≤ size f
leaves_few none = omega arith
leaves_few (tree o none r) = omega (arith, leaves_few r)
leaves_few (tree o (tree p c s) r) = omega (arith, leaves_few (tree p c s), leaves_few r)

pub few_streams : (f : Plan) → well_formed f ≡ true → total (facts f) ≤ 100000
few_streams f w = omega (arith, root_places f (fine_nodes f w), leaves_few f, few_nodes f w)

-- its root's streams, from the table of nodes
pub root_inside : (f : Plan) (nodes : List StepNode) → well_formed f ≡ true → NodesOf f nodes → 0 < length nodes
root_inside f nodes w l = omega (arith, l.room, length_nodes (size f) 0 0 (total (facts f)) f, some f (one_root f w))
  where
    some : (f : Plan) → length (roots f) ≡ 1 → 1 ≤ size f
    some none e = absurd (omega arith)
    some (tree o c r) e = omega arith

pub root_streams_lem : (f : Plan) (nodes : List StepNode) → well_formed f ≡ true → NodesOf f nodes → (node_in nodes 0).outs ≡ total (facts f)
root_streams_lem f nodes w l = go f (one_root f w) (listed_nodes nodes (size f) 0 (total (facts f)) f l)
  where
    go : (g : Plan) → length (roots g) ≡ 1 → NodesAre (node_in nodes) (size f) 0 0 (total (facts f)) g → (node_in nodes 0).outs ≡ total (facts g)
    go none e h = absurd (omega arith)
    go (tree o c none) e h = let x = ap (λ (q : Node). q.outs) h.0 in omega (arith, x)
    go (tree o c (tree p d r)) e h = absurd (omega arith)

pub root_delivers : {T : Tables} {b : ℕ} (f : Plan) {st : Forest Outlet} → length (roots f) ≡ 1 → Shows T 0 0 b f st →
    put_out T.rows T.places T.order (total (facts f)) ≡ get_or (root_streams (facts f) (roots st)) 0 []
root_delivers none e h = absurd (omega arith)
root_delivers (tree o c (tree p d r)) e h = absurd (omega arith)
root_delivers {T} (tree o c none) e (shows_tree {d = d} w t p shows_none) =
    sym (tab_ext (total (facts (tree o c none))) _ _ (λ k h. ap (λ (g : ℕ). on_place T.rows T.places g T.order) (omega arith)))
    ∙ sym (inputs_are (shows_tree {o = o} {c = c} {r = none} {d = d} w t p shows_none))
    ∙ append-nil (by_stream (facts_op o (facts c)).streams d.waiting)

-- ---- the rows of the first state
all_count : (rows : ℕ → ℕ → List Row) (i a b : ℕ) (f : Plan) → length (all_rows rows i a b f) ≡ waiting (start rows i f)
all_count rows i a b none = refl
all_count rows i a b (tree o c r) =
    let C = all_rows rows (next_s o i) b (b + total (facts c)) c in
    let R = all_rows rows (past next_s c (next_s o i)) (a + (facts_op o (facts c)).streams) (b + total (facts c) + inner c) r in
    length-append (map (move_by a) (given rows i o)) (C ++ R)
    ∙ omega (
      arith,
      length-append C R,
      length-map (given rows i o) (move_by a),
      all_count rows (next_s o i) b (b + total (facts c)) c,
      all_count rows (past next_s c (next_s o i)) (a + (facts_op o (facts c)).streams) (b + total (facts c) + inner c) r,
    )

start-size : (rows : ℕ → ℕ → List Row) (i : ℕ) (f : Plan) → size (start rows i f) ≡ size f
start-size rows i none = refl
start-size rows i (tree o c r) = omega (arith, start-size rows (next_s o i) c, start-size rows (past next_s c (next_s o i)) r)

-- ---- `load`
module _ (s : List ℕ) (n : ℕ) (rows : List ℕ) (nodes : List StepNode) (gone : ℕ) (cells : List ℤ) (nulls widths places order held queued : List ℕ)
    (g : Given s n rows (length places)) (li : NodesOf (plan_of s) nodes) (r : ByRow (length places) cells nulls widths places order)
    (b : ByPlace n gone held queued) (e : gone ≡ places_of (plan_of s)) where
  abbrev f : Plan
  f = plan_of s

  size_here : n ≡ size f
  size_here = g.count ∙ sym (size_is s)

  laid_here : (len : ℕ) → len ≡ length held → Laid nodes n len
  laid_here len z =
      subst (λ (i : ℕ). Laid nodes i len) (sym size_here)
      (laid nodes (size f) f len (formed f g.well g.steps) li (omega (arith, b.past, e)) (omega (arith, b.few)))

  pub read_asks : (number_of (refusal_of s) ≡ 0) × (n ≡ record_count s) × (form_ok f rows ≡ true) × NodesOf f nodes
      × ((j : ℕ) → j < n → (node_in nodes j).out < 1000000000) × Space (row_count f rows) (tables cells nulls widths places)
      × (length order ≡ row_count f rows)
  read_asks =
      let k = g.rows_are in (
        g.fine,
        g.count,
        g.form,
        li,
        outs_few (laid_here (length held) refl),
        record {
          numbers = omega (arith, r.numbers);
          sets = omega (arith, r.sets);
          widths_there = omega (arith, r.widths_long);
          places_there = omega arith;
        },
        omega (arith, r.order_long),
      )

  module _ (cells' : List ℤ) (nulls' widths' places' order' : List ℕ) (pl : length places' ≡ length places) (wl : length widths' ≡ length widths)
      (h : AllRead (plan_rows f rows) (row_count f rows) (tables cells' nulls' widths' places') order') where
    long : row_count f rows ≡ length places'
    long = omega (arith, g.rows_are)

    pub hold_asks : (length places' ≤ 256) × ((i : ℕ) → i < length places' → get_or places' i 0 < length held) × Zeros held
    hold_asks = (
      omega (arith, g.few_rows),
      λ i l. omega (arith, places_inside f rows h i (omega (arith, long)), b.past, e),
      b.held_none,
    )

    module _ (held' queued' : List ℕ) (hl : length held' ≡ length held) (ql : length queued' ≡ length queued) (ha : HeldAre held' places') where
      pub queue_asks : Laid nodes n (length held') × (n < length queued) × Zeros queued
      queue_asks = (laid_here (length held') hl, b.nodes, b.queued_none)

      narrow_here : (i : ℕ) → get_or widths' i 0 ≤ 32
      narrow_here i = go (dec_lt i (row_count f rows))
        where
          go : Dec (i < row_count f rows) → get_or widths' i 0 ≤ 32
          go (yes l) = h.room.wide i l
          go (no l) = omega (arith, get_or-eq_default widths' 0 {n = i} (omega (arith, r.widths_long, g.rows_are)))

      pub begins : ((ps : List ℕ) → HeldAre held' ps → QueuedAre nodes n queued' ps) × (get_or queued' n 0 ≡ 0) →
          Begins f rows nodes (length held) cells' nulls' widths' places' order' held' queued'
      begins q =
          record {
            running = λ counts z l.
                record {
                  shows = first_state f rows (tables cells' nulls' widths' places') order' counts h z;
                  once = order_once h;
                  known = subst (Known order') long (order_known h);
                  complete = subst (Complete order') long (order_complete h);
                  room = subst (λ (k : ℕ). Room k cells' nulls' widths') long h.room;
                  narrow = narrow_here;
                  held_are = ha;
                  queued_are = subst (λ (k : ℕ). QueuedAre nodes k queued' places') size_here (q.0 places' ha);
                  ends = let y = ap (λ (k : ℕ). get_or queued' k 0) (sym size_here) ∙ q.1 in omega (arith, y);
                  counted = λ x. let y = z x in omega (arith, y);
                  few_rows = omega (arith, g.few_rows);
                  counts_long = l;
                  held_long = hl;
                  queued_long = omega (arith, b.nodes, size_here);
                };
            enough =
                let st = start (rows_in f rows) 0 f in
                omega (
                  arith,
                  few_steps 125 0 st (omega (arith, start-size (rows_in f rows) 0 f, few_nodes f g.well)),
                  all_count (rows_in f rows) 0 0 (total (facts f)) f,
                  h.count,
                  g.rows_are,
                  g.few_rows,
                );
          }
