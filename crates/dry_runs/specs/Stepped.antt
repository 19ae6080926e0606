-- From the first state to what is delivered, and to the last answer. Assumes nothing.
use Rattle.std.specs.Prelude.{◌≡◌, refl, true, List, ◌++◌, ℕ, ◌+◌, ◌≤◌, ◌<◌, ℤ, length, get_or, take, drop, replicate}
use Rattle.step_tables.specs.declared.StepNode.{StepNode}
use Rattle.step_tables.specs.Passes.{node_in}
use Rattle.std.proofs.Common.{sym, ap, ◌∙◌, subst, arith, lt-ltb, le-ltb, length-take-le}
use Rattle.std.proofs.lemmas.List.{length-replicate}
use Rattle.plan.specs.Forest.{size}
use Rattle.plan.specs.Op.{Plan}
use Rattle.plan.specs.WellFormed.{well_formed}
use Rattle.plan_codec.specs.Reading.{plan_of}
use Rattle.arena.specs.Arena.{held}
use Rattle.plan_context.specs.View.{Arena, tree_of}
use Rattle.plan_context.specs.Records.{plan_t, tree-held}
use Rattle.walks.specs.Marks.{size_t}
use Rattle.call_parts.specs.PartialSorts.{plan_size}
use Rattle.step_nodes.specs.Layout.{LaidOut}
use Rattle.step_nodes.specs.declared.Layout.{Layout}
use Rattle.semantics.specs.Runs.{Streams}
use Rattle.stepping.specs.Answers.{fitted, number, output}
use Rattle.stepping.specs.RowBytes.{rows_in, streams_bytes}
use Rattle.stepping.specs.Stepping.{start, delivered, finished}
use Rattle.stepping.proofs.Theorems.Delivered.{formed}
use Rattle.step_tables.specs.Rows.{row_in}
use Rattle.source_rows.specs.Files.{size_is}
use Rattle.row_writer.specs.Streams.{put_out}
use Rattle.row_reader.specs.Plans.{NodesOf}
use Rattle.step_moves.specs.Running.{Seated, Running}
use Rattle.step_moves.specs.Runs.{Begun}
use Rattle.dry_runs.specs.Begun.{book, Ran, Begins}
use Rattle.dry_runs.specs.Tables.{last_answer, Given, Stands, Stored, ByRow, ByPlace, AsLong, Counters}
use Rattle.dry_runs.specs.Loading.{zeros, few_nodes, one_root, root_delivers, root_streams_lem}
use Rattle.dry_runs.specs.Refused.{file_few}

-- ---- `deliver`
pub too_short : (room : ℕ) (b out : List ℕ) → room < length b → (24 ≡ number (fitted room b)) × (out ≡ output (fitted room b) out)
too_short room b out h = rw (lt-ltb room (length b) h) (refl, refl)

pub fits : (room : ℕ) (b out out' : List ℕ) → length b ≤ room → out' ≡ b ++ drop (length b) out → (0 ≡ number (fitted room b)) × (out' ≡ output (fitted room b) out)
fits room b out out' h e = rw (le-ltb room (length b) h) (refl, e)

-- ---- `step_in`
module _ (s : List ℕ) (n : ℕ) (rows m : List ℕ) (u : ℕ) (slots : List ℕ) (nodes : List StepNode) (gone k len flags : ℕ) (counts : List ℕ)
    (g : Given s n rows k) (t : Stands m u slots nodes gone (plan_of s)) (z : AsLong counts len flags) (lp : gone < len) (few : len < 1000000000) where
  module _ (cells : List ℤ) (nulls widths places order held queued : List ℕ)
      (b : Begins (plan_of s) rows nodes len cells nulls widths places order held queued) where
    seated : Seated m u slots nodes (plan_of s) flags
    seated =
        record {
          arena = t.arena;
          slotted = t.slotted;
          listed = t.listed;
          formed = formed (plan_of s) g.well g.steps;
          past = omega (arith, t.past, z.flags);
          few = omega (arith, z.flags);
        }

    running : Running (plan_of s) nodes flags 0 (book cells nulls widths places order counts held queued) (start (rows_in (plan_of s) rows) 0 (plan_of s))
    running =
        subst (λ (l : ℕ). Running (plan_of s) nodes l 0 (book cells nulls widths places order counts held queued) (start (rows_in (plan_of s) rows) 0 (plan_of s)))
        (sym z.flags) (b.running counts z.none z.same)

    pub begun : Begun m u slots nodes n gone flags (book cells nulls widths places order counts held queued)
    begun =
        record {
          plan = plan_of s;
          rows = rows_in (plan_of s) rows;
          seated = seated;
          running = running;
          nodes_are = g.count ∙ sym (size_is s);
          past = t.past;
          enough = b.enough;
        }

    pub ended : (bytes : List ℕ) (cells' : List ℤ) (nulls' widths' places' order' counts' held' queued' : List ℕ) →
        Ran m u slots nodes n gone flags bytes (book cells nulls widths places order counts held queued)
        (book cells' nulls' widths' places' order' counts' held' queued') →
        Running (plan_of s) nodes flags 32256 (book cells' nulls' widths' places' order' counts' held' queued')
        (finished (plan_of s) (rows_in (plan_of s) rows) bytes)
    ended bytes cells' nulls' widths' places' order' counts' held' queued' q =
        q (plan_of s) (rows_in (plan_of s) rows) seated running (g.count ∙ sym (size_is s)) t.past b.enough

-- what the last state's tables hold at the root's places is delivered
pub delivers : (f : Plan) (rows : List ℕ) (nodes : List StepNode) (bytes : List ℕ) (len i : ℕ) (cells : List ℤ) (nulls widths places order counts held queued : List ℕ) →
    well_formed f ≡ true → NodesOf f nodes →
    Running f nodes len i (book cells nulls widths places order counts held queued) (finished f (rows_in f rows) bytes) →
    put_out (row_in cells nulls widths) places order (node_in nodes 0).outs ≡ delivered f (rows_in f rows) bytes
delivers f rows nodes bytes len i cells nulls widths places order counts held queued w l r =
    ap (put_out (row_in cells nulls widths) places order) (root_streams_lem f nodes w l)
    ∙ root_delivers f (one_root f w) r.shows

pub last_is : (f : Plan) (rows bytes out out' : List ℕ) (x : ℕ) (d : Streams) → d ≡ delivered f (rows_in f rows) bytes →
    (x ≡ number (fitted (length out) (streams_bytes d))) × (out' ≡ output (fitted (length out) (streams_bytes d)) out) →
    (x ≡ number (last_answer f rows bytes (length out))) × (out' ≡ output (last_answer f rows bytes (length out)) out)
last_is f rows bytes out out' x d e h =
    subst (λ (q : Streams). (x ≡ number (fitted (length out) (streams_bytes q))) × (out' ≡ output (fitted (length out) (streams_bytes q)) out)) e h

-- ---- `step_with_rows`
pub taken_long : (k : ℕ) → k ≤ 256 → k ≡ length (take k (replicate {A = ℕ} 256 0))
taken_long k h = sym (length-take-le k (replicate {A = ℕ} 256 0) (omega (arith, length-replicate {A = ℕ} 256 0)))

pub rows_lent : (s : List ℕ) (n : ℕ) (rows m : List ℕ) (u : ℕ) (slots : List ℕ) (nodes : List StepNode) (gone k flags : ℕ) (counts held : List ℕ) (cells : List ℤ) →
    length cells ≡ 8192 → Given s n rows k → Stands m u slots nodes gone (plan_of s) → Counters gone counts held flags →
    Given s n rows (length (take k (replicate {A = ℕ} 256 0))) × Stands m u slots nodes gone (plan_of s)
    × ByRow (length (take k (replicate {A = ℕ} 256 0))) cells (replicate 256 0) (take k (replicate 256 0)) (take k (replicate 256 0)) (take k (replicate 256 0))
    × ByPlace n gone held (replicate 127 0) × AsLong counts (length held) flags
rows_lent s n rows m u slots nodes gone k flags counts held cells l g t w =
    let e = taken_long k g.few_rows in (
      subst (Given s n rows) e g,
      t,
      record {
        numbers = omega (arith, g.few_rows);
        sets = omega (arith, g.few_rows, length-replicate {A = ℕ} 256 0);
        widths_long = refl;
        places_long = refl;
        order_long = refl;
      },
      record {
        past = omega (arith, w.past, w.held_long);
        few = omega (arith, w.few, w.held_long);
        nodes = omega (arith, file_few s n g.fine g.count, length-replicate {A = ℕ} 127 0);
        held_none = w.held_none;
        queued_none = zeros 127;
      },
      record { none = w.counts_none; same = omega (arith, w.counts_long, w.held_long); flags = omega (arith, w.held_long) },
    )

-- ---- `stepped_answer`
module _ (s : List ℕ) (n : ℕ) (rows : List ℕ) (k : ℕ) (m : List ℕ) (u h : ℕ) (g : Given s n rows k) (t : Stored s m u h)
    (m' : List ℕ) (a : Arena m' u) (e : (v : ℕ) → held m' v ≡ held m v) where
  settled_is : plan_t (tree_of m' h) ≡ plan_of s
  settled_is = ap plan_t (tree-held m m' h e) ∙ t.is

  pub settled_few : size_t (tree_of m' h) ≤ 126
  settled_few = omega (arith, plan_size (tree_of m' h), ap size settled_is, few_nodes (plan_of s) g.well)

  pub stands : (nodes : List StepNode) (slots : List ℕ) (r : Layout) → LaidOut m' u (plan_t (tree_of m' h)) nodes slots r →
      Stands m' u slots nodes r.places (plan_of s) × (r.places < 258049)
  stands nodes slots r l =
      let d = subst (λ (f : Plan). LaidOut m' u f nodes slots r) settled_is l in
      (record { arena = a; slotted = d.slotted; listed = d.listed; past = d.places }, omega (arith, d.few))
