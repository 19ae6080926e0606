-- The tables as they are read hold the first state of a dry run. Assumes nothing.
use Rattle.std.specs.Prelude.{◌≡◌, List, ℕ, zero, suc, ◌+◌, ◌<◌, length, get_or}
use Rattle.std.proofs.Common.{sym, ap, ◌∙◌, subst, inl, inr, arith}
use Rattle.row_order.specs.Lists.{All, all_nil, all_cons, tab}
use Rattle.row_order.specs.ListLaws.{length-tab, get_or-tab}
use Rattle.plan.specs.Op.{Plan}
use Rattle.semantics.specs.Facts.{facts}
use Rattle.stepping.specs.Outlets.{Placed}
use Rattle.stepping.specs.RowBytes.{rows_in}
use Rattle.stepping.specs.Stepping.{start}
use Rattle.step_tables.specs.Places.{total, inner, Tables, Shows, Absent, Once}
use Rattle.step_tables.specs.Rows.{row_in}
use Rattle.step_tables.specs.Found.{Known}
use Rattle.step_tables.specs.Complete.{Complete}
use Rattle.step_tables.specs.Passes.{node_in, Laid}
use Rattle.step_tables.specs.declared.StepNode.{StepNode}
use Rattle.step_tables.proofs.FirstRows.{Of, rows_of, first_shown, nowhere, listed_begins}
use Rattle.row_reader.specs.Reading.{RowTables}
use Rattle.row_reader.specs.Plans.{row_count, plan_rows, AllRead}
use Rattle.row_reader.specs.Counts.{Zeros}

-- The stepper's tables of these; counts: how many rows came to each place
abbrev pub step_tables : RowTables → List ℕ → List ℕ → Tables
step_tables T order counts = record { rows = row_in T.cells T.nulls T.widths; places = T.places; order = order; counts = counts }

pub first_state : (f : Plan) (rows : List ℕ) (T : RowTables) (order counts : List ℕ) → AllRead (plan_rows f rows) (row_count f rows) T order → Zeros counts →
    Shows (step_tables T order counts) 0 0 (total (facts f)) f (start (rows_in f rows) 0 f)
first_state f rows T order counts h z =
    first_shown (rows_in f rows) f
    (listed_begins (step_tables T order counts) (plan_rows f rows) (h.ordered ∙ ap (λ (n : ℕ). tab n (λ i. i)) (sym h.count))
    (λ i l. h.placed i (omega (arith, h.count))) (λ i l. h.rows i (omega (arith, h.count))) z)

-- ---- 0, 1, .. n - 1

pub known_tab : (n : ℕ) → Known (tab n (λ i. i)) n
known_tab n j h = let l = length-tab n (λ i. i) in let e = get_or-tab n (λ i. i) 0 j (omega (arith, l)) in omega (arith, l, e)

pub complete_tab : (n : ℕ) → Complete (tab n (λ i. i)) n
complete_tab n r h = (r, omega (arith, length-tab n (λ i. i)), get_or-tab n (λ i. i) 0 r h)

once_from : (n : ℕ) (g : ℕ → ℕ) → ((i j : ℕ) → i < j → j < n → g j ≡ g i → ⊥) → Once (tab n g)
once_from zero g h = tt
once_from (suc n) g h = (
  absent n (λ i. g (suc i)) (λ i l. h zero (suc i) (omega arith) (omega arith)),
  once_from n (λ i. g (suc i)) (λ i j k l. h (suc i) (suc j) (omega arith) (omega arith)),
)
  where
    absent : (n : ℕ) (k : ℕ → ℕ) → ((i : ℕ) → i < n → k i ≡ g zero → ⊥) → Absent (g zero) (tab n k)
    absent zero k h = tt
    absent (suc n) k h = (h zero (omega arith), absent n (λ i. k (suc i)) (λ i l. h (suc i) (omega arith)))

pub once_tab : (n : ℕ) → Once (tab n (λ i. i))
once_tab n = once_from n (λ i. i) (λ i j k l e. omega arith)

-- The order that is read
module _ {all : List Placed} {R : ℕ} {T : RowTables} {order : List ℕ} (h : AllRead all R T order) where
  pub order_known : Known order R
  order_known = subst (λ (l : List ℕ). Known l R) (sym h.ordered) (known_tab R)

  pub order_complete : Complete order R
  order_complete = subst (λ (l : List ℕ). Complete l R) (sym h.ordered) (complete_tab R)

  pub order_once : Once order
  order_once = subst Once (sym h.ordered) (once_tab R)

-- ---- places: what `hold_all` asks of those that are read, and `read_rows` of the nodes'

all_at : {P : Placed → Type 0} {l : List Placed} → All P l → (i : ℕ) → i < length l → P (get_or l i nowhere)
all_at all_nil i h = absurd (omega arith)
all_at (all_cons p a) zero h = p
all_at (all_cons p a) (suc i) h = all_at a i (omega arith)

pub places_inside : (f : Plan) (rows : List ℕ) {T : RowTables} {order : List ℕ} → AllRead (plan_rows f rows) (row_count f rows) T order →
    (i : ℕ) → i < row_count f rows → get_or T.places i 0 < total (facts f) + inner f
places_inside f rows {T} h i l = go (all_at (rows_of (rows_in f rows) 0 0 (total (facts f)) f) i (omega (arith, h.count)))
  where
    go : Of 0 (total (facts f)) f (get_or (plan_rows f rows) i nowhere) → get_or T.places i 0 < total (facts f) + inner f
    go (inl w) = omega (arith, h.placed i l, w.1)
    go (inr w) = omega (arith, h.placed i l, w.1)

pub outs_few : {t : List StepNode} {n len : ℕ} → Laid t n len → (j : ℕ) → j < n → (node_in t j).out < 1000000000
outs_few l j h = omega (arith, l.before_inputs j h, l.among j h, l.few)
