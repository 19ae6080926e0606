-- The whole stepping (02, P3): the first state, the caller's list of bytes, and what is delivered. These are definitions.
use Rattle.std.specs.Prelude.{Bool, true, false, cond, not, ◌&&◌, ◌||◌, List, [], ◌∷◌, ◌++◌, map, ℕ, zero, suc, ◌+◌, ◌*◌, ◌%◌, leb, length, get_or}
use Rattle.row_order.specs.Iso.{Row}
use Rattle.row_order.specs.Lists.{tab}
use Rattle.plan.specs.Forest.{Forest, none, tree, roots}
use Rattle.plan.specs.Op.{Op, source, filter, projection, union, repartition, coalesce, sort_op, merge_op, global_limit, local_limit, sort_merge_join, hash_join, output_requirement, partial_sort, aggregate, Plan}
use Rattle.semantics.specs.Facts.{Facts, facts_op, facts}
use Rattle.semantics.specs.Runs.{Streams, Env, next_s, past}
use Rattle.semantics.specs.Properties.{is_join, is_aggregate}
use Rattle.stepping.specs.Outlets.{Placed, Outlet, spread, by_stream}
use Rattle.stepping.specs.Moves.{States, moves}

-- ---- the list of bytes

-- "A list that ends starts over; an empty one counts as zeros."
abbrev pub byte_at : List ℕ → ℕ → ℕ
byte_at bytes i = get_or bytes (i % length bytes) 0

-- What was drawn, and how many bytes are taken then
pub record Drawn (A : Type 0) : Type 0 where
  pub value : A
  pub next : ℕ

-- "the list's next byte decides each, modulo the choices; a choice of one .. takes no byte". other: where there is no choice
abbrev pub draw : {A : Type 0} → List ℕ → ℕ → A → List A → Drawn A
draw bytes i other l =
    cond (leb (length l) 1) (record { value = get_or l 0 other; next = i })
    (record { value = get_or l (byte_at bytes i % length l) other; next = suc i })

-- "taken modulo the operators that can move, in node order. Where that operator has a choice of stream, input before output"
abbrev pub chosen : List ℕ → ℕ → Forest Outlet → List (List States) → Drawn (Forest Outlet)
chosen bytes i st ms =
    let p = draw bytes i [] ms in
    let q = draw bytes p.next [] p.value in
    draw bytes q.next st q.value

-- ---- states. rows: of source i on its stream k

-- "Filters pass every row here."
abbrev pub unfiltered : (ℕ → ℕ → List Row) → Env
unfiltered rows = record { rows = rows; test = λ j r. true }

-- The rows of a source wait above it
abbrev pub given : (ℕ → ℕ → List Row) → ℕ → Op → List Placed
given rows i (source s) = spread 0 (tab s.streams (rows i))
given rows i filter = []
given rows i (projection cols) = []
given rows i union = []
given rows i (repartition p n h ks) = []
given rows i (coalesce f) = []
given rows i (sort_op p ks f) = []
given rows i (merge_op ks f) = []
given rows i (global_limit s f note) = []
given rows i (local_limit f note) = []
given rows i (sort_merge_join t on) = []
given rows i (hash_join t on) = []
given rows i (output_requirement ks d f) = []
given rows i (partial_sort p ks n f) = []
given rows i (aggregate ks n) = []

abbrev pub start : (ℕ → ℕ → List Row) → ℕ → Plan → Forest Outlet
start rows i none = none
start rows i (tree o c r) = tree (record { waiting = given rows i o; came = [] }) (start rows (next_s o i) c) (start rows (past next_s c (next_s o i)) r)

-- The state after n steps, or as many as there are
abbrev pub after : Plan → List ℕ → ℕ → ℕ → Forest Outlet → Forest Outlet
after f bytes zero i st = st
after f bytes (suc n) i st = let m = chosen bytes i st (moves f st) in after f bytes n m.next m.value

-- All states on the way
abbrev pub states : Plan → List ℕ → ℕ → ℕ → Forest Outlet → States
states f bytes zero i st = st ∷ []
states f bytes (suc n) i st = let m = chosen bytes i st (moves f st) in st ∷ states f bytes n m.next m.value

-- How many steps are left at most: for each row that waits, the operators above it; k: those above the roots
abbrev pub work : ℕ → Forest Outlet → ℕ
work k none = 0
work k (tree d c r) = k * length d.waiting + (work (suc k) c + work k r)

-- The last state
abbrev pub finished : Plan → (ℕ → ℕ → List Row) → List ℕ → Forest Outlet
finished f rows bytes = after f bytes (work 0 (start rows 0 f)) 0 (start rows 0 f)

-- From the first state to the last
abbrev pub stepping : Plan → (ℕ → ℕ → List Row) → List ℕ → States
stepping f rows bytes = states f bytes (work 0 (start rows 0 f)) 0 (start rows 0 f)

-- For every node the rows that wait at the node above, by stream; at the root: what is delivered
abbrev pub waits : Plan → Forest Outlet → Forest Streams
waits none st = none
waits (tree o c r) none = none
waits (tree o c r) (tree d sc sr) = tree (by_stream (facts_op o (facts c)).streams d.waiting) (waits c sc) (waits r sr)

-- What the roots have put out and nobody has taken
abbrev pub root_streams : List Facts → List Outlet → List Streams
root_streams [] ds = []
root_streams (F ∷ fs) [] = []
root_streams (F ∷ fs) (d ∷ ds) = by_stream F.streams d.waiting ∷ root_streams fs ds

-- What a finished stepping delivers: the root's streams
abbrev pub delivered : Plan → (ℕ → ℕ → List Row) → List ℕ → Streams
delivered f rows bytes = get_or (root_streams (facts f) (roots (finished f rows bytes))) 0 []

-- "A plan with a join or an aggregate isn't stepped"
abbrev pub is_unstepped : Op → Bool
is_unstepped o = is_join o || is_aggregate o

abbrev pub can_step : Plan → Bool
can_step none = true
can_step (tree o c r) = not (is_unstepped o) && (can_step c && can_step r)
