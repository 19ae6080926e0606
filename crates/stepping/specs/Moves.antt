-- What can move (02, P3), and the states after each possible step. These are definitions.
use Rattle.std.specs.Prelude.{Bool, true, false, cond, not, ◌&&◌, ◌||◌, List, [], ◌∷◌, ◌++◌, map, ℕ, zero, suc, ◌-◌, eqb, ltb}
use Rattle.row_order.specs.Iso.{Row, Key}
use Rattle.row_order.specs.RowLists.{le}
use Rattle.row_order.specs.Lists.{concat, tab}
use Rattle.plan.specs.Forest.{Forest, none, tree, roots}
use Rattle.plan.specs.Op.{Op, source, filter, projection, union, repartition, coalesce, sort_op, merge_op, global_limit, local_limit, sort_merge_join, hash_join, output_requirement, partial_sort, aggregate, Plan}
use Rattle.semantics.specs.Facts.{Facts, is_nil, counts, at0, at1, facts, known_order}
use Rattle.semantics.specs.Properties.{cuts, any_of}
use Rattle.semantics.specs.Runs.{Streams, proj}
use Rattle.stepping.specs.Outlets.{Placed, Outlet, on, put, inputs}

-- ---- how an operator takes rows, and where it sends them; fs: its children's facts

pub data Manner : Type 0 where
  -- sources don't move, and joins aren't stepped
  still : Manner
  -- any input stream's first row
  passing : Manner
  -- "Merge and preserving repartition move once each open input has a row, and take the first by keys or known order"
  merging : List Key → Manner
  -- "a sort or partial sort moves once all its inputs are closed"; with the preserve mark: of each stream
  sorting : Bool → List Key → Manner

-- A preserving repartition is one whose mark counts (reading 5)
abbrev pub manner : Op → List Facts → Manner
manner (source s) fs = still
manner filter fs = passing
manner (projection cols) fs = passing
manner union fs = passing
manner (repartition p n h ks) fs = cond (counts p (at0 fs)) (merging (known_order (at0 fs))) passing
manner (coalesce f) fs = passing
manner (sort_op p ks f) fs = sorting p ks
manner (merge_op ks f) fs = merging ks
manner (global_limit s f note) fs = passing
manner (local_limit f note) fs = passing
manner (sort_merge_join t on) fs = still
manner (hash_join t on) fs = still
manner (output_requirement ks d f) fs = passing
manner (partial_sort p ks n f) fs = sorting p ks
manner (aggregate ks n) fs = still

-- From input stream i to output stream i; to stream 0; to any of n
pub data Way : Type 0 where
  straight gathered : Way
  scattered : ℕ → Way

abbrev pub sort_way : Bool → Way
sort_way true = straight
sort_way false = gathered

-- A source has no input, so nothing goes its way
abbrev pub way : Op → Way
way (source s) = scattered s.streams
way filter = straight
way (projection cols) = straight
way union = straight
way (repartition p n h ks) = scattered n
way (coalesce f) = gathered
way (sort_op p ks f) = sort_way p
way (merge_op ks f) = gathered
way (global_limit s f note) = gathered
way (local_limit f note) = straight
way (sort_merge_join t on) = straight
way (hash_join t on) = straight
way (output_requirement ks d f) = straight
way (partial_sort p ks n f) = sort_way p
way (aggregate ks n) = straight

-- The output streams to which a row of input stream i may go
abbrev pub outputs : Way → ℕ → List ℕ
outputs straight i = i ∷ []
outputs gathered i = 0 ∷ []
outputs (scattered n) i = tab n (λ k. k)

-- What becomes of a row: "projection picks columns"
abbrev pub shown : Op → Row → Row
shown (source s) x = x
shown filter x = x
shown (projection cols) x = proj cols x
shown union x = x
shown (repartition p n h ks) x = x
shown (coalesce f) x = x
shown (sort_op p ks f) x = x
shown (merge_op ks f) x = x
shown (global_limit s f note) x = x
shown (local_limit f note) x = x
shown (sort_merge_join t on) x = x
shown (hash_join t on) x = x
shown (output_requirement ks d f) x = x
shown (partial_sort p ks n f) x = x
shown (aggregate ks n) x = x

-- ---- open streams: "no row waiting below, cuts aside, can reach them" (reading 3)

abbrev pub reach : Way → List Bool → List Bool
reach straight l = l
reach gathered l = any_of l ∷ []
reach (scattered n) l = tab n (λ k. any_of l)

-- Input streams from which a row may still come: open ones, and those with a row
abbrev pub live : List Bool → Streams → List Bool
live [] ss = []
live (b ∷ bs) [] = []
live (b ∷ bs) (l ∷ ss) = (b || not (is_nil l)) ∷ live bs ss

-- Of each root, which of its output streams are open
abbrev pub opens : Plan → Forest Outlet → List (List Bool)
opens none st = []
opens (tree o c r) none = []
opens (tree o c r) (tree d sc sr) = reach (way o) (live (concat (opens c sc)) (inputs (facts c) (roots sc))) ∷ opens r sr

-- ---- rows taken

pub data Picked : Type 0 where
  nobody : Picked
  picked : Placed → List Placed → Picked

abbrev pub behind : Placed → Picked → Picked
behind x nobody = nobody
behind x (picked y m) = picked y (x ∷ m)

abbrev pub earlier : List Key → Placed → List Placed → Picked → Picked
earlier ks x l nobody = picked x l
earlier ks x l (picked y m) = cond (le ks x.row y.row) (picked x l) (picked y (x ∷ m))

-- Of the rows on the streams that p takes, the first by keys and the earliest of its peers, and the rows that are left. By no keys: the earliest
abbrev pub least : List Key → (ℕ → Bool) → List Placed → Picked
least ks p [] = nobody
least ks p (x ∷ l) = cond (p x.stream) (earlier ks x l (least ks p l)) (behind x (least ks p l))

-- A row taken, and the outlets below without it
pub data Taken : Type 0 where
  nothing_taken : Taken
  taken : Row → Forest Outlet → Taken

abbrev pub left : Outlet → Forest Outlet → Forest Outlet → Picked → Taken
left d c r nobody = nothing_taken
left d c r (picked x l) = taken x.row (tree (record { waiting = l; came = d.came }) c r)

abbrev pub beside : Outlet → Forest Outlet → Taken → Taken
beside d c nothing_taken = nothing_taken
beside d c (taken x r) = taken x (tree d c r)

-- The first by keys of input stream i
abbrev pub take_from : List Key → List Facts → ℕ → Forest Outlet → Taken
take_from ks [] i st = nothing_taken
take_from ks (F ∷ fs) i none = nothing_taken
take_from ks (F ∷ fs) i (tree d c r) =
    cond (ltb i F.streams) (left d c r (least ks (λ s. eqb s i) d.waiting)) (beside d c (take_from ks fs (i - F.streams) r))

-- The first by keys of all streams of the first child
abbrev pub take_any : List Key → List Facts → Forest Outlet → Taken
take_any ks [] st = nothing_taken
take_any ks (F ∷ fs) none = nothing_taken
take_any ks (F ∷ fs) (tree d c r) = left d c r (least ks (λ s. ltb s F.streams) d.waiting)

abbrev pub take_by : Manner → List Facts → ℕ → Forest Outlet → Taken
take_by still fs i st = nothing_taken
take_by passing fs i st = take_from [] fs i st
take_by (merging ks) fs i st = take_from [] fs i st
take_by (sorting true ks) fs i st = take_from ks fs i st
take_by (sorting false ks) fs i st = take_any ks fs st

-- ---- choices of an input stream (readings 4, 6, 7)

-- The streams with a row; k: the number of the first
abbrev pub with_rows : ℕ → Streams → List ℕ
with_rows k [] = []
with_rows k (l ∷ ss) = cond (is_nil l) (with_rows (suc k) ss) (k ∷ with_rows (suc k) ss)

-- The first rows of the streams that have one
abbrev pub heads : ℕ → Streams → List Placed
heads k [] = []
heads k ([] ∷ ss) = heads (suc k) ss
heads k ((x ∷ l) ∷ ss) = record { stream = k; row = x } ∷ heads (suc k) ss

abbrev pub of_picked : Picked → List ℕ
of_picked nobody = []
of_picked (picked x l) = x.stream ∷ []

-- The stream whose first row is first by keys, the lowest among peers
abbrev pub least_head : List Key → Streams → List ℕ
least_head ks ins = of_picked (least ks (λ s. true) (heads 0 ins))

-- Each open stream has a row
abbrev pub ready : List Bool → Streams → Bool
ready [] ss = true
ready (b ∷ bs) [] = true
ready (b ∷ bs) (l ∷ ss) = (not b || not (is_nil l)) && ready bs ss

-- One choice where there are rows at all
abbrev pub once : List ℕ → List ℕ
once [] = []
once (i ∷ l) = 0 ∷ []

-- flags: which input streams are open; ins: the rows that wait on each
abbrev pub choices : Manner → List Bool → Streams → List ℕ
choices still flags ins = []
choices passing flags ins = with_rows 0 ins
choices (merging ks) flags ins = cond (ready flags ins) (least_head ks ins) []
choices (sorting true ks) flags ins = cond (any_of flags) [] (with_rows 0 ins)
choices (sorting false ks) flags ins = cond (any_of flags) [] (once (with_rows 0 ins))

-- ---- moves: for each operator that can move, in node order, for each choice of an input stream, for each choice of an output stream the
-- state after it

abbrev pub States : Type 0
States = List (Forest Outlet)

abbrev pub sent : Op → Outlet → Forest Outlet → ℕ → Taken → States
sent o d r i nothing_taken = []
sent o d r i (taken x c) = map (λ k. tree (put (cuts o) k (shown o x) d) c r) (outputs (way o) i)

-- fs, c: the facts and the outlets of its children; can: its choices of an input stream
abbrev pub own_moves : Op → List Facts → Outlet → Forest Outlet → Forest Outlet → List ℕ → List (List States)
own_moves o fs d c r [] = []
own_moves o fs d c r (i ∷ can) = map (λ j. sent o d r j (take_by (manner o fs) fs j c)) (i ∷ can) ∷ []

abbrev pub inside : (Forest Outlet → Forest Outlet) → List (List States) → List (List States)
inside g ms = map (map (map g)) ms

abbrev pub moves : Plan → Forest Outlet → List (List States)
moves none st = []
moves (tree o c r) none = []
moves (tree o c r) (tree d sc sr) =
    own_moves o (facts c) d sc sr (choices (manner o (facts c)) (concat (opens c sc)) (inputs (facts c) (roots sc))) ++
    (inside (λ x. tree d x sr) (moves c sc) ++ inside (λ x. tree d sc x) (moves r sr))
