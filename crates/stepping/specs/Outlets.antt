-- The state of a stepping (02, P3): the rows that wait, and what has come to each output stream. These are definitions.
use Rattle.std.specs.Prelude.{Bool, true, cond, ◌&&◌, List, [], ◌∷◌, ◌++◌, map, ℕ, suc, ◌+◌, eqb, ltb, leb, Option, Some, None}
use Rattle.row_order.specs.Iso.{Row}
use Rattle.row_order.specs.Lists.{tab}
use Rattle.semantics.specs.Facts.{Facts}
use Rattle.semantics.specs.Properties.{Cut}
use Rattle.semantics.specs.Runs.{Streams}

-- A row on an output stream of a node
pub record Placed : Type 0 where
  pub stream : ℕ
  pub row : Row

abbrev pub place : ℕ → Row → Placed
place s x = record { stream = s; row = x }

-- What a node has put out and the node above it has not yet taken, in the order in which it came: these rows wait at the node above. At the
-- root they are delivered. `came`: the output stream of each row that came to one, cut or not
pub record Outlet : Type 0 where
  pub waiting : List Placed
  pub came : List ℕ

-- The rows of stream k
abbrev pub on : ℕ → List Placed → List Row
on k [] = []
on k (p ∷ l) = cond (eqb p.stream k) (p.row ∷ on k l) (on k l)

-- How many rows came to stream k
abbrev pub tally : ℕ → List ℕ → ℕ
tally k [] = 0
tally k (s ∷ l) = cond (eqb s k) (suc (tally k l)) (tally k l)

-- n streams
abbrev pub by_stream : ℕ → List Placed → Streams
by_stream n l = tab n (λ k. on k l)

-- The rows of several streams, stream by stream; k: the number of the first
abbrev pub spread : ℕ → Streams → List Placed
spread k [] = []
spread k (l ∷ ss) = map (place k) l ++ spread (suc k) ss

-- ---- cuts: "A row that fetch or skip cuts moves and vanishes." Each output stream counts the rows that come to it (reading 8)

abbrev pub below : ℕ → Option ℕ → ℕ → Bool
below skip None c = true
below skip (Some n) c = ltb c (skip + n)

-- Whether a stream to which c rows came keeps the next one
abbrev pub keeps : Cut → ℕ → Bool
keeps k c = leb k.skip c && below k.skip k.fetch c

abbrev pub put : Cut → ℕ → Row → Outlet → Outlet
put k s x d =
    record {
      waiting = cond (keeps k (tally s d.came)) (d.waiting ++ (place s x ∷ [])) d.waiting;
      came = s ∷ d.came;
    }

-- ---- the inputs of a node: its children's output streams, counted through (reading 1); fs, ds: its children's facts and outlets

abbrev pub inputs : List Facts → List Outlet → Streams
inputs [] ds = []
inputs (F ∷ fs) [] = []
inputs (F ∷ fs) (d ∷ ds) = by_stream F.streams d.waiting ++ inputs fs ds
