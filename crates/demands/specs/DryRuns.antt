-- What a dry run that returns 0 leaves (02, P3). These are definitions.
use Rattle.std.specs.Prelude.{◌≡◌, List, [], ◌∷◌, ◌++◌, ℕ, ◌<◌, ◌≤◌, length, get_or, drop}
use Rattle.std.proofs.Math.Bool.{true, false}
use Rattle.row_order.specs.Iso.{Key, before}
use Rattle.row_order.specs.Lists.{All}
use Rattle.plan.specs.Forest.{Forest, roots}
use Rattle.plan.specs.Op.{Plan}
use Rattle.plan_codec.specs.Reading.{plan, reading}
use Rattle.semantics.specs.Facts.{at0, facts}
use Rattle.semantics.specs.Check.{check}
use Rattle.semantics.specs.Runs.{Streams, Run}
use Rattle.semantics.specs.Holds.{Holds}
use Rattle.stepping.specs.Moves.{moves}
use Rattle.stepping.specs.Stepping.{unfiltered, stepping, finished, delivered, waits}
use Rattle.stepping.specs.RowBytes.{rows_in, streams_bytes}
use Rattle.step_answers.specs.Answers.{output_after}
use Rattle.stepping.proofs.Theorems.FirstJoin.{NoJoin}
use Rattle.demands.specs.OrderKept.{AllFed}

-- What a dry run that returns 0 leaves, over the plan f. s: the file; rows: the rows' bytes; bytes: the caller's list; out: the lent output
pub record Delivers (s rows bytes out : List ℕ) (f : Plan) : Type 0 where
  pub read : reading s ≡ plan f
  -- no node is a join or an aggregate
  pub free : NoJoin f
  -- a run over the rows that came in, in which every filter's test is true
  pub run : Forest Streams
  pub runs : Run (unfiltered (rows_in f rows)) 0 0 f run
  -- its root's streams are what the stepping by the caller's bytes delivers once nothing can move any more
  pub streams : Streams
  pub root : roots run ≡ streams ∷ []
  pub delivered_by_steps : streams ≡ delivered f (rows_in f rows) bytes
  pub ended : moves f (finished f (rows_in f rows) bytes) ≡ []
  -- and their bytes are what is written; the bytes past them are the lent output's
  pub fits : length (streams_bytes streams) ≤ length out
  pub written : output_after s rows bytes out ≡ streams_bytes streams ++ drop (length (streams_bytes streams)) out

-- No row of a stream stands after a row that it sorts before
abbrev pub InOrder : List Key → Streams → Type 0
InOrder ks streams =
    (i m n : ℕ) → let stream = get_or streams i [] in m < n → n < length stream → before ks (get_or stream n []) (get_or stream m []) ≡ false

-- What holds besides where the plan passes the order check
pub record Ordered (s rows bytes out : List ℕ) (f : Plan) : Type 0 where
  pub delivers : Delivers s rows bytes out f
  -- in that run no operator is fed out of the order that it wants
  pub fed : AllFed f delivers.run
  -- what is delivered is in the root's known order, and has the root's constants and equal columns
  pub in_order : InOrder (at0 (facts f)).order delivers.streams
  pub known : Holds (at0 (facts f)) delivers.streams
  -- and in every state of the stepping the rows that wait at an operator are in the order that it wants of them
  pub at_every_step : All (λ state. AllFed f (waits f state)) (stepping f (rows_in f rows) bytes)
