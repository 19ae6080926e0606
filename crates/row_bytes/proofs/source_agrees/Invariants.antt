use Prim.Native.Nat.{◌-◌}
use mathlib.Core.Path.{◌≡◌}
use mathlib.Core.Bool.{true}
use Rattle.plan.specs.WellFormed.{every}
use Rattle.stepping.specs.RowBytes.{row_at, streams_at}
use Rattle.row_bytes.specs.Streams.{alike, streams_fit}
use Rattle.row_bytes.specs.Constants.{agrees}
use Rattle.row_bytes.proofs.source_agrees.Given as goal

abbrev pub invariant-loop : goal.invariant-loop
invariant-loop l = (streams_fit l.s l.a (alike (l.k - l.counter) l.w) ≡ true) × (every (every (agrees (row_at l.s l.first l.w) l.c)) (streams_at l.s l.a (alike (l.k - l.counter) l.w)) ≡ every (every (agrees (row_at l.s l.first l.w) l.c)) (streams_at l.s l.at (alike l.k l.w)))
