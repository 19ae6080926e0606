use Prim.Native.Nat.{◌≤◌, ◌+◌}
use Prim.Native.Nat.{◌-◌}
use mathlib.Core.Path.{◌≡◌}
use mathlib.Core.Bool.{true}
use Rattle.stepping.specs.RowBytes.{rows_together}
use Rattle.row_bytes.specs.Streams.{alike, streams_fit}
use Rattle.row_bytes.proofs.source_count.Given as goal

abbrev pub invariant-loop : goal.invariant-loop
invariant-loop l = (l.rows ≤ l.a) × (streams_fit l.s l.a (alike (l.k - l.counter) l.w) ≡ true) × (l.rows + rows_together l.s l.a (alike (l.k - l.counter) l.w) ≡ rows_together l.s l.at (alike l.k l.w))
