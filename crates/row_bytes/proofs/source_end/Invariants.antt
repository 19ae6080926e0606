use Prim.Native.Nat.{◌-◌}
use mathlib.Core.Path.{◌≡◌}
use mathlib.Core.Bool.{true}
use Rattle.row_bytes.specs.Streams.{alike, streams_fit, streams_end}
use Rattle.row_bytes.proofs.source_end.Given as goal

abbrev pub invariant-loop : goal.invariant-loop
invariant-loop l = (streams_fit l.s l.a (alike (l.k - l.counter) l.w) ≡ true) × (streams_end l.s l.a (alike (l.k - l.counter) l.w) ≡ streams_end l.s l.at (alike l.k l.w))
