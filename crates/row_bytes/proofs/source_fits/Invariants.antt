use Prim.Native.Nat.{◌≤◌}
use Prim.Native.Nat.{◌-◌}
use mathlib.Core.Path.{◌≡◌}
use lib.ListN.{length}
use Rattle.row_bytes.specs.Streams.{alike, streams_fit}
use Rattle.row_bytes.proofs.source_fits.Given as goal

abbrev pub invariant-loop : goal.invariant-loop
invariant-loop l = (l.a ≤ length l.s) × (streams_fit l.s l.a (alike (l.k - l.counter) l.w) ≡ streams_fit l.s l.at (alike l.k l.w))
