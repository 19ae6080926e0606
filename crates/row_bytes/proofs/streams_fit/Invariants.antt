use Prim.Native.Nat.{◌≤◌}
use mathlib.Core.Path.{◌≡◌}
use lib.ListN.{length, drop}
use Rattle.stepping.specs.RowBytes.{streams_ok}
use Rattle.row_bytes.proofs.streams_fit.Given as goal

abbrev pub invariant-loop-j : goal.invariant-loop-j
invariant-loop-j l = (l.at ≤ length l.s) × (streams_ok l.s l.at (drop l.j l.widths) ≡ streams_ok l.s 0 l.widths)
