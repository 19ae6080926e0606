use Prim.Native.Nat.{◌-◌}
use mathlib.Core.Path.{◌≡◌}
use mathlib.Core.Bool.{true}
use Rattle.row_order.specs.Lists.{concat}
use Rattle.stepping.specs.RowBytes.{streams_at}
use Rattle.stepping.specs.Answers.{one_cell}
use Rattle.row_bytes.specs.Streams.{alike, streams_fit}
use Rattle.row_bytes.proofs.one_cell.Given as goal

abbrev pub invariant-loop-j : goal.invariant-loop-j
invariant-loop-j l = (streams_fit l.s l.a (alike (l.k - l.j) l.w) ≡ true) × (one_cell l.c (concat (streams_at l.s l.a (alike (l.k - l.j) l.w))) ≡ one_cell l.c (concat (streams_at l.s l.at (alike l.k l.w))))
