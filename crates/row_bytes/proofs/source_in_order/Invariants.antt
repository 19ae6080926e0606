use Prim.Native.Nat.{◌-◌}
use mathlib.Core.Path.{◌≡◌}
use mathlib.Core.Bool.{true}
use mathlib.Core.List.{map}
use Rattle.row_order.specs.Packed.{key_of}
use Rattle.plan.specs.WellFormed.{every}
use Rattle.stepping.specs.RowBytes.{streams_at}
use Rattle.stepping.specs.Answers.{in_order}
use Rattle.row_bytes.specs.Streams.{alike, streams_fit}
use Rattle.row_bytes.proofs.source_in_order.Given as goal

abbrev pub invariant-loop : goal.invariant-loop
invariant-loop l = (streams_fit l.s l.a (alike (l.k - l.counter) l.w) ≡ true) × (every (in_order (map key_of l.keys)) (streams_at l.s l.a (alike (l.k - l.counter) l.w)) ≡ every (in_order (map key_of l.keys)) (streams_at l.s l.at (alike l.k l.w)))
