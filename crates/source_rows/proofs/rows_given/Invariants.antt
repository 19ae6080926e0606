use Prim.Native.Nat.{◌≤◌, ◌+◌}
use mathlib.Core.Path.{◌≡◌}
use mathlib.Core.Bool.{true}
use mathlib.Core.List.{[]}
use lib.ListN.{length}
use Rattle.plan_codec.specs.Reading.{plan_of}
use Rattle.semantics.specs.SourceRows.{sources_of}
use Rattle.stepping.specs.RowBytes.{streams_ok, rows_together, stream_widths}
use Rattle.source_rows.specs.Files.{Taken}
use Rattle.source_rows.specs.Sources.{widths_from}
use Rattle.source_rows.proofs.rows_given.Given as goal

abbrev pub invariant-loop-j : goal.invariant-loop-j
invariant-loop-j l = (l.at ≤ length l.rows) × Taken l.plan l.n × (streams_ok l.rows l.at (widths_from l.plan l.n l.j) ≡ true) × (l.count ≤ l.at) × (l.count + rows_together l.rows l.at (widths_from l.plan l.n l.j) ≡ rows_together l.rows 0 (stream_widths (sources_of (plan_of l.plan) [])))
