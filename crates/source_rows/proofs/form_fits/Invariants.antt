use Prim.Native.Nat.{◌≤◌}
use mathlib.Core.Path.{◌≡◌}
use lib.ListN.{length}
use Rattle.plan_codec.specs.Reading.{plan_of}
use Rattle.stepping.specs.RowBytes.{streams_ok, form_ok}
use Rattle.source_rows.specs.Files.{Taken}
use Rattle.source_rows.specs.Sources.{widths_from}
use Rattle.source_rows.proofs.form_fits.Given as goal

abbrev pub invariant-loop-j : goal.invariant-loop-j
invariant-loop-j l = (l.at ≤ length l.rows) × Taken l.plan l.n × (streams_ok l.rows l.at (widths_from l.plan l.n l.j) ≡ form_ok (plan_of l.plan) l.rows)
