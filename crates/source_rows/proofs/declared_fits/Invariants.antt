use mathlib.Core.Path.{◌≡◌}
use mathlib.Core.Bool.{true}
use Rattle.plan_codec.specs.Reading.{plan_of}
use Rattle.stepping.specs.RowBytes.{streams_ok, rows_in}
use Rattle.stepping.specs.Answers.{sources_ok}
use Rattle.source_rows.specs.Files.{Taken}
use Rattle.source_rows.specs.Sources.{ops_from, widths_from}
use Rattle.source_rows.specs.Declared.{kept_from}
use Rattle.source_rows.proofs.declared_fits.Given as goal

abbrev pub invariant-loop-j : goal.invariant-loop-j
invariant-loop-j l = Taken l.plan l.n × (streams_ok l.rows l.at (widths_from l.plan l.n l.j) ≡ true) × (kept_from l.rows l.at (ops_from l.plan l.n l.j) ≡ sources_ok (rows_in (plan_of l.plan) l.rows) (plan_of l.plan))
