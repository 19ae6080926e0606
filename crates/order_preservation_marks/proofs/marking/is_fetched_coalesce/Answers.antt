use mathlib.Core.Path.{ap, ap₂, ◌∙◌}
use mathlib.Core.Bool.{◌&&◌}
use Rattle.std.specs.Prelude.{is_some}
use Rattle.order_preservation_marks.proofs.marking.is_fetched_coalesce.Goals as goal

pub returns : goal.returns
returns c = ap₂ ◌&&◌ c.is_coalesce_partitions.ensures (c.is_some.ensures ∙ ap is_some c.fetch.ensures)
