use mathlib.Core.Path.{sym, ap, ap₂, ◌∙◌}
use mathlib.Core.Bool.{not, ◌&&◌}
use Rattle.std.proofs.Math.Bool.{not-not}
use Rattle.std.specs.Prelude.{is_some}
use Rattle.bottleneck_removal.proofs.marks.is_bottleneck.Goals as goal

pub returns : goal.returns
returns c = ap₂ ◌&&◌ c.is_coalesce_partitions.ensures (sym (not-not _) ∙ ap not (sym c.is_none.ensures ∙ ap is_some c.fetch.ensures))
