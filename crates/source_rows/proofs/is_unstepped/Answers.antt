use mathlib.Core.Path.{ap}
use Rattle.source_rows.specs.Nodes.{unstepped_byte}
use Rattle.source_rows.proofs.is_unstepped.Goals as goal

pub returns : goal.returns
returns c = ap unstepped_byte c.byte_of-k.ensures
