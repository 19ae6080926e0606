use mathlib.Core.Bool.{◌&&◌}
use mathlib.Core.Path.{ap₂}
use Rattle.push_requirements.proofs.requirements.needs_merge.Goals as goal

pub returns : goal.returns
returns c = ap₂ ◌&&◌ c.several_streams.ensures c.is_single.ensures
