use mathlib.Core.Path.{ap, ap₂}
use mathlib.Core.Bool.{not, ◌&&◌}
use Rattle.child_requirements.proofs.fetch_blocks.Goals as goal

pub returns : goal.returns
returns c = ap₂ ◌&&◌ c.is_some.ensures
    (ap not (ap₂ ◌&&◌ c.supports_limit_pushdown.ensures c.cardinality_equal.ensures))
