use mathlib.Core.Path.{ap₂}
use mathlib.Core.Bool.{◌&&◌}
use Rattle.column_rules.proofs.columns_rule.Goals as goal

pub returns : goal.returns
returns c = ap₂ ◌&&◌ (ap₂ ◌&&◌ c.keys_below.ensures c.set_ok.ensures)
    (ap₂ ◌&&◌ c.child_columns_ok.ensures c.right_columns_ok.ensures)
