use mathlib.Core.Path.{ap}
use mathlib.Core.Bool.{Bool, ◌&&◌}
use lib.Dec.{ltb}
use lib.ListN.{get_or}
use Rattle.column_rules.proofs.column_ok.Goals as goal

pub returns : goal.returns
returns c = ap (λ (t : Bool). ltb (get_or c.args.l.now c.args.i 0) c.args.limit && t) c.fresh_ok.ensures
