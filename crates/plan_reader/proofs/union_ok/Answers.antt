use mathlib.Core.Path.{ap}
use mathlib.Core.Bool.{Bool, ◌||◌, not}
use lib.Dec.{eqb}
use lib.ListN.{get_or}
use Rattle.plan_reader.proofs.union_ok.Goals as goal

pub returns : goal.returns
returns c = ap (λ (t : Bool). not (eqb (get_or c.args.r.now 0 0) 4) || t) c.same_widths.ensures
