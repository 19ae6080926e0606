use native.Mathlib.Omega.{arith}
use Rattle.node_lines.specs.Laws.{put_put}
use Rattle.plan_listing.proofs.refuse.Goals as goal

pub returns : goal.returns
returns c = put_put (omega arith) c.put_number-e.ensures c.put.ensures
