use native.Mathlib.Omega.{arith}
use Rattle.node_lines.specs.Laws.{put_put}
use Rattle.node_lines.proofs.put_count.Goals as goal

pub returns : goal.returns
returns c = put_put (omega arith) c.put_number-e.ensures c.put.ensures
